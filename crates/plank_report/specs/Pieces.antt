-- What every line is made of.
use Rattle.std.specs.Prelude.{ℕ, List, [], ◌∷◌, ◌++◌, codes}
use Rattle.std.specs.Fmt.{decimal}
use Rattle.plank_base.specs.declared.places.Place.{Place}

-- a text and the line feed after it
abbrev pub line : List ℕ → List ℕ
line bytes = bytes ++ 10 ∷ []

-- a line one level further in
abbrev pub inner_line : List ℕ → List ℕ
inner_line bytes = codes "  " ++ line bytes

-- line and column, in decimal
abbrev pub place_text : Place → List ℕ
place_text p = decimal p.line ++ codes ":" ++ decimal p.column
