-- What becomes of a list of tokens: its tree, or the first fault.
use Rattle.std.specs.Prelude.{◌≡◌, List, [], ◌∷◌}
use Rattle.plank_base.specs.declared.places.Place.{Place}
use Rattle.plank_lex.specs.declared.tokens.Token.{Token}
use Rattle.plank_ast.specs.declared.texts.Text.{Text}
use Rattle.plank_parse.specs.declared.faults.ParseFault.{ParseFault}
use Rattle.plank_parse.specs.declared.faults.ParseFault.TheVariants as fault
use Rattle.plank_parse.specs.Readers.{Found, read, stopped, too_deep}
use Rattle.plank_parse.specs.Texts.{Parts, parts_of}

-- the first of the tokens stands at this place
abbrev pub StandsAt : Place → List Token → Type 0
StandsAt p [] = ⊥
StandsAt p (t ∷ ts) = p ≡ t.place

-- all tokens are read, and these are their parts
abbrev pub IsReadingOf : Found Parts → Text → Type 0
IsReadingOf found t = found ≡ read (parts_of t) []

-- a fault has its cause
abbrev pub IsFaultOf : Found Parts → ParseFault → Type 0
IsFaultOf found (fault.Unexpected p) = (rest : List Token) × (found ≡ stopped rest) × StandsAt p rest
IsFaultOf found (fault.TooDeep p) = (rest : List Token) × (found ≡ too_deep rest) × StandsAt p rest
IsFaultOf found fault.OutOfMemory = Unit {0}
