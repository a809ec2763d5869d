-- Places in a text: where it starts, and how bytes move on from one.
use Rattle.std.specs.Prelude.{◌≡◌, ℕ, ◌+◌, ◌<◌, ◌==◌, ◌⊎◌, List, fold, if◌then◌else◌}
use Rattle.plank_base.specs.declared.places.Place.{Place}
use Rattle.plank_lex.specs.Bytes.{line_feed}

-- the place of the first byte
abbrev pub start : Place
start = record { line = 1; column = 1; byte = 0 }

-- the place after a byte at p: a line feed ends the line
abbrev pub after : Place → ℕ → Place
after p b = record {
  line = if b == line_feed then p.line + 1 else p.line;
  column = if b == line_feed then 1 else p.column + 1;
  byte = p.byte + 1;
}

-- the place after these bytes, the first of which is at p
abbrev pub place_after : Place → List ℕ → Place
place_after p bytes = fold after p bytes

-- p stands before q, by its bytes, and by its line and column
pub record IsBefore (p q : Place) : Type 0 where
  pub bytes : p.byte < q.byte
  pub lines : (p.line < q.line) ⊎ ((p.line ≡ q.line) × (p.column < q.column))
