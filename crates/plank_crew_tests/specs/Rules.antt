-- What rules of a table force.
use Rattle.std.specs.Prelude.{◌≡◌, ℕ, ◌*◌, ◌<◌, ◌≤◌, Bool, true, List, slice_index_or}
use Rattle.plank_crew_tests.specs.declared.tables.Rule.{Rule}

-- each mark of a range is set
abbrev pub AreSet : (ℕ → Bool) → ℕ → ℕ → Type 0
AreSet marks low high = (j : ℕ) → low ≤ j → j < high → marks j ≡ true

-- a rule forces the mark k in the method m
pub record Applies (r : Rule) (m : ℕ) (marks : ℕ → Bool) (k : ℕ) : Type 0 where
  pub method : r.method ≡ m
  pub mark : r.mark ≡ k
  pub set : AreSet marks r.from r.until

-- one of the first n rules forces the mark, which is one of the words
pub record IsForced (rules : List Rule) (words n m : ℕ) (marks : ℕ → Bool) (k : ℕ) : Type 0 where
  pub below : k < 64 * words
  pub rule : ℕ
  pub within : rule < n
  pub applies : (d : Rule) → Applies (slice_index_or rules rule d) m marks k
