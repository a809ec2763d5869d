-- The marks of a location, one number after the other.
use Rattle.std.specs.Prelude.{ℕ, ◌+◌, Bool, not, ◌&&◌, ◌==◌, List, is_some}
use Rattle.plank_prog.specs.declared.headers.Header.{Header}
use Rattle.plank_prog.specs.declared.methods.Method.{Method}
use Rattle.plank_pic.specs.Below.{some_below}
use Rattle.plank_fact.specs.Tables.{fact_at}

-- k is one of the numbers below n, and passes
abbrev pub one_below : (ℕ → Bool) → ℕ → ℕ → Bool
one_below test n k = some_below (λ i. test i && (k == i)) n

-- k is the number of a fact of a method, below n
abbrev pub facts_below : Header → List Method → ℕ → ℕ → ℕ → Bool
facts_below h methods m n k = one_below (λ i. is_some (fact_at h methods m i)) n k

-- it is one of some facts, whose mark is not set
abbrev pub is_claimed : (ℕ → Bool) → (ℕ → Bool) → ℕ → ℕ → Bool
is_claimed facts marks first i = facts i && not (marks (first + i))

abbrev pub unmarked_below : (ℕ → Bool) → (ℕ → Bool) → ℕ → ℕ → ℕ → Bool
unmarked_below facts marks first n k = one_below (is_claimed facts marks first) n k

-- k is the mark of the i-th fact, which is one of these
abbrev pub is_put : (ℕ → Bool) → ℕ → ℕ → ℕ → Bool
is_put facts first k i = facts i && (k == (first + i))
