use Rattle.std.specs.Prelude.{◌≡◌, ℕ}
use Rattle.plank_bits.specs.Words.{has}
use Rattle.plank_method.specs.Marks.{unmarked_below}
use Rattle.plank_method.proofs.numbers.unmarked.Given as goal

abbrev pub invariant-loop-number : goal.invariant-loop-number
invariant-loop-number l = (k : ℕ) → has l.set k ≡ unmarked_below (has l.facts) (has l.marks) l.first l.number k
