use Rattle.std.specs.Prelude.{◌≡◌, ℕ}
use Rattle.plank_bits.specs.Words.{has}
use Rattle.plank_method.specs.Marks.{facts_below}
use Rattle.plank_method.proofs.numbers.facts_of.Given as goal

abbrev pub invariant-loop-number : goal.invariant-loop-number
invariant-loop-number l = (k : ℕ) → has l.set k ≡ facts_below l.program.header l.program.methods l.method l.number k
