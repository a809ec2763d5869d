use Rattle.std.specs.Prelude.{◌≡◌, ℕ}
use Rattle.plank_bits.specs.Words.{has}
use Rattle.plank_follow.specs.Kinds.{kind_below}
use Rattle.plank_follow.proofs.kinds.of_kind.Given as goal

abbrev pub invariant-loop-number : goal.invariant-loop-number
invariant-loop-number l = (k : ℕ) → has l.set k ≡ kind_below l.program.header l.program.methods l.method l.past l.number k
