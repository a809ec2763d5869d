use Rattle.std.specs.Prelude.{◌≡◌}
use Rattle.plank_bits.specs.Words.{has}
use Rattle.plank_claim.specs.Claims.{listed_below}
use Rattle.plank_follow.specs.Literals.{now_at}
use Rattle.plank_follow.proofs.literals.presents.Given as goal

abbrev pub invariant-loop-number : goal.invariant-loop-number
invariant-loop-number l = l.literals.items ≡ listed_below (now_at l.program.header l.program.methods l.method (has l.set)) l.number
