use Rattle.std.specs.Prelude.{◌≡◌}
use Rattle.plank_bits.specs.Words.{has}
use Rattle.plank_claim.specs.Claims.{listed_below}
use Rattle.plank_rely.specs.Candidates.{candidate}
use Rattle.plank_rely.proofs.candidates.candidates.Given as goal

abbrev pub invariant-loop-number : goal.invariant-loop-number
invariant-loop-number l = l.numbers.items ≡ listed_below (candidate l.program.header l.program.methods l.method (has l.wanted)) l.number
