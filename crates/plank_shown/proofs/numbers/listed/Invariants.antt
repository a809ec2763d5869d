use Rattle.std.specs.Prelude.{◌≡◌}
use Rattle.plank_bits.specs.Words.{has}
use Rattle.plank_claim.specs.Claims.{listed_below}
use Rattle.plank_shown.specs.Numbers.{picked}
use Rattle.plank_shown.proofs.numbers.listed.Given as goal

abbrev pub invariant-loop-number : goal.invariant-loop-number
invariant-loop-number l = l.numbers.items ≡ listed_below (picked (has l.set)) l.number
