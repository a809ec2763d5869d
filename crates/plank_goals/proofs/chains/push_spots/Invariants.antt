-- The goals so far are added.
use Rattle.std.specs.Prelude.{◌≡◌, ◌++◌}
use Rattle.plank_goals.specs.Lists.{gathered}
use Rattle.plank_goals.specs.Spots.{spot_at}
use Rattle.plank_goals.specs.Hidden.{spot_goals}
use Rattle.plank_goals.proofs.chains.push_spots.Given as goal

abbrev pub invariant-loop-number : goal.invariant-loop-number
invariant-loop-number l = l.goals.items ≡ l.initial.goals.items ++ gathered (λ n. spot_goals l.program.header l.order l.names (spot_at n)) l.number
