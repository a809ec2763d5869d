-- The goals so far are added.
use Rattle.std.specs.Prelude.{◌≡◌, ◌++◌}
use Rattle.plank_goals.specs.Lists.{gathered}
use Rattle.plank_goals.specs.Hidden.{chains_to}
use Rattle.plank_goals.proofs.chains.push_chains.Given as goal

abbrev pub invariant-loop-from : goal.invariant-loop-from
invariant-loop-from l = l.goals.items ≡ l.initial.goals.items ++ gathered (chains_to l.order l.spot l.names) l.from
