-- The goals so far are added.
use Rattle.std.specs.Prelude.{◌≡◌, ◌++◌}
use Rattle.plank_goals.specs.Lists.{gathered, listed}
use Rattle.plank_goals.specs.Hidden.{chain_goal}
use Rattle.plank_goals.proofs.chains.push_chains_to.Given as goal

abbrev pub invariant-loop-to : goal.invariant-loop-to
invariant-loop-to l = l.goals.items ≡ l.initial.goals.items ++ gathered (λ q. listed (chain_goal l.order l.spot l.from q)) l.to
