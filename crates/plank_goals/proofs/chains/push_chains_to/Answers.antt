use Rattle.std.proofs.Common.{ap}
use Rattle.plank_goals.specs.Lists.{listed}
use Rattle.plank_goals.specs.Hidden.{chain_goal}
use Rattle.plank_goals.proofs.Gathered.{none_gathered, one_gathered}
use Rattle.plank_goals.proofs.chains.push_chains_to.Goals as goal

pub loop-to-init : goal.loop-to-init
loop-to-init c = none_gathered (λ q. listed (chain_goal c.args.order c.args.spot c.args.from q)) c.args.goals.now.items

pub loop-to-preserved : goal.loop-to-preserved
loop-to-preserved c =
    one_gathered (λ q. listed (chain_goal c.args.order c.args.spot c.args.from q)) c.loop-to.to c.args.goals.now.items c.loop-to.goals.items c.push_some.new.goals.items (listed c.chain_goal.result) c.loop-to.invariant (ap listed c.chain_goal.ensures) c.in_ok-push_some.ensures
