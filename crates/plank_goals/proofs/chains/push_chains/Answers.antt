use Rattle.std.proofs.Common.{refl}
use Rattle.plank_goals.specs.Hidden.{chains_to}
use Rattle.plank_goals.proofs.Gathered.{none_gathered, one_gathered}
use Rattle.plank_goals.proofs.chains.push_chains.Goals as goal

pub loop-from-init : goal.loop-from-init
loop-from-init c = none_gathered (chains_to c.args.order c.args.spot c.args.names) c.args.goals.now.items

pub loop-from-preserved : goal.loop-from-preserved
loop-from-preserved c =
    one_gathered (chains_to c.args.order c.args.spot c.args.names) c.loop-from.from c.args.goals.now.items c.loop-from.goals.items c.push_chains_to.new.goals.items (chains_to c.args.order c.args.spot c.args.names c.loop-from.from) c.loop-from.invariant refl c.in_ok-push_chains_to.ensures
