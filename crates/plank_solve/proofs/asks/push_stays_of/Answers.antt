use Rattle.std.proofs.Common.{◌∙◌}
use Rattle.plank_lawful.proofs.Joined.{joined_more}
use Rattle.plank_solve.specs.Lists.{stays_at}
use Rattle.plank_solve.proofs.asks.push_stays_of.Goals as goal

pub loop-out-preserved : goal.loop-out-preserved
loop-out-preserved c = c.in_ok-push_stays_at.ensures ∙ joined_more c.loop-out.asks.items c.args.asks.now.items (stays_at c.args.name) c.loop-out.out c.loop-out.invariant
