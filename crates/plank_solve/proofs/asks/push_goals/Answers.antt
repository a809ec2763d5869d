use Rattle.std.proofs.Common.{◌∙◌}
use Rattle.plank_lawful.proofs.Joined.{joined_more}
use Rattle.plank_solve.specs.Lists.{reaches_at}
use Rattle.plank_solve.proofs.asks.push_goals.Goals as goal

pub loop-number-preserved : goal.loop-number-preserved
loop-number-preserved c = c.in_ok-push_goal_at.ensures ∙ joined_more c.loop-number.asks.items c.args.asks.now.items (reaches_at c.args.first c.args.goals.now) c.loop-number.number c.loop-number.invariant
