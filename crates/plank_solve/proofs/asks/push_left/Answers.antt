use Rattle.std.proofs.Common.{◌∙◌}
use Rattle.plank_lawful.proofs.Joined.{joined_more}
use Rattle.plank_solve.specs.Lists.{left_at}
use Rattle.plank_solve.proofs.asks.push_left.Goals as goal

pub loop-number-preserved : goal.loop-number-preserved
loop-number-preserved c = c.in_ok-push_left_at.ensures ∙ joined_more c.loop-number.asks.items c.args.asks.now.items (left_at c.args.numbering.now.frame c.args.numbering.now.table.parts) c.loop-number.number c.loop-number.invariant
