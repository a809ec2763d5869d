use Rattle.std.proofs.Common.{◌∙◌}
use Rattle.plank_lawful.proofs.Joined.{joined_more}
use Rattle.plank_solve.specs.Lists.{stays_of}
use Rattle.plank_solve.proofs.asks.push_stays.Goals as goal

pub loop-name-preserved : goal.loop-name-preserved
loop-name-preserved c = c.in_ok-push_stays_of.ensures ∙ joined_more c.loop-name.asks.items c.args.asks.now.items (stays_of c.args.names) c.loop-name.name c.loop-name.invariant
