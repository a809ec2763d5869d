use Rattle.std.proofs.Common.{◌∙◌}
use Rattle.plank_lawful.proofs.Joined.{joined_more}
use Rattle.plank_solve.specs.Lists.{fits_at}
use Rattle.plank_solve.proofs.asks.push_fits.Goals as goal

pub loop-name-preserved : goal.loop-name-preserved
loop-name-preserved c = c.in_ok-push.ensures.items ∙ joined_more c.loop-name.asks.items c.args.asks.now.items fits_at c.loop-name.name c.loop-name.invariant
