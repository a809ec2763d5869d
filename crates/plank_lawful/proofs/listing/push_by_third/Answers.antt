use Rattle.std.proofs.Common.{◌∙◌}
use Rattle.plank_lawful.specs.Lists.{rule_alone}
use Rattle.plank_lawful.proofs.Joined.{joined_more}
use Rattle.plank_lawful.proofs.listing.push_by_third.Goals as goal

pub loop-third-preserved : goal.loop-third-preserved
loop-third-preserved g c = c.in_ok-push.ensures.items ∙ joined_more c.loop-third.rules.items c.args.rules.now.items (rule_alone c.args.family c.args.first c.args.second) c.loop-third.third c.loop-third.invariant
