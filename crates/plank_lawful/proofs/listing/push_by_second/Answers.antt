use Rattle.std.proofs.Common.{◌∙◌}
use Rattle.plank_lawful.specs.Lists.{rules_by_third}
use Rattle.plank_lawful.proofs.Joined.{joined_more}
use Rattle.plank_lawful.proofs.listing.push_by_second.Goals as goal

pub loop-second-preserved : goal.loop-second-preserved
loop-second-preserved g c = c.in_ok-push_by_third.ensures ∙ joined_more c.loop-second.rules.items c.args.rules.now.items (rules_by_third (g.S.Reader.frame c.args.source.now) c.args.family c.args.first) c.loop-second.second c.loop-second.invariant
