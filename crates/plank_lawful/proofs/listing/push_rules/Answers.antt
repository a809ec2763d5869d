use Rattle.std.proofs.Common.{◌∙◌}
use Rattle.plank_lawful.specs.Lists.{rules_by_second}
use Rattle.plank_lawful.proofs.Joined.{joined_more}
use Rattle.plank_lawful.proofs.listing.push_rules.Goals as goal

pub loop-first-preserved : goal.loop-first-preserved
loop-first-preserved g c = c.in_ok-push_by_second.ensures ∙ joined_more c.loop-first.rules.items c.args.rules.now.items (rules_by_second (g.S.Reader.frame c.args.source.now) c.args.family) c.loop-first.first c.loop-first.invariant
