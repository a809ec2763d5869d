-- One rule more, or one that does not hold.
use Rattle.std.proofs.Common.{sym, ◌∙◌, ap, arith}
use Rattle.plank_lawful.specs.Families.{count, shape_of}
use Rattle.plank_lawful.specs.Lists.{rule, rule_alone}
use Rattle.plank_whole.specs.Wholes.{frame_of}
use Rattle.plank_whole.specs.Judging.{meets}
use Rattle.plank_whole.proofs.Meeting.{all_joined_more, one_joined_fails, alone_holds, alone_fails}
use Rattle.plank_whole.proofs.wholes.Picture.meets_by_third.Goals as goal

pub loop-third-preserved : goal.loop-third-preserved
loop-third-preserved c =
    let one = rule c.args.family c.args.first c.args.second c.loop-third.third in
    all_joined_more (meets c.args.self.now) (rule_alone c.args.family c.args.first c.args.second) c.loop-third.third
    (alone_holds (meets c.args.self.now) one (sym c.meets.ensures ∙ c.if-not-meets.false)) c.loop-third.invariant

pub returns-then-not-meets : goal.returns-then-not-meets
returns-then-not-meets c =
    let end = c.count-third-end.ensures ∙ ap (λ s. count (frame_of c.args.self.now) s.third c.args.first) c.shape_of.ensures in
    let one = rule c.args.family c.args.first c.args.second c.loop-third.third in
    sym (one_joined_fails (meets c.args.self.now) (rule_alone c.args.family c.args.first c.args.second)
    (count (frame_of c.args.self.now) (shape_of c.args.family).third c.args.first) c.loop-third.third (omega (arith, end))
    (alone_fails (meets c.args.self.now) one (sym c.meets.ensures ∙ c.if-not-meets.true)))
