-- The rules of one index more, or one that does not hold.
use Rattle.std.proofs.Common.{sym, ◌∙◌, ap, arith}
use Rattle.plank_lawful.specs.Families.{count, shape_of}
use Rattle.plank_lawful.specs.Lists.{rules_by_third}
use Rattle.plank_whole.specs.Wholes.{frame_of}
use Rattle.plank_whole.specs.Judging.{meets}
use Rattle.plank_whole.proofs.Meeting.{all_joined_more, one_joined_fails}
use Rattle.plank_whole.proofs.wholes.Picture.meets_by_second.Goals as goal

pub loop-second-preserved : goal.loop-second-preserved
loop-second-preserved c =
    all_joined_more (meets c.args.self.now) (rules_by_third (frame_of c.args.self.now) c.args.family c.args.first) c.loop-second.second
    (sym c.meets_by_row.ensures ∙ c.if-not-meets_by_row.false) c.loop-second.invariant

pub returns-then-not-meets_by_row : goal.returns-then-not-meets_by_row
returns-then-not-meets_by_row c =
    let end = c.count-second-end.ensures ∙ ap (λ s. count (frame_of c.args.self.now) s.second c.args.first) c.shape_of.ensures in
    sym (one_joined_fails (meets c.args.self.now) (rules_by_third (frame_of c.args.self.now) c.args.family c.args.first)
    (count (frame_of c.args.self.now) (shape_of c.args.family).second c.args.first) c.loop-second.second (omega (arith, end))
    (sym c.meets_by_row.ensures ∙ c.if-not-meets_by_row.true))
