-- The rules of one index more, or one that does not hold.
use Rattle.std.proofs.Common.{sym, ◌∙◌, ap, arith}
use Rattle.plank_lawful.specs.Families.{count, shape_of}
use Rattle.plank_lawful.specs.Lists.{rules_by_second}
use Rattle.plank_whole.specs.Wholes.{frame_of}
use Rattle.plank_whole.specs.Judging.{meets}
use Rattle.plank_whole.proofs.Meeting.{all_joined_more, one_joined_fails}
use Rattle.plank_whole.proofs.wholes.Picture.meets_family.Goals as goal

pub loop-first-preserved : goal.loop-first-preserved
loop-first-preserved c =
    all_joined_more (meets c.args.self.now) (rules_by_second (frame_of c.args.self.now) c.args.family) c.loop-first.first
    (sym c.meets_by_second.ensures ∙ c.if-not-meets_by_second.false) c.loop-first.invariant

pub returns-then-not-meets_by_second : goal.returns-then-not-meets_by_second
returns-then-not-meets_by_second c =
    let end = c.count-first-end.ensures ∙ ap (λ s. count (frame_of c.args.self.now) s.first 0) c.shape_of.ensures in
    sym (one_joined_fails (meets c.args.self.now) (rules_by_second (frame_of c.args.self.now) c.args.family)
    (count (frame_of c.args.self.now) (shape_of c.args.family).first 0) c.loop-first.first (omega (arith, end))
    (sym c.meets_by_second.ensures ∙ c.if-not-meets_by_second.true))
