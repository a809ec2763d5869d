use Rattle.std.proofs.Common.{sym, ◌∙◌}
use Rattle.std.proofs.lemmas.Bool.{true≢false}
use Rattle.plank_method.specs.Deciding.{outline_of}
use Rattle.plank_trans.proofs.Carries.{not_more}
use Rattle.plank_trans.proofs.carrying.Carrying.is_carried_to.Goals as goal

pub loop-from-preserved : goal.loop-from-preserved
loop-from-preserved c = λ x w.
    let s = c.args.self.now in
    not_more (outline_of s.program.now s.marks.now) x s.turn.exit c.args.literal c.args.to c.loop-from.from (c.loop-from.invariant x w)
    (λ v. true≢false (sym ((c.is_carried_from.ensures x w).1 v) ∙ c.if-is_carried_from.false))
