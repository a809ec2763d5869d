use Rattle.std.proofs.Common.{refl, sym, subst}
use Rattle.std.proofs.lemmas.Result.{IfOk-weaker}
use Rattle.plank_bits.specs.Words.{has}
use Rattle.plank_fact.specs.Forced.{outline}
use Rattle.plank_past.specs.Refuting.{IsRefutedBy, ClaimsBefore, ClaimsAfter}
use Rattle.plank_past.proofs.Refuted.{grows_nothing, grows_by}
use Rattle.plank_past.proofs.past.Asked.refuted_by.Goals as goal

pub returns-in-None : goal.returns-in-None
returns-in-None g c = λ m x called of_method of_location.
    let O = outline c.args.self.now.program.now.header c.args.self.now.program.now.methods (has c.args.self.now.marks.now) in
    grows_nothing c.args.self.now.hinds.now.conclusions.now (IsRefutedBy O m c.args.self.now.hinds.now c.args.present x) (has c.empty.result) c.empty.ensures
    (λ C w. c.in-None.ensures.none refl m x called of_method of_location w.effect.writes)

pub returns : goal.returns
returns g c =
    let O = outline c.args.self.now.program.now.header c.args.self.now.program.now.methods (has c.args.self.now.marks.now) in
    IfOk-weaker c.reached.result _ _ (λ found w m x called of_method of_location.
    grows_by O m x c.in-Some.turn (c.in-Some.ensures.found m x called of_method of_location) c.in-Block.block c.in-Block.is
    c.args.self.now.hinds.now c.args.present _ refl c.effect_of-situation.ensures.is
    (subst (λ cs. ClaimsBefore O x c.in-Block.block c.args.self.now.hinds.now c.args.present cs) (sym c.as_slice.ensures.value) (c.in_ok-before.ensures x of_method of_location))
    (subst (λ cs. ClaimsAfter c.args.present cs) (sym c.as_slice-2.ensures.value) c.in_ok-after.ensures)
    (has found) c.args.self.now.goals_fit w) c.reached.ensures
