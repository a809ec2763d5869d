use Rattle.std.proofs.Common.{refl, sym, subst, length, ◌∙◌}
use Rattle.std.proofs.lemmas.Result.{IfOk-weaker}
use Rattle.plank_bits.specs.Words.{has}
use Rattle.plank_past.specs.Refuting.{ClaimsAtOnce}
use Rattle.plank_past.proofs.Refuted.{grows_at_once}
use Rattle.plank_past.proofs.past.Asked.refuted_at_once.Goals as goal

pub returns : goal.returns
returns g c =
    let u = c.args.self.now.hinds.now in
    IfOk-weaker c.reached.result _ _ (λ found w m called.
    grows_at_once c.args.self.now.program.now.header m u _ (length m.variables) refl (c.in-Some.ensures.names m called) refl
    (subst (λ cs. ClaimsAtOnce u cs) (sym c.as_slice.ensures.value) c.in_ok-claims.ensures)
    (c.as_slice-2.ensures.value ∙ c.new-after.ensures.items)
    (has found) c.args.self.now.goals_fit w) c.reached.ensures
