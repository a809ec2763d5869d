use Rattle.std.specs.Prelude.{◌≡◌, ◌↔◌, true, List, [], ◌∷◌, ◌++◌}
use Rattle.std.proofs.Common.{ap₂, subst, ◌∙◌}
use Rattle.std.proofs.lemmas.Result.{IfOk-weaker}
use Rattle.plank_query.specs.declared.situations.Situation.{Situation}
use Rattle.plank_query.specs.declared.goals.Goal.{Goal}
use Rattle.plank_judge.specs.Verdicts.{outline_of}
use Rattle.plank_demand.specs.Asked.{AreBothReached, not_null, not_own, not_shared}
use Rattle.plank_demand.proofs.OwnPictures.{target_from, target_to}
use Rattle.plank_demand.proofs.here.Here.is_unknown.Goals as goal

pub returns : goal.returns
returns g c =
    let p = c.args.self.now.program.now in
    let O = outline_of p c.args.self.now.marks.now in
    let n = c.args.name in
    let old = c.in_ok-claims.claims.items in
    let new = c.as_slice.result.now in
    let new_is : new ≡ old ++ not_null n ∷ [] = c.as_slice.ensures.value ∙ c.in_ok-add_there.ensures in
    let goals_are : c.not_own.result ∷ c.not_shared.result ∷ [] ≡ not_own n ∷ not_shared n ∷ [] = ap₂ (λ (a b : Goal). a ∷ b ∷ []) c.not_own.ensures c.not_shared.ensures in
    IfOk-weaker c.both_are_reached.result _ _ (λ b so x xm xl at written.
    let situated = subst (λ S. (b ≡ true) ↔ AreBothReached p.header S new (c.not_own.result ∷ c.not_shared.result ∷ [])) c.own.ensures.is so in
    let said = subst (λ (gs : List Goal). (b ≡ true) ↔ AreBothReached p.header (Situation.Own c.args.turn) new gs) goals_are situated in
    let says = c.in_ok-claims.ensures x xm xl in
    ((λ e. target_from O x c.args.turn at old says n new new_is written (said.0 e)), (λ w. said.1 (target_to O x c.args.turn at old says n new new_is written w)))) c.both_are_reached.ensures
