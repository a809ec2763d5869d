use Rattle.std.specs.Prelude.{◌≡◌, ◌↔◌, true, List, [], ◌∷◌}
use Rattle.std.proofs.Common.{subst}
use Rattle.std.proofs.lemmas.Result.{IfOk-weaker}
use Rattle.plank_query.specs.declared.situations.Situation.{Situation}
use Rattle.plank_query.specs.declared.predicates.Claim.{Claim}
use Rattle.plank_query.specs.declared.goals.Goal.{Goal}
use Rattle.plank_demand.specs.Asked.{IsOneReached}
use Rattle.plank_demand.proofs.TwoFields.{edges_from, edges_to}
use Rattle.plank_demand.proofs.asking.Asking.edges_fail.Goals as goal

pub returns : goal.returns
returns g c =
    let h = c.args.self.now.program.now.header in
    let lawful = c.args.self.now.program.now.header_is_lawful in
    IfOk-weaker c.one_is_reached.result _ _ (λ b so.
    let said = subst (λ (cs : List Claim). (b ≡ true) ↔ IsOneReached h Situation.Node cs (Goal.Anything ∷ [])) c.twice_claims-claims.ensures so in
    ((λ e. edges_from h lawful (said.0 e)), (λ w. said.1 (edges_to h lawful w)))) c.one_is_reached.ensures
