use Rattle.std.specs.Prelude.{◌≡◌, ◌↔◌, true, List, [], ◌∷◌}
use Rattle.std.proofs.Common.{sym, subst}
use Rattle.std.proofs.lemmas.Result.{IfOk-weaker}
use Rattle.plank_query.specs.declared.predicates.Claim.{Claim}
use Rattle.plank_query.specs.declared.goals.Goal.{Goal}
use Rattle.plank_judge.specs.Verdicts.{outline_of}
use Rattle.plank_demand.specs.Asked.{SayOf, IsOneReached}
use Rattle.plank_demand.proofs.OwnPictures.{null_from, null_to}
use Rattle.plank_demand.proofs.here.Here.null_fails.Goals as goal

pub returns : goal.returns
returns g c =
    let p = c.args.self.now.program.now in
    let O = outline_of p c.args.self.now.marks.now in
    let claims = c.as_slice.result.now in
    IfOk-weaker c.one_is_reached.result _ _ (λ b so x xm xl at.
    let says : SayOf O x claims = subst (λ (cs : List Claim). SayOf O x cs) (sym c.as_slice.ensures.value) (c.in_ok-claims.ensures x xm xl) in
    let said = subst (λ S. (b ≡ true) ↔ IsOneReached p.header S claims (Goal.ComesToNull ∷ [])) c.own.ensures.is so in
    ((λ e. null_from O x c.args.turn at claims says (said.0 e)), (λ w. said.1 (null_to O x c.args.turn at claims says w)))) c.one_is_reached.ensures
