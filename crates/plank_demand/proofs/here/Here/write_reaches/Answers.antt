use Rattle.std.specs.Prelude.{◌≡◌, ◌↔◌, true, not, List, is_some}
use Rattle.std.proofs.Common.{sym, ap, subst, ◌∙◌}
use Rattle.std.proofs.lemmas.Bool.{true≢false}
use Rattle.std.proofs.lemmas.Result.{IfOk-weaker}
use Rattle.plank_query.specs.declared.predicates.Claim.{Claim}
use Rattle.plank_judge.specs.Verdicts.{outline_of}
use Rattle.plank_demand.specs.Asked.{SayOf, IsOneReached}
use Rattle.plank_demand.proofs.Written.{reached_sought, sought_reached}
use Rattle.plank_demand.proofs.here.Here.write_reaches.Goals as goal

pub returns : goal.returns
returns g c =
    let p = c.args.self.now.program.now in
    let O = outline_of p c.args.self.now.marks.now in
    let claims = c.as_slice.result.now in
    let some_so : is_some c.written.result ≡ not c.is_none.result = c.is_none.ensures in
    IfOk-weaker c.one_is_reached.result _ _ (λ b so x xm xl at.
    let says : SayOf O x claims = subst (λ (cs : List Claim). SayOf O x cs) (sym c.as_slice.ensures.value) (c.in_ok-claims.ensures x xm xl) in
    let said = subst (λ S. (b ≡ true) ↔ IsOneReached p.header S claims c.args.goals.now) c.write.ensures.is so in
    ((λ e. reached_sought O x c.args.turn at c.args.goals.now claims says (λ none. true≢false (sym (ap not c.if-is_none.false) ∙ sym some_so ∙ ap is_some (c.written.ensures ∙ none))) (said.0 e)), (λ w. said.1 (sought_reached O x c.args.turn at c.args.goals.now claims says w)))) c.one_is_reached.ensures
