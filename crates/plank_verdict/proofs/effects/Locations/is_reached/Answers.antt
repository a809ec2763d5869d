use Rattle.std.specs.Prelude.{◌≡◌, ◌↔◌, List, Bool, true, Some, slice_get}
use Rattle.std.proofs.Common.{refl, subst, sym}
use Rattle.plank_query.specs.declared.situations.Situation.{Situation}
use Rattle.plank_query.specs.declared.goals.Goal.{Goal}
use Rattle.plank_claim.specs.Asked.{IsReachedFrom}
use Rattle.plank_judge.specs.Verdicts.{outline_of}
use Rattle.plank_verdict.proofs.Reaching.{said_alone, reached_exact}
use Rattle.plank_verdict.proofs.effects.Locations.is_reached.Goals as goal

pub returns : goal.returns
returns g c = λ x xm xl at.
    let p = c.args.self.now.program.now in
    let O = outline_of p c.args.self.now.marks.now in
    reached_exact O x c.args.turn at c.as_slice.result.now
    (said_alone p c.args.self.now.marks.now c.args.at.method c.args.at.location c.new-claims.result.items c.add_claims.new.claims.items c.as_slice.result.now
    c.new-claims.ensures.items c.in_ok-add_claims.ensures c.as_slice.ensures.value x xm xl)
    c.as_slice-2.result.now c.first_of.result c.first_of.ensures
    (subst (λ (bs : List Bool). (slice_get bs 0 ≡ Some true) ↔ IsReachedFrom p.header (Situation.Own c.args.turn) c.as_slice.result.now Goal.Anything) (sym c.as_slice-2.ensures.value) (c.in_ok-answers.ensures.exact 0 Goal.Anything refl))
