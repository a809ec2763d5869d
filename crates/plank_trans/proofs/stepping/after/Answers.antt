use Rattle.std.proofs.Common.{◌<◌, List, [], length, refl, sym, subst, arith}
use Rattle.std.proofs.lemmas.Result.{IfOk-weaker}
use Rattle.plank_bits.specs.Words.{has}
use Rattle.plank_pic.specs.declared.literals.Exit.{Exit}
use Rattle.plank_fact.specs.After.{IsAfter}
use Rattle.plank_query.specs.declared.predicates.Claim.{Claim}
use Rattle.plank_query.specs.declared.predicates.Speaker.{Speaker}
use Rattle.plank_claim.specs.declared.known.Known.{Known}
use Rattle.plank_claim.specs.Claims.{AddsClaims}
use Rattle.plank_marks.proofs.Rooms.{point_at}
use Rattle.plank_method.specs.Deciding.{outline_of, IsExact}
use Rattle.plank_trans.proofs.Steps.{own_size, turn_of}
use Rattle.plank_trans.proofs.stepping.after.Goals as goal

pub returns-in_default : goal.returns-in_default
returns-in_default g c = λ x em el n f is wants. absurd (c.in_default.ensures.none refl x em el)

pub invariant_of-stepped-clause-own : goal.invariant_of-stepped-clause-own
invariant_of-stepped-clause-own g c =
    let p = c.args.program.now in
    let m = c.args.step.0.method in
    let l = c.args.step.0.location in
    let near = c.if-at-len.false in
    let count = c.len.ensures in
    let below : m < length p.methods = omega arith in
    own_size m l c.args.step.1 c.in-Some.turn (point_at p.methods m l below (subst (λ n. l < n) c.location_count.ensures.count c.if-at-location_count.false)) c.in-Some.ensures.found

pub invariant_of-stepped-clause-claims_are : goal.invariant_of-stepped-clause-claims_are
invariant_of-stepped-clause-claims_are g c =
    subst (λ (cs : List Claim). AddsClaims c.args.program.now c.args.marks.now c.args.step.0.method c.args.step.0.location Speaker.Own Known.All [] cs) (sym c.as_slice.ensures.value) c.in_ok-claims.ensures

pub returns : goal.returns
returns g c =
    let p = c.args.program.now in
    let O = outline_of p c.args.marks.now in
    IfOk-weaker c.known.result _ _ (λ known w x em el.
    let at = c.in-Some.ensures.found x em el in
    subst (λ (e : Exit). IsExact p.header x.method (has c.args.wanted.now) (has known) (IsAfter O x e)) at.exit
    (w x (turn_of x c.args.step.0.method c.args.step.0.location c.args.step.1 c.in-Some.turn em el at))) c.known.ensures
