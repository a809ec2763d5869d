use Rattle.std.proofs.Common.{sym, ap, ◌∙◌, subst, arith, length, List, Bool}
use Rattle.std.specs.Prelude.{slice_get}
use Rattle.plank_bits.specs.Words.{has}
use Rattle.plank_query.specs.declared.situations.Situation.{Situation}
use Rattle.plank_query.specs.declared.predicates.Claim.{Claim}
use Rattle.plank_claim.specs.declared.known.Known.{Known}
use Rattle.plank_claim.specs.Asked.{AreReached}
use Rattle.plank_method.specs.Deciding.{outline_of}
use Rattle.plank_rely.specs.Breaking.{IsBrokenBy, AreSaid}
use Rattle.std.proofs.Common.{suc, add-one}
use Rattle.plank_rely.proofs.Effects.{reached_breaks, breaks_reached}
use Rattle.plank_rely.proofs.Answers.{reached_exact}
use Rattle.plank_rely.proofs.NamesOfEffects.{few_site_names}
use Rattle.plank_rely.proofs.asking.Claimed.broken_by_turn.Goals as goal

pub ask-requires : goal.ask-requires
ask-requires g c = few_site_names c.args.turn (let fits = c.fits_a_byte.ensures in omega arith)

pub returns : goal.returns
returns g c = λ x s xm xl em el at here.
    let p = c.args.self.now.program.now in
    let O = outline_of p c.args.self.now.marks.now in
    let claims = c.as_slice-claims.result.now in
    let said : AreSaid O x s (suc c.args.turn.variables) (Known.Read c.args.block) claims = subst (λ (cs : List Claim). AreSaid O x s (suc c.args.turn.variables) (Known.Read c.args.block) cs) (sym c.as_slice-claims.ensures.value)
    (subst (λ k. AreSaid O x s k (Known.Read c.args.block) c.in_ok-said.said.items) (add-one c.args.turn.variables) (c.in_ok-said.ensures x s xm xl em el)) in
    reached_exact p c.args.self.now.at.method x.method (ap (λ k. slice_get p.methods k) (sym xm) ∙ x.called) (has c.args.wanted.now)
    c.as_slice-numbers.result.now c.as_slice-asked.result.now c.as_slice.result.now (has c.reached.result) (Situation.Effect c.args.turn) claims
    (c.as_slice-numbers.ensures.value ∙ c.in_ok-listed.ensures) (c.as_slice-asked.ensures.value ∙ c.in_ok-made.ensures)
    (ap length c.as_slice.ensures.value ∙ c.in_ok-answers.ensures.count)
    (subst (λ (bs : List Bool). AreReached p.header (Situation.Effect c.args.turn) claims c.as_slice-asked.result.now bs) (sym c.as_slice.ensures.value) c.in_ok-answers.ensures.exact)
    c.reached.ensures
    (λ L. IsBrokenBy O x s L)
    (λ L w. reached_breaks O x s c.args.turn at c.args.block.now here (Known.Read c.args.block) claims said L (λ K k. k) w)
    (λ L w. breaks_reached O x s c.args.turn at c.args.block.now here (Known.Read c.args.block) claims said L (λ K k. k) w)
