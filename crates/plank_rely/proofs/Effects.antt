-- The pictures that a question about a site reaches are those of its effects that break a claim.
use Rattle.std.specs.Prelude.{◌≡◌, suc, ◌<◌, Bool, true, false, not, List}
use Rattle.std.proofs.Common.{refl, sym, ap, subst}
use Rattle.std.proofs.lemmas.Bool.{false≢true}
use Rattle.plank_prog.specs.declared.blocks.Block.{Block}
use Rattle.plank_prog.specs.declared.methods.Action.{Action}
use Rattle.plank_prog.specs.Methods.{is_site}
use Rattle.plank_pic.specs.declared.literals.Literal.{Literal}
use Rattle.plank_pic.specs.Truths.{Caller, truth}
use Rattle.plank_fact.specs.Outlines.{Outline, Point}
use Rattle.plank_fact.specs.OwnSteps.{own_call}
use Rattle.plank_fact.specs.Effects.{is_known_to}
use Rattle.plank_query.specs.declared.situations.Situation.{Situation}
use Rattle.plank_query.specs.declared.turns.SiteTurn.{SiteTurn}
use Rattle.plank_query.specs.declared.predicates.Speaker.{Speaker}
use Rattle.plank_query.specs.declared.predicates.Predicate.{Predicate}
use Rattle.plank_query.specs.declared.predicates.Claim.{Claim}
use Rattle.plank_query.specs.declared.goals.Goal.{Goal}
use Rattle.plank_query.specs.declared.goals.Moment.{Moment}
use Rattle.plank_query.specs.Situations.{caller, own_caller}
use Rattle.plank_query.specs.Places.{IsSiteTurnAt}
use Rattle.plank_query.proofs.Placed.{other_so, effect, effect_situated}
use Rattle.plank_claim.specs.Asked.{IsReachedFrom}
use Rattle.plank_claim.specs.declared.known.Known.{Known}
use Rattle.plank_claim.specs.Claims.{passes}
use Rattle.plank_rely.specs.Breaking.{AreSaid, IsBrokenBy}

same_block : (action : Action) (a b : Block) → action ≡ Action.Block a → action ≡ Action.Block b → a ≡ b
same_block action a b p q = cc

from_not : (b : Bool) → not b ≡ true → b ≡ false
from_not true e = absurd (false≢true e)
from_not false e = refl

abbrev pub fails : Literal → Goal
fails L = Goal.Fails Moment.After (Predicate.IsTrue Speaker.Own L)

module _ (O : Outline) (x s : Point O.methods) (t : SiteTurn) (at : IsSiteTurnAt x.method s t) (b : Block) (here : s.location.action ≡ Action.Block b) where
  own_so : caller (Situation.Effect t) Speaker.Own ≡ own_call x.method
  own_so = ap own_caller at.variables

  site_writes : is_site s.location.action ≡ true
  site_writes = subst (λ a. is_site a ≡ true) at.action t.writes

  module _ (known : Known) (claims : List Claim) (said : AreSaid O x s (suc t.variables) known claims) (L : Literal) where
    pub reached_breaks : ((K : Literal) → is_known_to b K ≡ true → passes known K ≡ true) → IsReachedFrom O.header (Situation.Effect t) claims (fails L) → IsBrokenBy O x s L
    reached_breaks is_known w =
        let parts = (said (Situation.Effect t) w.before).0 w.right in
        record {
          before = w.before;
          after = w.after;
          effect = effect O x.method s t at b here site_writes w.before w.after w.situated
              (λ K claimed so. subst (λ (c : Caller). truth w.before c K ≡ true) (other_so O x.method s t at b here) (parts.2 K claimed (is_known K so)));
          claimed = λ K claimed. subst (λ (c : Caller). truth w.before c K ≡ true) own_so (parts.0 K claimed refl);
          usable = λ i below. parts.1 i (subst (λ k. i < suc k) (sym at.variables) below);
          false_after = subst (λ (c : Caller). truth w.after c L ≡ false) own_so (from_not (truth w.after (caller (Situation.Effect t) Speaker.Own) L) w.holds);
        }

    pub breaks_reached : ((K : Literal) → passes known K ≡ true → is_known_to b K ≡ true) → IsBrokenBy O x s L → IsReachedFrom O.header (Situation.Effect t) claims (fails L)
    breaks_reached is_passed v =
        let e = v.effect in
        let one : b ≡ e.block = same_block s.location.action b e.block here e.here in
        record {
          before = v.before;
          after = v.after;
          situated = effect_situated O x.method s t at e.block e.here v.before v.after e.lawful e.others e.step;
          right = (said (Situation.Effect t) v.before).1 (
            (λ K claimed meant. subst (λ (c : Caller). truth v.before c K ≡ true) (sym own_so) (v.claimed K claimed)),
            (λ i below. v.usable i (subst (λ k. i < suc k) at.variables below)),
            (λ K claimed meant. subst (λ (c : Caller). truth v.before c K ≡ true) (sym (other_so O x.method s t at e.block e.here)) (e.claimed K claimed (subst (λ c. is_known_to c K ≡ true) one (is_passed K meant)))),
          );
          holds = ap not (subst (λ (c : Caller). truth v.after c L ≡ false) (sym own_so) v.false_after);
        }
