-- Own pictures are what a question about them reaches; a location with one that writes is an effect.
use Rattle.std.specs.Prelude.{◌≡◌, ◌↔◌, ℕ, Bool, true, false, List, [], Contains, slice_get, Some}
use Rattle.std.proofs.Common.{refl, sym, ◌∙◌, ap, subst}
use Rattle.std.proofs.lemmas.Bool.{false≢true}
use Rattle.std.proofs.lemmas.Option.{same_Some}
use Rattle.plank_prog.specs.declared.blocks.Block.{Block}
use Rattle.plank_prog.specs.declared.methods.Action.{Action}
use Rattle.plank_prog.specs.Methods.{is_site}
use Rattle.plank_pic.specs.declared.literals.Exit.{Exit}
use Rattle.plank_pic.specs.Pictures.{Picture}
use Rattle.plank_pic.specs.Truths.{Caller, truth}
use Rattle.plank_fact.specs.Tables.{facts_of}
use Rattle.plank_fact.specs.Outlines.{Outline, Point, mark_number}
use Rattle.plank_fact.specs.ReportedEffects.{kept_from}
use Rattle.plank_query.specs.declared.turns.OwnTurn.{OwnTurn}
use Rattle.plank_query.specs.declared.situations.Situation.{Situation}
use Rattle.plank_query.specs.declared.predicates.Speaker.{Speaker}
use Rattle.plank_query.specs.declared.predicates.Claim.{Claim}
use Rattle.plank_query.specs.declared.goals.Goal.{Goal}
use Rattle.plank_query.specs.Predicates.{AreRight}
use Rattle.plank_query.specs.Places.{IsOwnTurnAt}
use Rattle.plank_query.proofs.Placed.{caller_so, own_picture, own_situated}
use Rattle.plank_claim.specs.declared.known.Known.{Known}
use Rattle.plank_claim.specs.Claims.{AreTrue, AddsClaims}
use Rattle.plank_claim.proofs.Answered.{nothing_in}
use Rattle.plank_marks.proofs.Rooms.{IsThere}
use Rattle.plank_judge.specs.Verdicts.{outline_of}
use Rattle.plank_prog.specs.declared.programs.Program.{Program}
use Rattle.plank_claim.specs.Asked.{IsReachedFrom}
use Rattle.plank_verdict.specs.Effects.{IsEffectAt, IsReached}

module _ (O : Outline) (x : Point O.methods) (t : OwnTurn) (at : IsOwnTurnAt x Exit.Yes t) (claims : List Claim)
    (said : (S : Situation) (p : Picture) → AreRight O.header S p claims ↔ AreTrue O x Speaker.Own Known.All S p) where
  pub reached_of : IsReachedFrom O.header (Situation.Own t) claims Goal.Anything → IsReached O x
  reached_of w = (
    w.before,
    own_picture O x Exit.Yes t at w.before (record { lawful = w.situated.lawful; fit = w.situated.fit; step = refl })
        (λ L claimed. subst (λ (c : Caller). truth w.before c L ≡ true) (caller_so O x Exit.Yes t at) ((said (Situation.Own t) w.before).0 w.right L claimed refl)),
  )

  pub of_reached : IsReached O x → IsReachedFrom O.header (Situation.Own t) claims Goal.Anything
  of_reached v = record {
    before = v.0;
    after = v.0;
    situated = own_situated O x Exit.Yes t at v.0 v.1;
    right = (said (Situation.Own t) v.0).1 (λ L claimed meant. subst (λ (c : Caller). truth v.0 c L ≡ true) (sym (caller_so O x Exit.Yes t at)) (v.1.claimed L claimed));
    holds = refl;
  }

  pub reached_exact : (answers : List Bool) (answer : Bool) → slice_get answers 0 ≡ Some answer → (slice_get answers 0 ≡ Some true) ↔ IsReachedFrom O.header (Situation.Own t) claims Goal.Anything
      → (answer ≡ true) ↔ IsReached O x
  reached_exact answers answer first exact = (
    λ e. reached_of (exact.0 (first ∙ ap Some e)),
    λ v. same_Some answer true (sym first ∙ exact.1 (of_reached v)),
  )

site_block : (a : Action) → is_site a ≡ true → (b : Block) × (a ≡ Action.Block b)
site_block (Action.Block b) e = (b, refl)
site_block (Action.Copy to from next) e = absurd (false≢true e)
site_block (Action.New to next) e = absurd (false≢true e)
site_block (Action.Return answer) e = absurd (false≢true e)

-- ---- the claims of a question about one location

pub said_alone : (program : Program) (words : List ℕ) (m l : ℕ) (zeroth first claims : List Claim) → zeroth ≡ [] → AddsClaims program words m l Speaker.Own Known.All zeroth first → claims ≡ first
    → (x : Point program.methods) → x.m ≡ m → x.l ≡ l → (S : Situation) (p : Picture) → AreRight program.header S p claims ↔ AreTrue (outline_of program words) x Speaker.Own Known.All S p
said_alone program words m l zeroth first claims empty adds same x xm xl S p = (
  λ right. ((adds x xm xl S p).0 (subst (λ (cs : List Claim). AreRight program.header S p cs) same right)).1,
  λ all. subst (λ (cs : List Claim). AreRight program.header S p cs) (sym same) ((adds x xm xl S p).1 ((λ d w. absurd (nothing_in d (subst (λ (cs : List Claim). Contains cs d) empty w))), all)),
)

-- ---- locations by their numbers

module _ (O : Outline) (m l : ℕ) (t : OwnTurn) (placed : (x : Point O.methods) → x.m ≡ m → x.l ≡ l → IsOwnTurnAt x Exit.Yes t) where
  -- where nothing is written there is no effect
  pub no_effect : is_site t.action.now ≡ false → (false ≡ true) ↔ IsEffectAt O m l
  no_effect not_site = (
    λ e. absurd (false≢true e),
    λ v. absurd (false≢true (sym not_site ∙ (ap is_site (placed v.at v.of_method v.of_location).action ∙ v.effect.writes))),
  )

  pub is_effect_there : IsThere O.methods m l → is_site t.action.now ≡ true → (reached : Bool) → ((x : Point O.methods) → x.m ≡ m → x.l ≡ l → IsOwnTurnAt x Exit.Yes t → (reached ≡ true) ↔ IsReached O x)
      → (reached ≡ true) ↔ IsEffectAt O m l
  is_effect_there there writes reached exact = (
    λ e.
        let x = there.point in
        let at = placed x there.of_method there.of_location in
        effect_of x there.of_method there.of_location (sym (ap is_site at.action) ∙ writes) ((exact x there.of_method there.of_location at).0 e),
    λ v. (exact v.at v.of_method v.of_location (placed v.at v.of_method v.of_location)).1 (v.effect.picture, v.effect.reached),
  )
    where
      effect_of : (x : Point O.methods) → x.m ≡ m → x.l ≡ l → is_site x.location.action ≡ true → IsReached O x → IsEffectAt O m l
      effect_of x xm xl site v =
          let b = site_block x.location.action site in
          record {
            at = x;
            of_method = xm;
            of_location = xl;
            facts = kept_from (λ n. O.marks (mark_number O.methods x.m x.l n)) b.0 0 (facts_of O.header x.method);
            effect = record { writes = site; block = b.0; here = b.1; picture = v.0; reached = v.1; are = refl };
          }
