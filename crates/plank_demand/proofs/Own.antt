-- The pictures that questions about a location reach are its own pictures, and its own writes.
use Rattle.std.specs.Prelude.{◌≡◌, ◌↔◌, ℕ, true, List, [], ◌∷◌, ◌++◌, length, Contains}
use Rattle.std.proofs.Common.{refl, sym, ◌∙◌, ap, ap₂, subst, rules, inl, inr}
use Rattle.std.proofs.lemmas.List.Elements.{Contains-push, Contains-append_left, Contains-push_cases}
use Rattle.plank_prog.specs.declared.programs.Program.{Program}
use Rattle.plank_pic.specs.declared.literals.Literal.{Literal}
use Rattle.plank_pic.specs.declared.literals.Exit.{Exit}
use Rattle.plank_pic.specs.Pictures.{Picture}
use Rattle.plank_pic.specs.Calls.{own_names, own_turn}
use Rattle.plank_pic.specs.Truths.{Caller, truth}
use Rattle.plank_fact.specs.declared.facts.Fact.{Fact}
use Rattle.plank_fact.specs.Outlines.{Outline, Point, IsClaimed}
use Rattle.plank_fact.specs.OwnSteps.{own_call, frame_of, own_frame, is_yes, turn_at, IsOwnPicture, IsWriteStep}
use Rattle.plank_query.specs.declared.turns.OwnTurn.{OwnTurn}
use Rattle.plank_query.specs.declared.situations.Situation.{Situation}
use Rattle.plank_query.specs.declared.predicates.Speaker.{Speaker}
use Rattle.plank_query.specs.declared.predicates.Claim.{Claim}
use Rattle.plank_query.specs.declared.goals.Goal.{Goal}
use Rattle.plank_query.specs.Situations.{turn_of_own, own_caller, IsSituated}
use Rattle.plank_query.specs.Predicates.{holds, AreRight}
use Rattle.plank_query.specs.Places.{IsOwnTurnAt}
use Rattle.plank_query.specs.Goals.{goal_holds}
use Rattle.plank_query.proofs.Placed.{caller_so, own_picture, own_situated, own_write, write_situated}
use Rattle.plank_claim.specs.declared.known.Known.{Known}
use Rattle.plank_claim.specs.Claims.{AreTrue, AddsClaims}
use Rattle.plank_claim.specs.Asked.{IsReachedFrom}
use Rattle.plank_marks.specs.declared.marking.At.{At}
use Rattle.plank_demand.specs.Places.{AtPoint}
use Rattle.plank_demand.specs.Asked.{SayOf}

-- ---- claims

nothing_in : (c : Claim) → Contains [] c → ⊥
nothing_in c w = search rules

pub says_all : (program : Program) (words : List ℕ) (at : At) (old new : List Claim) → old ≡ [] → AddsClaims program words at.method at.location Speaker.Own Known.All old new → AtPoint program words at (λ O x. SayOf O x new)
says_all program words at old new none adds x of_method of_location S p = (
  λ right. ((adds x of_method of_location S p).0 right).1,
  λ all. (adds x of_method of_location S p).1 (subst (AreRight program.header S p) (sym none) (λ c w. absurd (nothing_in c w)), all),
)

-- a claim more
pub says_more : (O : Outline) (x : Point O.methods) (old new : List Claim) (c : Claim) → SayOf O x old → new ≡ old ++ c ∷ [] → (S : Situation) (p : Picture)
    → AreRight O.header S p new ↔ (AreTrue O x Speaker.Own Known.All S p × (holds O.header S p c.predicate ≡ c.value))
says_more O x old new c says is S p = (
  λ right. let w = subst (AreRight O.header S p) is right in ((says S p).0 (λ d v. w d (Contains-append_left old (c ∷ []) d v)), w c (Contains-push old c)),
  λ both. subst (AreRight O.header S p) (sym is) (λ d v. elim (Contains-push_cases old c d v) [
    | inl was ↦ (says S p).1 both.0 d was
    | inr same ↦ subst (λ (e : Claim). holds O.header S p e.predicate ≡ e.value) same both.1
  ]),
)

-- ---- the turn of a location

module _ (O : Outline) (x : Point O.methods) (t : OwnTurn) (at : IsOwnTurnAt x Exit.Yes t) where
  pub frame_is : frame_of O.header (own_names t.variables t.action.now) ≡ own_frame O x
  frame_is = ap₂ (λ v a. frame_of O.header (own_names v a)) at.variables at.action

  pub turn_is : turn_of_own t ≡ turn_at O x Exit.Yes
  turn_is = ap₂ (λ v a. own_turn v a (is_yes t.exit)) at.variables at.action ∙ ap (λ w. own_turn (length x.method.variables) x.location.action (is_yes w)) at.exit

  abbrev All : Picture → Type 0
  All p = (L : Literal) → IsClaimed O x (Fact.Now L) → truth p (own_call x.method) L ≡ true

  abbrev AllOfTurn : Picture → Type 0
  AllOfTurn p = (L : Literal) → IsClaimed O x (Fact.Now L) → true ≡ true → truth p (own_caller t.variables) L ≡ true

  pub all_from : (p : Picture) → AllOfTurn p → All p
  all_from p all L claimed = subst (λ (c : Caller). truth p c L ≡ true) (caller_so O x Exit.Yes t at) (all L claimed refl)

  pub from_all : (p : Picture) → All p → AllOfTurn p
  from_all p all L claimed meant = subst (λ (c : Caller). truth p c L ≡ true) (sym (caller_so O x Exit.Yes t at)) (all L claimed)

  -- ---- own pictures

  pub record OwnReached (goal : Goal) (More : Picture → Type 0) : Type 0 where
    pub picture : Picture
    pub own : IsOwnPicture O x picture
    pub more : More picture
    pub holds : goal_holds O.header (Situation.Own t) picture picture goal ≡ true

  module _ (claims : List Claim) (More : Picture → Type 0) (say : (p : Picture) → AreRight O.header (Situation.Own t) p claims ↔ (AreTrue O x Speaker.Own Known.All (Situation.Own t) p × More p)) (goal : Goal) where
    pub own_reached : IsReachedFrom O.header (Situation.Own t) claims goal → OwnReached goal More
    own_reached w =
        let right = (say w.before).0 w.right in
        record {
          picture = w.before;
          own = own_picture O x Exit.Yes t at w.before (subst (λ p. IsSituated O.header (Situation.Own t) w.before p) w.situated.step w.situated) (all_from w.before right.0);
          more = right.1;
          holds = subst (λ p. goal_holds O.header (Situation.Own t) w.before p goal ≡ true) w.situated.step w.holds;
        }

    pub reached_own : OwnReached goal More → IsReachedFrom O.header (Situation.Own t) claims goal
    reached_own w = record {
      before = w.picture;
      after = w.picture;
      situated = own_situated O x Exit.Yes t at w.picture w.own;
      right = (say w.picture).1 (from_all w.picture w.own.claimed, w.more);
      holds = w.holds;
    }

  -- ---- own writes

  pub record WriteReached (goal : Goal) : Type 0 where
    pub before : Picture
    pub after : Picture
    pub step : IsWriteStep O x before after
    pub holds : goal_holds O.header (Situation.Write t) before after goal ≡ true

  module _ (claims : List Claim) (says : SayOf O x claims) (goal : Goal) where
    pub write_reached : IsReachedFrom O.header (Situation.Write t) claims goal → WriteReached goal
    write_reached w = record {
      before = w.before;
      after = w.after;
      step = own_write O x t at w.before w.after w.situated (all_from w.before ((says (Situation.Write t) w.before).0 w.right));
      holds = w.holds;
    }

    pub reached_write : WriteReached goal → IsReachedFrom O.header (Situation.Write t) claims goal
    reached_write w = record {
      before = w.before;
      after = w.after;
      situated = write_situated O x t at w.before w.after w.step;
      right = (says (Situation.Write t) w.before).1 (from_all w.before w.step.own.claimed);
      holds = w.holds;
    }
