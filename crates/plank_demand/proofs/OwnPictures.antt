-- The obligations null and target, by what questions about own pictures reach.
use Rattle.std.specs.Prelude.{◌≡◌, ◌↔◌, ℕ, Bool, true, false, not, ◌&&◌, List, [], ◌∷◌, ◌++◌, Option, Some, None, option_map}
use Rattle.std.proofs.Common.{refl, sym, ◌∙◌, ap, ap₂, subst}
use Rattle.std.proofs.lemmas.Bool.{false≢true, and_parts, and_from}
use Rattle.std.proofs.lemmas.Option.{same_Some, none-some}
use Rattle.plank_prog.specs.declared.methods.Action.{Action}
use Rattle.plank_pic.specs.declared.literals.Exit.{Exit}
use Rattle.plank_pic.specs.declared.parts.Part.{Part}
use Rattle.plank_pic.specs.Pictures.{Picture}
use Rattle.plank_pic.specs.Steps.{Change}
use Rattle.plank_pic.specs.Blocks.{Turn, change_of}
use Rattle.plank_pic.specs.Truths.{is_owned}
use Rattle.plank_fact.specs.Outlines.{Outline, Point}
use Rattle.plank_fact.specs.OwnSteps.{own_frame, turn_at, IsOwnPicture}
use Rattle.plank_fact.specs.Obligations.{NullFails, SomeOwnPicture, TargetFails}
use Rattle.plank_query.specs.declared.turns.OwnTurn.{OwnTurn}
use Rattle.plank_query.specs.declared.situations.Situation.{Situation}
use Rattle.plank_query.specs.declared.predicates.Speaker.{Speaker}
use Rattle.plank_query.specs.declared.predicates.Claim.{Claim}
use Rattle.plank_query.specs.declared.goals.Goal.{Goal}
use Rattle.plank_query.specs.Situations.{turn_of_own}
use Rattle.plank_query.specs.Predicates.{AreRight}
use Rattle.plank_query.specs.Places.{IsOwnTurnAt}
use Rattle.plank_query.specs.Goals.{turn_comes_to_null, goal_holds}
use Rattle.plank_claim.specs.declared.known.Known.{Known}
use Rattle.plank_claim.specs.Claims.{AreTrue}
use Rattle.plank_claim.specs.Asked.{IsReachedFrom}
use Rattle.plank_demand.specs.Asked.{SayOf, IsOneReached, AreBothReached, not_null, not_own, not_shared}
use Rattle.plank_demand.proofs.Own.{says_more, frame_is, turn_is, own_reached, reached_own}
use Rattle.plank_goals.proofs.Gathered.{only_one, one_in}

pub from_not : (b : Bool) → not b ≡ true → b ≡ false
from_not true e = absurd (false≢true e)
from_not false e = refl

module _ (O : Outline) (x : Point O.methods) (t : OwnTurn) (at : IsOwnTurnAt x Exit.Yes t) (claims : List Claim) (says : SayOf O x claims) where
  -- ---- null

  abbrev Nothing : Picture → Type 0
  Nothing p = true ≡ true

  same_null : (p : Picture) → goal_holds O.header (Situation.Own t) p p Goal.ComesToNull ≡ turn_comes_to_null (own_frame O x) (turn_at O x Exit.Yes) x.location.action p
  same_null p = ap₂ (λ F (s : Turn). turn_comes_to_null F s s.action p) (frame_is O x t at) (turn_is O x t at)

  null_at : (p : Picture) → IsOwnPicture O x p → (a : Action) → x.location.action ≡ a → turn_comes_to_null (own_frame O x) (turn_at O x Exit.Yes) a p ≡ true → NullFails O x
  null_at p own (Action.Block b) here e = record { block = b; here = here; picture = p; own = own; reads = e }
  null_at p own (Action.Copy to from next) here e = absurd (false≢true e)
  null_at p own (Action.New to next) here e = absurd (false≢true e)
  null_at p own (Action.Return answer) here e = absurd (false≢true e)

  say_nothing : (p : Picture) → AreRight O.header (Situation.Own t) p claims ↔ (AreTrue O x Speaker.Own Known.All (Situation.Own t) p × Nothing p)
  say_nothing p = ((λ right. ((says (Situation.Own t) p).0 right, refl)), (λ all. (says (Situation.Own t) p).1 all.0))

  pub null_from : IsOneReached O.header (Situation.Own t) claims (Goal.ComesToNull ∷ []) → NullFails O x
  null_from w =
      let is : w.goal ≡ Goal.ComesToNull = sym (only_one Goal.ComesToNull w.goal w.asked) in
      let v = own_reached O x t at claims Nothing say_nothing Goal.ComesToNull (subst (λ g. IsReachedFrom O.header (Situation.Own t) claims g) is w.reached) in
      null_at v.picture v.own x.location.action refl (sym (same_null v.picture) ∙ v.holds)

  pub null_to : NullFails O x → IsOneReached O.header (Situation.Own t) claims (Goal.ComesToNull ∷ [])
  null_to w = record {
    goal = Goal.ComesToNull;
    asked = one_in Goal.ComesToNull;
    reached = reached_own O x t at claims Nothing say_nothing Goal.ComesToNull (record {
      picture = w.picture;
      own = w.own;
      more = refl;
      holds = same_null w.picture ∙ ap (λ a. turn_comes_to_null (own_frame O x) (turn_at O x Exit.Yes) a w.picture) w.here ∙ w.reads;
    });
  }

  -- ---- target

  module _ (n : ℕ) (new : List Claim) (new_is : new ≡ claims ++ not_null n ∷ []) where
    abbrev IsThere : Picture → Type 0
    IsThere p = p (Part.Null n) ≡ false

    say_there : (p : Picture) → AreRight O.header (Situation.Own t) p new ↔ (AreTrue O x Speaker.Own Known.All (Situation.Own t) p × IsThere p)
    say_there p = says_more O x claims new (not_null n) says new_is (Situation.Own t) p

    -- an own picture in which this fails of the node
    abbrev Fails : (Picture → Bool) → Type 0
    Fails test = SomeOwnPicture O x (λ p. not (p (Part.Null n)) && not (test p))

    reached_fails : (g : Goal) (test : Picture → Bool) → ((p : Picture) → goal_holds O.header (Situation.Own t) p p g ≡ not (test p)) → IsReachedFrom O.header (Situation.Own t) new g → Fails test
    reached_fails g test same w =
        let v = own_reached O x t at new IsThere say_there g w in
        record { picture = v.picture; own = v.own; is = and_from (not (v.picture (Part.Null n))) (not (test v.picture)) (ap not v.more) (sym (same v.picture) ∙ v.holds) }

    fails_reached : (g : Goal) (test : Picture → Bool) → ((p : Picture) → goal_holds O.header (Situation.Own t) p p g ≡ not (test p)) → Fails test → IsReachedFrom O.header (Situation.Own t) new g
    fails_reached g test same w =
        let both = and_parts (not (w.picture (Part.Null n))) (not (test w.picture)) w.is in
        reached_own O x t at new IsThere say_there g (record { picture = w.picture; own = w.own; more = from_not (w.picture (Part.Null n)) both.0; holds = same w.picture ∙ both.1 })

    abbrev owned : Picture → Bool
    owned p = is_owned p true n

    abbrev shared : Picture → Bool
    shared p = p (Part.Shared n)

    -- what is written, by its name
    change_there : (o : Option Change) → option_map (λ (c : Change). c.at) o ≡ Some n → (c : Change) × (o ≡ Some c) × (c.at ≡ n)
    change_there None e = absurd (none-some n e)
    change_there (Some c) e = (c, refl, same_Some c.at n e)

    module _ (written : option_map (λ (c : Change). c.at) (change_of (turn_of_own t)) ≡ Some n) where
      pub target_from : AreBothReached O.header (Situation.Own t) new (not_own n ∷ not_shared n ∷ []) → TargetFails O x
      target_from w =
          let c = change_there (change_of (turn_of_own t)) written in
          let first : w.first ≡ not_own n = same_Some w.first (not_own n) (sym w.first_there) in
          let second : w.second ≡ not_shared n = same_Some w.second (not_shared n) (sym w.second_there) in
          record {
            change = c.0;
            writes = ap change_of (sym (turn_is O x t at)) ∙ c.1;
            not_own = subst (λ k. SomeOwnPicture O x (λ p. not (p (Part.Null k)) && not (is_owned p true k))) (sym c.2)
                (reached_fails (not_own n) owned (λ p. refl) (subst (λ g. IsReachedFrom O.header (Situation.Own t) new g) first w.first_reached));
            not_shared = subst (λ k. SomeOwnPicture O x (λ p. not (p (Part.Null k)) && not (p (Part.Shared k)))) (sym c.2)
                (reached_fails (not_shared n) shared (λ p. refl) (subst (λ g. IsReachedFrom O.header (Situation.Own t) new g) second w.second_reached));
          }

      -- the name is that of what is written
      named_so : (c : Change) → change_of (turn_at O x Exit.Yes) ≡ Some c → c.at ≡ n
      named_so c writes =
          same_Some c.at n (sym (ap (option_map (λ (d : Change). d.at)) (ap change_of (turn_is O x t at) ∙ writes)) ∙ written)

      pub target_to : TargetFails O x → AreBothReached O.header (Situation.Own t) new (not_own n ∷ not_shared n ∷ [])
      target_to w =
          let same = named_so w.change w.writes in
          record {
            first = not_own n;
            second = not_shared n;
            first_there = refl;
            second_there = refl;
            first_reached = fails_reached (not_own n) owned (λ p. refl) (subst (λ k. SomeOwnPicture O x (λ p. not (p (Part.Null k)) && not (is_owned p true k))) same w.not_own);
            second_reached = fails_reached (not_shared n) shared (λ p. refl) (subst (λ k. SomeOwnPicture O x (λ p. not (p (Part.Null k)) && not (p (Part.Shared k)))) same w.not_shared);
          }

    pub none_written : option_map (λ (c : Change). c.at) (change_of (turn_of_own t)) ≡ None → TargetFails O x → ⊥
    none_written none w = none-some w.change.at (sym none ∙ ap (option_map (λ (c : Change). c.at)) (ap change_of (turn_is O x t at) ∙ w.writes))
