-- The pictures after the steps of a location are those in which calls arrive, of which the claims of the location are right.
use Rattle.std.specs.Prelude.{◌≡◌, ℕ, Bool, true, List, [], length, slice_get, Some}
use Rattle.std.proofs.Common.{refl, sym, ◌∙◌, ap, subst, inl, inr}
use Rattle.std.proofs.lemmas.Option.{same_Some}
use Rattle.plank_bits.specs.Words.{has}
use Rattle.plank_prog.specs.declared.headers.Header.{Header}
use Rattle.plank_prog.specs.declared.methods.Method.{Method}
use Rattle.plank_prog.specs.declared.programs.Program.{Program}
use Rattle.plank_pic.specs.declared.literals.Literal.{Literal}
use Rattle.plank_pic.specs.declared.literals.Exit.{Exit}
use Rattle.plank_pic.specs.Pictures.{Picture}
use Rattle.plank_pic.specs.Truths.{truth}
use Rattle.plank_fact.specs.declared.facts.Fact.{Fact}
use Rattle.plank_fact.specs.Tables.{IsFactOf}
use Rattle.plank_fact.specs.Outlines.{Outline, Point}
use Rattle.plank_fact.specs.OwnSteps.{turn_at, IsOwnStep}
use Rattle.plank_fact.specs.After.{IsAlwaysLasting, IsOncePast, seen, carried, hindsight, IsPictureAfter, IsCarried, IsAfter}
use Rattle.plank_fact.specs.Forced.{outline}
use Rattle.plank_fact.proofs.Monotone.{always_less, hindsight_less}
use Rattle.plank_query.specs.declared.predicates.Claim.{Claim}
use Rattle.plank_query.specs.declared.predicates.Speaker.{Speaker}
use Rattle.plank_query.specs.declared.turns.OwnTurn.{OwnTurn}
use Rattle.plank_query.specs.declared.situations.Situation.{Situation}
use Rattle.plank_query.specs.Situations.{turn_of_own, IsSituated}
use Rattle.plank_query.specs.Predicates.{AreRight}
use Rattle.plank_query.specs.Places.{IsOwnTurnAt}
use Rattle.plank_query.proofs.Placed.{caller_so, own_step, step_situated}
use Rattle.plank_claim.specs.declared.known.Known.{Known}
use Rattle.plank_claim.specs.Claims.{AddsClaims}
use Rattle.plank_past.proofs.Asking.{no_claims}
use Rattle.plank_method.specs.Deciding.{outline_of, IsExact}
use Rattle.plank_shown.specs.Shown.{Arrives}
use Rattle.plank_follow.specs.Known.{IsPastIn, IsKnownFrom}
use Rattle.plank_marks.proofs.Rooms.{IsThere}
use Rattle.plank_trans.specs.Turns.{IsTurnOf}
use Rattle.plank_trans.proofs.Kept.{own_turn_is}
use Rattle.plank_trans.specs.Carried.{AreCarried, AreEnough}

-- past facts from more pictures, where what is carried of the table is carried
module _ (h : Header) (methods : List Method) (marks : ℕ → Bool) (m : Method) (A B : Picture → Type 0) (C D : Literal → Type 0) (more : (p : Picture) → A p → B p)
    (carries : (L : Literal) → IsFactOf h m (Fact.Past L) → D L → C L) where
  once_past_with : (L : Literal) → IsOncePast (outline h methods marks) m B D L → IsOncePast (outline h methods marks) m A C L
  once_past_with L (seen f s) = seen f (λ p x. s p (more p x))
  once_past_with L (carried f c) = carried f (carries L f c)
  once_past_with L (hindsight f past o now given w) =
      hindsight f past (once_past_with past o) now (λ K e. always_less h methods marks marks (λ i b. b) m A B more K (given K e))
      (hindsight_less h methods marks marks (λ i b. b) m (IsAlwaysLasting h m A) (IsAlwaysLasting h m B) past now L (λ K j. (j.0, always_less h methods marks marks (λ i b. b) m A B more K j.1)) w)

module _ (program : Program) (words : List ℕ) (m l : ℕ) (t : OwnTurn) (claims : List Claim) (said : AddsClaims program words m l Speaker.Own Known.All [] claims)
    (x : Point program.methods) (of_method : x.m ≡ m) (of_location : x.l ≡ l) (e : Exit) (at : IsOwnTurnAt x e t) where
  abbrev O : Outline
  O = outline_of program words

  abbrev S : Situation
  S = Situation.Step t

  pub turn_is : turn_of_own t ≡ turn_at O x e
  turn_is = own_turn_is O x t e at

  pub steps_own : (before after : Picture) → IsSituated program.header S before after → AreRight program.header S before claims → IsOwnStep O x e before after
  steps_own before after s right =
      let true_there = ((said x of_method of_location S before).0 right).1 in
      own_step O x e t at before after s (λ L c. subst (λ k. truth before k L ≡ true) (caller_so O x e t at) (true_there L c refl))

  pub own_situated : (before after : Picture) → IsOwnStep O x e before after → IsSituated program.header S before after
  own_situated before after w = step_situated O x e t at before after w

  pub own_right : (before after : Picture) → IsOwnStep O x e before after → AreRight program.header S before claims
  own_right before after w =
      (said x of_method of_location S before).1 (no_claims program.header S before, λ L c meant. subst (λ k. truth before k L ≡ true) (sym (caller_so O x e t at)) (w.own.claimed L c))

  arrives_after : (p : Picture) → Arrives program.header S claims p → IsPictureAfter O x e p
  arrives_after p w = (w.before, steps_own w.before p w.situated w.right)

  after_arrives : (p : Picture) → IsPictureAfter O x e p → Arrives program.header S claims p
  after_arrives p w = record { before = w.0; situated = own_situated w.0 p w.1; right = own_right w.0 p w.1 }

  -- what is known where what is carried is in a set
  pub after_exact : (wanted held known : ℕ → Bool) → AreEnough O x e wanted held
      → IsExact program.header x.method wanted known (IsKnownFrom O x.method S claims held) → IsExact program.header x.method wanted known (IsAfter O x e)
  after_exact wanted held known enough exact n (Fact.Now L) is wants = (
    λ k. always_less program.header program.methods (has words) (has words) (λ i b. b) x.method (IsPictureAfter O x e) (Arrives program.header S claims) after_arrives L ((exact n (Fact.Now L) is wants).0 k),
    λ a. (exact n (Fact.Now L) is wants).1 (always_less program.header program.methods (has words) (has words) (λ i b. b) x.method (Arrives program.header S claims) (IsPictureAfter O x e) arrives_after L a),
  )
  after_exact wanted held known enough exact n (Fact.Past L) is wants = (
    λ k. once_past_with program.header program.methods (has words) x.method (IsPictureAfter O x e) (Arrives program.header S claims)
        (IsCarried O x e) (IsPastIn program.header x.method held) after_arrives in_carried L ((exact n (Fact.Past L) is wants).0 k),
    λ a. (exact n (Fact.Past L) is wants).1 (elim (enough.all n L is wants) [
      | inl there ↦ carried (n, is) (n, is, there)
      | inr all ↦ once_past_with program.header program.methods (has words) x.method (Arrives program.header S claims) (IsPictureAfter O x e)
          (IsPastIn program.header x.method held) (IsCarried O x e) arrives_after (carried_in all) L a
    ]),
  )
    where
      in_carried : (K : Literal) → IsFactOf program.header x.method (Fact.Past K) → IsPastIn program.header x.method held K → IsCarried O x e K
      in_carried K f w = enough.carried w.0 K w.1 w.2

      carried_in : AreCarried O x e held → (K : Literal) → IsFactOf program.header x.method (Fact.Past K) → IsCarried O x e K → IsPastIn program.header x.method held K
      carried_in all K f w = (f.0, f.1, (all f.0 K f.1).1 w)

-- the own call's variables are those of the method
pub own_size : {methods : List Method} (m l : ℕ) (e : Exit) (t : OwnTurn) → IsThere methods m l → ((x : Point methods) → x.m ≡ m → x.l ≡ l → IsOwnTurnAt x e t)
    → (method : Method) → slice_get methods m ≡ Some method → t.variables ≡ length method.variables
own_size {methods} m l e t there found method called =
    let x = there.point in
    let same : x.method ≡ method = same_Some x.method method (sym x.called ∙ ap (slice_get methods) there.of_method ∙ called) in
    (found x there.of_method there.of_location).variables ∙ ap (λ (v : Method). length v.variables) same

-- a turn has its own exit
pub turn_of : {methods : List Method} (x : Point methods) (m l : ℕ) (e : Exit) (t : OwnTurn) → x.m ≡ m → x.l ≡ l → IsOwnTurnAt x e t → IsTurnOf x m l t
turn_of x m l e t of_method of_location at = record { of_method = of_method; of_location = of_location; turn = record { variables = at.variables; action = at.action; exit = refl } }
