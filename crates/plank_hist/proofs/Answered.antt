-- The call that is answered at a place of a history, found by looking back.
use Rattle.std.proofs.Common.{◌≡◌, ℕ, zero, suc, ◌<◌, Bool, true, false, cond, eqb, List, [], ◌∷◌, Option, Some, None, refl, sym, subst, ap, ◌∙◌, ⊎_elim, arith}
use Rattle.std.specs.List.{slice_get}
use Rattle.std.proofs.lemmas.Bool.{cases_lt, cases_order, eqb-true, eqb-false, eq-eqb, ne_eqb}
use Rattle.std.proofs.lemmas.Option.{none-some, same_Some, some_pair_parts}
use Rattle.plank_hist.specs.Histories.{Happening, thread_of, IsInvoked, Responds}
use Rattle.plank_hist.specs.Histories.Happening.{invoked, responded}
use Rattle.plank_hist.specs.Linearizability.{Listing}

-- a thread's open call, its place and input, after one more happening, at place m
abbrev opened : {Input Answer : Type 0} → Option (Happening Input Answer) → ℕ → ℕ → Option (ℕ × Input) → Option (ℕ × Input)
opened None thread m before = before
opened (Some (invoked other input)) thread m before = cond (eqb other thread) (Some (m, input)) before
opened (Some (responded other answer)) thread m before = cond (eqb other thread) None before

-- a thread's open call before place m
abbrev open_call : {Input Answer : Type 0} → List (Happening Input Answer) → ℕ → ℕ → Option (ℕ × Input)
open_call h thread zero = None
open_call h thread (suc m) = opened (slice_get h m) thread m (open_call h thread m)

-- the call at place i of this thread is open before place m
record IsOpen {Input Answer : Type 0} (h : List (Happening Input Answer)) (thread m i : ℕ) (input : Input) : Type 0 where
  pub earlier : i < m
  pub invocation : slice_get h i ≡ Some (invoked thread input)
  pub apart : (k : ℕ) (between : Happening Input Answer) → i < k → k < m → slice_get h k ≡ Some between → thread_of between ≡ thread → ⊥

module _ {Input Answer : Type 0} (h : List (Happening Input Answer)) where
  -- a call stays open where a happening is none of its thread
  IsOpen-more : (thread m i : ℕ) (input : Input) → ((between : Happening Input Answer) → slice_get h m ≡ Some between → thread_of between ≡ thread → ⊥)
      → IsOpen h thread m i input → IsOpen h thread (suc m) i input
  IsOpen-more thread m i input other is_open = record {
    earlier = let lt = is_open.earlier in omega arith;
    invocation = is_open.invocation;
    apart = λ k between above below at same.
        ⊎_elim (λ lt. is_open.apart k between above lt at same) (λ ge. let e : k ≡ m = omega arith in other between (subst (λ j. slice_get h j ≡ Some between) e at) same) (cases_lt k m);
  }

  -- one more happening, at place m: what is open afterwards
  opened-is_open : (thread m i : ℕ) (input : Input) (before : Option (ℕ × Input)) → (before ≡ Some (i, input) → IsOpen h thread m i input)
      → (at : Option (Happening Input Answer)) → slice_get h m ≡ at → opened at thread m before ≡ Some (i, input) → IsOpen h thread (suc m) i input
  opened-is_open thread m i input before known None there found =
      IsOpen-more thread m i input (λ between here same. absurd (none-some between (sym there ∙ here))) (known found)
  opened-is_open thread m i input before known (Some (invoked other given)) there found = go (eqb other thread) refl found
    where
      go : (b : Bool) → eqb other thread ≡ b → cond b (Some (m, given)) before ≡ Some (i, input) → IsOpen h thread (suc m) i input
      go true e f =
          let parts = some_pair_parts m i given input f in
          let place : m ≡ i = parts.0 in
          record {
            earlier = omega arith;
            invocation = subst (λ k. slice_get h k ≡ Some (invoked thread input)) place (there ∙ ap (λ t. Some (invoked t given)) (eqb-true other thread e) ∙ ap (λ x. Some (invoked thread x)) parts.1);
            apart = λ k between above below at same. absurd (omega arith);
          }
      go false e f =
          IsOpen-more thread m i input (λ between here same. eqb-false other thread e (ap thread_of (same_Some (invoked other given) between (sym there ∙ here)) ∙ same)) (known f)
  opened-is_open thread m i input before known (Some (responded other given)) there found = go (eqb other thread) refl found
    where
      go : (b : Bool) → eqb other thread ≡ b → cond b None before ≡ Some (i, input) → IsOpen h thread (suc m) i input
      go true e f = absurd (none-some _ f)
      go false e f =
          IsOpen-more thread m i input (λ between here same. eqb-false other thread e (ap thread_of (same_Some (responded other given) between (sym there ∙ here)) ∙ same)) (known f)

  open_call-is_open : (thread m i : ℕ) (input : Input) → open_call h thread m ≡ Some (i, input) → IsOpen h thread m i input
  open_call-is_open thread zero i input e = absurd (none-some _ e)
  open_call-is_open thread (suc m) i input e =
      opened-is_open thread m i input (open_call h thread m) (open_call-is_open thread m i input) (slice_get h m) refl e

  -- a happening of another thread opens and ends nothing
  opened-other : (thread m : ℕ) (before : Option (ℕ × Input)) (at : Option (Happening Input Answer))
      → ((between : Happening Input Answer) → at ≡ Some between → thread_of between ≡ thread → ⊥) → opened at thread m before ≡ before
  opened-other thread m before None other = refl
  opened-other thread m before (Some (invoked u x)) other = ap (λ b. cond b (Some (m, x)) before) (ne_eqb u thread (other (invoked u x) refl))
  opened-other thread m before (Some (responded u a)) other = ap (λ b. cond b None before) (ne_eqb u thread (other (responded u a) refl))

  is_open-open_call : (thread m i : ℕ) (input : Input) → IsOpen h thread m i input → open_call h thread m ≡ Some (i, input)
  is_open-open_call thread zero i input is_open = absurd (let lt = is_open.earlier in omega arith)
  is_open-open_call thread (suc m) i input is_open =
      ⊎_elim (λ lt. opened-other thread m (open_call h thread m) (slice_get h m) (λ between at same. is_open.apart m between lt (omega arith) at same) ∙ is_open-open_call thread m i input (record { earlier = lt; invocation = is_open.invocation; apart = λ k between above below at same. is_open.apart k between above (omega arith) at same })) (λ ge. let place : i ≡ m = (let lt = is_open.earlier in omega arith) in ap (λ at. opened at thread m (open_call h thread m)) (subst (λ k. slice_get h k ≡ Some (invoked thread input)) place is_open.invocation) ∙ ap (λ b. cond b (Some (m, input)) (open_call h thread m)) (eq-eqb thread thread refl) ∙ ap (λ k. Some (k, input)) (sym place)) (cases_lt i m)

-- the open call with its answer
abbrev ended : {Input Answer : Type 0} → Option (ℕ × Input) → Answer → List (Listing Input Answer)
ended None answer = []
ended (Some call) answer = record { place = call.0; input = call.1; answer = answer } ∷ []

-- the call that a happening ends
abbrev ending : {Input Answer : Type 0} → Option (Happening Input Answer) → (ℕ → Option (ℕ × Input)) → List (Listing Input Answer)
ending None calls = []
ending (Some (invoked thread input)) calls = []
ending (Some (responded thread answer)) calls = ended (calls thread) answer

-- the call that is answered at place j, if one is
abbrev pub answered_at : {Input Answer : Type 0} → List (Happening Input Answer) → ℕ → List (Listing Input Answer)
answered_at h j = ending (slice_get h j) (λ thread. open_call h thread j)

-- the k-th of the calls that are answered at place j; there is at most one
pub record IsAnsweredAt {Input Answer : Type 0} (h : List (Happening Input Answer)) (j k : ℕ) (c : Listing Input Answer) : Type 0 where
  pub only : k ≡ 0
  pub begun : IsInvoked h c.place c.input
  pub responds : Responds h c.place j c.answer

module _ {Input Answer : Type 0} (h : List (Happening Input Answer)) where
  ended-answered : (thread j : ℕ) (answer : Answer) (call : Option (ℕ × Input)) → open_call h thread j ≡ call → slice_get h j ≡ Some (responded thread answer)
      → (k : ℕ) (c : Listing Input Answer) → slice_get (ended call answer) k ≡ Some c → IsAnsweredAt h j k c
  ended-answered thread j answer None found there k c at = absurd (none-some c at)
  ended-answered thread j answer (Some call) found there zero c at =
      let is_open = open_call-is_open h thread j call.0 call.1 found in
      subst (λ d. IsAnsweredAt h j zero d) (same_Some _ c at) (record {
        only = refl;
        begun = record { thread = thread; invocation = is_open.invocation };
        responds = record { thread = thread; input = call.1; invocation = is_open.invocation; response = there; later = is_open.earlier; apart = is_open.apart };
      })
  ended-answered thread j answer (Some call) found there (suc k) c at = absurd (none-some c at)

  ending-answered : (j : ℕ) (at : Option (Happening Input Answer)) → slice_get h j ≡ at
      → (k : ℕ) (c : Listing Input Answer) → slice_get (ending at (λ thread. open_call h thread j)) k ≡ Some c → IsAnsweredAt h j k c
  ending-answered j None there k c e = absurd (none-some c e)
  ending-answered j (Some (invoked thread input)) there k c e = absurd (none-some c e)
  ending-answered j (Some (responded thread answer)) there k c e = ended-answered thread j answer (open_call h thread j) refl there k c e

  pub answered_at-answered : (j k : ℕ) (c : Listing Input Answer) → slice_get (answered_at h j) k ≡ Some c → IsAnsweredAt h j k c
  answered_at-answered j k c e = ending-answered j (slice_get h j) refl k c e

  pub responds-answered_at : (i j : ℕ) (answer : Answer) → Responds h i j answer
      → (c : Listing Input Answer) × (slice_get (answered_at h j) 0 ≡ Some c) × (c.place ≡ i)
  responds-answered_at i j answer responds =
      let found = is_open-open_call h responds.thread j i responds.input (record { earlier = responds.later; invocation = responds.invocation; apart = responds.apart }) in
      (record { place = i; input = responds.input; answer = answer }, ap (λ at. slice_get (ending at (λ thread. open_call h thread j)) 0) responds.response ∙ ap (λ call. slice_get (ended call answer) 0) found, refl)

  -- the thread of an invocation
  same_thread : (i t u : ℕ) (x y : Input) → slice_get h i ≡ Some (invoked t x) → slice_get h i ≡ Some (invoked u y) → t ≡ u
  same_thread i t u x y first second = ap thread_of (same_Some (invoked t x) (invoked u y) (sym first ∙ second))

  not_twice : (i j l : ℕ) (a b : Answer) → Responds h i j a → Responds h i l b → j < l → ⊥
  not_twice i j l a b first second lt =
      second.apart j (responded first.thread a) first.later lt first.response (same_thread i first.thread second.thread first.input second.input first.invocation second.invocation)

  -- a call is answered once
  pub responds_once : (i j l : ℕ) (a b : Answer) → Responds h i j a → Responds h i l b → j ≡ l
  responds_once i j l a b first second =
      ⊎_elim (λ same. same) (λ differ. ⊎_elim (λ lt. absurd (not_twice i j l a b first second lt)) (λ gt. absurd (not_twice i l j b a second first gt)) differ) (cases_order j l)

  -- with one answer
  pub responds_alike : (i j l : ℕ) (a b : Answer) → Responds h i j a → Responds h i l b → a ≡ b
  responds_alike i j l a b first second =
      let same : Some (responded first.thread a) ≡ Some (responded second.thread b) = sym first.response ∙ subst (λ k. slice_get h k ≡ Some (responded second.thread b)) (sym (responds_once i j l a b first second)) second.response in
      cc
