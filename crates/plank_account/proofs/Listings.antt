-- Which calls are listed at which moment, so far: what has to hold of them for the trace law, kept by each kind of step.
use Rattle.std.proofs.Common.{◌≡◌, ℕ, ◌<◌, ◌≤◌, Bool, true, false, cond, eqb, ℤ, List, [], ◌∷◌, ◌++◌, length, Option, Some, None, refl, sym, ap, ◌∙◌, subst, ◌⊎◌, inl, inr, arith}
use Rattle.std.specs.Prelude.{slice_get}
use Rattle.std.proofs.lemmas.Bool.{eqb-true, eqb-false, cases_eq}
use Rattle.std.proofs.lemmas.Option.{none-some, same_Some, slice_get_within}
use Rattle.plank_base.specs.declared.operations.Op.{Op}
use Rattle.plank_base.specs.declared.keys.ThreadId.{ThreadId}
use Rattle.plank_hist.specs.declared.events.Event.{Event}
use Rattle.plank_hist.specs.declared.events.Event.TheVariants.{Invoke, Respond}
use Rattle.plank_hist.specs.Histories.{thread_of, happening_of, IsInvoked, Responds}
use Rattle.plank_hist.specs.Histories.Happening.{invoked, responded}
use Rattle.plank_hist.specs.Linearizability.{Listing}
use Rattle.plank_sem.specs.Runs.{history, moment_of}
use Rattle.plank_sem.specs.Kept.{updated}
use Rattle.plank_sem.proofs.Lists.{found_after_push, push_found, push_last}
use Rattle.plank_sem.proofs.Updates.{updated-at, updated-elsewhere}
use Rattle.plank_account.specs.Accounts.{PendingCall, pending_of}
use Rattle.plank_account.proofs.PendingCalls.{IsLast, Ends, last_place, last_thread, last_is_unanswered, responds_cases, happened, happened-more, length-happened, pending_is_last, moment_of-earlier, moment_of-last}

abbrev pub SetCall : Type 0
SetCall = Listing (Op × ℤ) Bool

-- a pending call, listed with an answer
abbrev pub listing_of : PendingCall → Bool → SetCall
listing_of call answer = record { place = call.place; input = (call.op, call.key); answer = answer }

-- ---- lists by moment

-- one more element, the last at one moment
pub record Adds {X : Type 0} (before after : ℕ → List X) (moment : ℕ) (x : X) : Type 0 where
  pub here : after moment ≡ before moment ++ x ∷ []
  pub elsewhere : (m : ℕ) → (m ≡ moment → ⊥) → after m ≡ before m

module _ {X : Type 0} (before after : ℕ → List X) (moment : ℕ) (x : X) (adds : Adds before after moment x) where
  pub added_last : slice_get (after moment) (length (before moment)) ≡ Some x
  added_last = subst (λ xs. slice_get xs (length (before moment)) ≡ Some x) (sym adds.here) (push_last (before moment) x)

  pub added_stays : (m k : ℕ) (y : X) → slice_get (before m) k ≡ Some y → slice_get (after m) k ≡ Some y
  added_stays m k y at =
      elim (cases_eq m moment) [
        | inl same ↦ subst (λ xs. slice_get xs k ≡ Some y) (sym (ap after same ∙ adds.here)) (push_found (before moment) (x ∷ []) k y (subst (λ n. slice_get (before n) k ≡ Some y) same at))
        | inr differ ↦ subst (λ xs. slice_get xs k ≡ Some y) (sym (adds.elsewhere m differ)) at
      ]

  pub added_cases : (m k : ℕ) (y : X) → slice_get (after m) k ≡ Some y → (slice_get (before m) k ≡ Some y) ⊎ ((m ≡ moment) × (k ≡ length (before moment)) × (x ≡ y))
  added_cases m k y at =
      elim (cases_eq m moment) [
        | inl same ↦ elim (found_after_push (before moment) x k y (subst (λ xs. slice_get xs k ≡ Some y) (ap after same ∙ adds.here) at)) [
          | inl old ↦ inl (subst (λ n. slice_get (before n) k ≡ Some y) (sym same) old)
          | inr new ↦ inr (same, new.0, new.1)
        ]
        | inr differ ↦ inl (subst (λ xs. slice_get xs k ≡ Some y) (adds.elsewhere m differ) at)
      ]

-- ---- what is kept

-- the call that is invoked at place i is listed
abbrev pub IsListed : (ℕ → List SetCall) → ℕ → Type 0
IsListed calls i = (m k : ℕ) × (c : SetCall) × (slice_get (calls m) k ≡ Some c) × (c.place ≡ i)

-- by what was told so far, for each thread the answer with which its pending call is listed, and the calls by moment
pub record Covers (told : List (Option Event)) (listed : ℕ → Option Bool) (calls : ℕ → List SetCall) : Type 0 where
  pub within : (m k : ℕ) (c : SetCall) → slice_get (calls m) k ≡ Some c → m ≤ length told
  pub begun : (m k : ℕ) (c : SetCall) → slice_get (calls m) k ≡ Some c → IsInvoked (happened told) c.place c.input
  pub later : (m k : ℕ) (c : SetCall) → slice_get (calls m) k ≡ Some c → moment_of told c.place ≤ m
  pub alike : (m k j : ℕ) (answer : Bool) (c : SetCall) → slice_get (calls m) k ≡ Some c → Responds (happened told) c.place j answer → answer ≡ c.answer
  pub ended : (m k j : ℕ) (answer : Bool) (c : SetCall) → slice_get (calls m) k ≡ Some c → Responds (happened told) c.place j answer → m < moment_of told j
  pub answered : (i j : ℕ) (answer : Bool) → Responds (happened told) i j answer → IsListed calls i
  pub once : (m k n l : ℕ) (c d : SetCall) → slice_get (calls m) k ≡ Some c → slice_get (calls n) l ≡ Some d → c.place ≡ d.place → (m ≡ n) × (k ≡ l)
  -- a pending call is listed exactly where an answer is kept for it, with that answer
  pub due : (m k thread : ℕ) (c : SetCall) (call : PendingCall) → slice_get (calls m) k ≡ Some c → pending_of thread told ≡ Some call → call.place ≡ c.place → listed thread ≡ Some c.answer
  pub owed : (thread : ℕ) (call : PendingCall) (answer : Bool) → pending_of thread told ≡ Some call → listed thread ≡ Some answer → IsListed calls call.place

pub covers_nothing : (listed : ℕ → Option Bool) (calls : ℕ → List SetCall) → ((m : ℕ) → calls m ≡ []) → Covers [] listed calls
covers_nothing listed calls none =
    let empty = λ (m k : ℕ) (c : SetCall) (at : slice_get (calls m) k ≡ Some c). none-some c (subst (λ cs. slice_get cs k ≡ Some c) (none m) at) in
    record {
      within = λ m k c at. absurd (empty m k c at);
      begun = λ m k c at. absurd (empty m k c at);
      later = λ m k c at. absurd (empty m k c at);
      alike = λ m k j answer c at responds. absurd (empty m k c at);
      ended = λ m k j answer c at responds. absurd (empty m k c at);
      answered = λ i j answer responds. absurd (none-some _ responds.response);
      once = λ m k n l c d at other same. absurd (empty m k c at);
      due = λ m k thread c call at pending same. absurd (empty m k c at);
      owed = λ thread call answer pending is. absurd (none-some call pending);
    }

module _ (told : List (Option Event)) (listed : ℕ → Option Bool) (calls : ℕ → List SetCall) (covers : Covers told listed calls) where
  -- a step that tells nothing
  pub covers_rest : Covers (None ∷ told) listed calls
  covers_rest = record {
    within = λ m k c at. let le = covers.within m k c at in omega arith;
    begun = covers.begun;
    later = covers.later;
    alike = covers.alike;
    ended = covers.ended;
    answered = covers.answered;
    once = covers.once;
    due = covers.due;
    owed = covers.owed;
  }

  -- answers are kept for pending calls alone
  pub covers_same : (other : ℕ → Option Bool) → ((thread : ℕ) (call : PendingCall) → pending_of thread told ≡ Some call → other thread ≡ listed thread) → Covers told other calls
  covers_same other same = record {
    within = covers.within;
    begun = covers.begun;
    later = covers.later;
    alike = covers.alike;
    ended = covers.ended;
    answered = covers.answered;
    once = covers.once;
    due = λ m k thread c call at pending place. same thread call pending ∙ covers.due m k thread c call at pending place;
    owed = λ thread call answer pending is. covers.owed thread call answer pending (sym (same thread call pending) ∙ is);
  }

  -- one event more

  place_below : (m k : ℕ) (c : SetCall) → slice_get (calls m) k ≡ Some c → c.place < length (history told)
  place_below m k c at =
      let within = slice_get_within (happened told) c.place _ (covers.begun m k c at).invocation in
      let same = length-happened told in
      omega arith

  answer_below : (i j : ℕ) (answer : Bool) → Responds (happened told) i j answer → j < length (history told)
  answer_below i j answer responds =
      let within = slice_get_within (happened told) j _ responds.response in
      let same = length-happened told in
      omega arith

  begun_more : (event : Event) (i : ℕ) (input : Op × ℤ) → IsInvoked (happened told) i input → IsInvoked (happened (Some event ∷ told)) i input
  begun_more event i input begun = record {
    thread = begun.thread;
    invocation = subst (λ h. slice_get h i ≡ Some (invoked begun.thread input)) (sym (happened-more told event)) (push_found (happened told) (happening_of event ∷ []) i (invoked begun.thread input) begun.invocation);
  }

  later_more : (event : Event) (m k : ℕ) (c : SetCall) → slice_get (calls m) k ≡ Some c → moment_of (Some event ∷ told) c.place ≤ m
  later_more event m k c at =
      let same = moment_of-earlier told event c.place (place_below m k c at) in
      let le = covers.later m k c at in
      omega arith

  ended_more : (event : Event) (m k j : ℕ) (answer : Bool) (c : SetCall) → slice_get (calls m) k ≡ Some c → Responds (happened told) c.place j answer → m < moment_of (Some event ∷ told) j
  ended_more event m k j answer c at responds =
      let same = moment_of-earlier told event j (answer_below c.place j answer responds) in
      let lt = covers.ended m k j answer c at responds in
      omega arith

  responds_told : (event : Event) (i j : ℕ) (answer : Bool) → Responds (happened (Some event ∷ told)) i j answer → Responds (happened told) i j answer ⊎ Ends (happened told) (happening_of event) i j answer
  responds_told event i j answer responds =
      responds_cases (happened told) (happening_of event) i j answer (subst (λ h. Responds h i j answer) (happened-more told event) responds)

  no_answer : (thread : ThreadId) (op : Op) (key : ℤ) (i j : ℕ) (answer : Bool) → Responds (happened (Some (Invoke thread op key) ∷ told)) i j answer → Responds (happened told) i j answer
  no_answer thread op key i j answer responds =
      elim (responds_told (Invoke thread op key) i j answer responds) [
        | inl old ↦ old
        | inr ends ↦ absurd (let is = ends.is in cc)
      ]

  -- what is pending after an invocation: the new call, or what was pending before
  pub begins_cases : (thread : ThreadId) (op : Op) (key : ℤ) (u : ℕ) (call : PendingCall) → pending_of u (Some (Invoke thread op key) ∷ told) ≡ Some call
      → ((u ≡ thread.0) × (call.place ≡ length (history told))) ⊎ ((u ≡ thread.0 → ⊥) × (pending_of u told ≡ Some call))
  begins_cases thread op key u call e = go (eqb thread.0 u) refl e
    where
      go : (b : Bool) → eqb thread.0 u ≡ b → cond b (Some (record { place = length (history told); op = op; key = key })) (pending_of u told) ≡ Some call → ((u ≡ thread.0) × (call.place ≡ length (history told))) ⊎ ((u ≡ thread.0 → ⊥) × (pending_of u told ≡ Some call))
      go true same f =
          let fresh : PendingCall = record { place = length (history told); op = op; key = key } in
          inl (sym (eqb-true thread.0 u same), sym (ap (λ (c : PendingCall). c.place) (same_Some fresh call f)))
      go false differ f = inr ((λ same. eqb-false thread.0 u differ (sym same)), f)

  -- a call begins: no answer is kept for it
  pub covers_begin : (thread : ThreadId) (op : Op) (key : ℤ) → Covers (Some (Invoke thread op key) ∷ told) (updated listed thread.0 None) calls
  covers_begin thread op key = record {
    within = λ m k c at. let le = covers.within m k c at in omega arith;
    begun = λ m k c at. begun_more (Invoke thread op key) c.place c.input (covers.begun m k c at);
    later = λ m k c at. later_more (Invoke thread op key) m k c at;
    alike = λ m k j answer c at responds. covers.alike m k j answer c at (no_answer thread op key c.place j answer responds);
    ended = λ m k j answer c at responds. ended_more (Invoke thread op key) m k j answer c at (no_answer thread op key c.place j answer responds);
    answered = λ i j answer responds. covers.answered i j answer (no_answer thread op key i j answer responds);
    once = covers.once;
    due = λ m k u c call at pending place.
        elim (begins_cases thread op key u call pending) [
          | inl new ↦ absurd (let below = place_below m k c at in let there = new.1 in omega arith)
          | inr old ↦ updated-elsewhere listed thread.0 None u old.0 ∙ covers.due m k u c call at old.1 place
        ];
    owed = λ u call answer pending is.
        elim (begins_cases thread op key u call pending) [
          | inl new ↦ absurd (none-some answer (sym (updated-at listed thread.0 None u new.0) ∙ is))
          | inr old ↦ covers.owed u call answer old.1 (sym (updated-elsewhere listed thread.0 None u old.0) ∙ is)
        ];
  }

  -- what is pending after an answer was pending before, of another thread
  pub ends_cases : (thread : ThreadId) (answer : Bool) (u : ℕ) (call : PendingCall) → pending_of u (Some (Respond thread answer) ∷ told) ≡ Some call → (u ≡ thread.0 → ⊥) × (pending_of u told ≡ Some call)
  ends_cases thread answer u call e = go (eqb thread.0 u) refl e
    where
      go : (b : Bool) → eqb thread.0 u ≡ b → cond b None (pending_of u told) ≡ Some call → (u ≡ thread.0 → ⊥) × (pending_of u told ≡ Some call)
      go true same f = absurd (none-some call f)
      go false differ f = ((λ same. eqb-false thread.0 u differ (sym same)), f)

  -- the call that an answer ends is the pending one of the thread
  ends_pending : (thread : ThreadId) (answer : Bool) (call : PendingCall) → pending_of thread.0 told ≡ Some call → (i j : ℕ) (given : Bool) → Ends (happened told) (responded thread.0 answer) i j given → (given ≡ answer) × (call.place ≡ i) × (j ≡ length (history told))
  ends_pending thread answer call pending i j given ends =
      let is = ends.is in
      let who : thread.0 ≡ ends.thread = ap thread_of is in
      let said : given ≡ answer = cc in
      let is_last = pending_is_last thread.0 told call pending in
      (said, last_place (happened told) ends.thread call.place i (call.op, call.key) ends.input (subst (λ t. IsLast (happened told) t call.place (call.op, call.key)) who is_last) ends.pending, ends.place ∙ length-happened told)

  -- a call ends with the answer that is kept for it
  pub covers_end : (thread : ThreadId) (answer : Bool) (call : PendingCall) → pending_of thread.0 told ≡ Some call → listed thread.0 ≡ Some answer → Covers (Some (Respond thread answer) ∷ told) listed calls
  covers_end thread answer call pending kept = record {
    within = λ m k c at. let le = covers.within m k c at in omega arith;
    begun = λ m k c at. begun_more (Respond thread answer) c.place c.input (covers.begun m k c at);
    later = λ m k c at. later_more (Respond thread answer) m k c at;
    alike = λ m k j given c at responds.
        elim (responds_told (Respond thread answer) c.place j given responds) [
          | inl old ↦ covers.alike m k j given c at old
          | inr ends ↦ (let e = ends_pending thread answer call pending c.place j given ends in
              e.0 ∙ same_Some answer c.answer (sym kept ∙ covers.due m k thread.0 c call at pending e.1))
        ];
    ended = λ m k j given c at responds.
        elim (responds_told (Respond thread answer) c.place j given responds) [
          | inl old ↦ ended_more (Respond thread answer) m k j given c at old
          | inr ends ↦ (let e = ends_pending thread answer call pending c.place j given ends in
              let last = moment_of-last told (Respond thread answer) j e.2 in
              let le = covers.within m k c at in
              omega arith)
        ];
    answered = λ i j given responds.
        elim (responds_told (Respond thread answer) i j given responds) [
          | inl old ↦ covers.answered i j given old
          | inr ends ↦ (let e = ends_pending thread answer call pending i j given ends in
              subst (IsListed calls) e.1 (covers.owed thread.0 call answer pending kept))
        ];
    once = covers.once;
    due = λ m k u c d at is place. covers.due m k u c d at (ends_cases thread answer u d is).1 place;
    owed = λ u d given is said. covers.owed u d given (ends_cases thread answer u d is).1 said;
  }

  -- a pending call for which no answer is kept is not listed
  unlisted : (thread : ℕ) (call : PendingCall) → pending_of thread told ≡ Some call → listed thread ≡ None → (m k : ℕ) (c : SetCall) → slice_get (calls m) k ≡ Some c → c.place ≡ call.place → ⊥
  unlisted thread call pending free m k c at place = none-some c.answer (sym free ∙ covers.due m k thread c call at pending (sym place))

  same_pending : (t u : ℕ) (c d : PendingCall) → pending_of t told ≡ Some c → pending_of u told ≡ Some d → c.place ≡ d.place → t ≡ u
  same_pending t u c d first second place =
      last_thread (happened told) d.place t u (c.op, c.key) (d.op, d.key) (subst (λ p. IsLast (happened told) t p (c.op, c.key)) place (pending_is_last t told c first)) (pending_is_last u told d second)

  -- a pending call is listed, at a moment of it
  pub covers_list : (thread : ℕ) (call : PendingCall) (answer : Bool) (moment : ℕ) (more : ℕ → List SetCall) → pending_of thread told ≡ Some call → listed thread ≡ None
      → moment_of told call.place ≤ moment → moment ≤ length told → Adds calls more moment (listing_of call answer) → Covers told (updated listed thread (Some answer)) more
  covers_list thread call answer moment more pending free low high adds = record {
    within = λ m k c at.
        elim (added_cases calls more moment (listing_of call answer) adds m k c at) [
          | inl old ↦ covers.within m k c old
          | inr new ↦ (let here = new.0 in omega arith)
        ];
    begun = λ m k c at.
        elim (added_cases calls more moment (listing_of call answer) adds m k c at) [
          | inl old ↦ covers.begun m k c old
          | inr new ↦ subst (λ (d : SetCall). IsInvoked (happened told) d.place d.input) new.2 (record { thread = thread; invocation = (pending_is_last thread told call pending).invocation })
        ];
    later = λ m k c at.
        elim (added_cases calls more moment (listing_of call answer) adds m k c at) [
          | inl old ↦ covers.later m k c old
          | inr new ↦ (let here = new.0 in subst (λ (d : SetCall). moment_of told d.place ≤ m) new.2 (omega arith))
        ];
    alike = λ m k j given c at responds.
        elim (added_cases calls more moment (listing_of call answer) adds m k c at) [
          | inl old ↦ covers.alike m k j given c old responds
          | inr new ↦ absurd (unanswered (ap (λ (d : SetCall). d.place) new.2) responds)
        ];
    ended = λ m k j given c at responds.
        elim (added_cases calls more moment (listing_of call answer) adds m k c at) [
          | inl old ↦ covers.ended m k j given c old responds
          | inr new ↦ absurd (unanswered (ap (λ (d : SetCall). d.place) new.2) responds)
        ];
    answered = λ i j given responds. stays_listed i (covers.answered i j given responds);
    once = λ m k n l c d first second place.
        elim (added_cases calls more moment (listing_of call answer) adds m k c first) [
          | inl old ↦ elim (added_cases calls more moment (listing_of call answer) adds n l d second) [
            | inl other ↦ covers.once m k n l c d old other place
            | inr new ↦ absurd (unlisted thread call pending free m k c old (place ∙ sym (ap (λ (x : SetCall). x.place) new.2)))
          ]
          | inr new ↦ elim (added_cases calls more moment (listing_of call answer) adds n l d second) [
            | inl other ↦ absurd (unlisted thread call pending free n l d other (sym place ∙ sym (ap (λ (x : SetCall). x.place) new.2)))
            | inr same ↦ (new.0 ∙ sym same.0, new.1 ∙ sym same.1)
          ]
        ];
    due = λ m k u c d at is place.
        elim (added_cases calls more moment (listing_of call answer) adds m k c at) [
          | inl old ↦ updated-elsewhere listed thread (Some answer) u (λ same. unlisted thread call pending free m k c old (sym place ∙ same_call u d is same)) ∙ covers.due m k u c d old is place
          | inr new ↦ updated-at listed thread (Some answer) u (same_pending u thread d call is pending (place ∙ sym (ap (λ (x : SetCall). x.place) new.2))) ∙ ap (λ (x : SetCall). Some x.answer) new.2
        ];
    owed = λ u d given is said.
        elim (cases_eq u thread) [
          | inl same ↦ (moment, length (calls moment), listing_of call answer, added_last calls more moment (listing_of call answer) adds, sym (same_call u d is same))
          | inr differ ↦ stays_listed d.place (covers.owed u d given is (sym (updated-elsewhere listed thread (Some answer) u differ) ∙ said))
        ];
  }
    where
      unanswered : {i j : ℕ} {given : Bool} → call.place ≡ i → Responds (happened told) i j given → ⊥
      unanswered {i} {j} {given} place responds =
          last_is_unanswered (happened told) thread i j (call.op, call.key) given (subst (λ p. IsLast (happened told) thread p (call.op, call.key)) place (pending_is_last thread told call pending)) responds

      stays_listed : (i : ℕ) → IsListed calls i → IsListed more i
      stays_listed i found = (found.0, found.1, found.2, added_stays calls more moment (listing_of call answer) adds found.0 found.1 found.2 found.3, found.4)

      same_call : (u : ℕ) (d : PendingCall) → pending_of u told ≡ Some d → u ≡ thread → d.place ≡ call.place
      same_call u d is same = ap (λ (c : PendingCall). c.place) (same_Some d call (sym is ∙ ap (λ t. pending_of t told) same ∙ pending))
