-- The pending call of a thread is the thread's last happening: where it stands in the history, and that it is the call
-- which the thread's next answer ends.
use Rattle.std.proofs.Common.{◌≡◌, ℕ, suc, ◌<◌, Bool, true, false, cond, eqb, ℤ, List, [], ◌∷◌, ◌++◌, length, Option, Some, None, refl, sym, ap, ◌∙◌, subst, ⊎_elim, ◌⊎◌, inl, inr, arith}
use Rattle.std.specs.Prelude.{slice_get}
use Rattle.std.proofs.lemmas.Bool.{cases_order, eqb-true, eqb-false, eq-eqb, ne_eqb}
use Rattle.std.proofs.lemmas.List.{map-append, length-map}
use Rattle.std.proofs.lemmas.Option.{none-some, same_Some, slice_get_within}
use Rattle.plank_base.specs.declared.operations.Op.{Op}
use Rattle.plank_base.specs.declared.keys.ThreadId.{ThreadId}
use Rattle.plank_hist.specs.declared.events.Event.{Event}
use Rattle.plank_hist.specs.declared.events.Event.TheVariants.{Invoke, Respond}
use Rattle.plank_hist.specs.Histories.{Happening, thread_of, happening_of, history_of, Responds}
use Rattle.plank_hist.specs.Histories.Happening.{invoked, responded}
use Rattle.plank_sem.specs.Runs.{history, moment_of}
use Rattle.plank_sem.proofs.Lists.{found_after_push, push_found, push_last}
use Rattle.plank_account.specs.Accounts.{PendingCall, pending_of}

-- ---- over histories of any object

-- the last happening of a thread is the invocation at this place
pub record IsLast {Input Answer : Type 0} (h : List (Happening Input Answer)) (thread place : ℕ) (input : Input) : Type 0 where
  pub invocation : slice_get h place ≡ Some (invoked thread input)
  pub last : (k : ℕ) (x : Happening Input Answer) → place < k → slice_get h k ≡ Some x → thread_of x ≡ thread → ⊥

-- the happening that is put behind a history is this answer, of a thread whose last happening is this invocation
pub record Ends {Input Answer : Type 0} (h : List (Happening Input Answer)) (x : Happening Input Answer) (i j : ℕ) (answer : Answer) : Type 0 where
  pub place : j ≡ length h
  pub thread : ℕ
  pub input : Input
  pub is : x ≡ responded thread answer
  pub pending : IsLast h thread i input

module _ {Input Answer : Type 0} (h : List (Happening Input Answer)) where
  pub last_stays : (thread place : ℕ) (input : Input) (x : Happening Input Answer) → (thread_of x ≡ thread → ⊥) → IsLast h thread place input → IsLast (h ++ x ∷ []) thread place input
  last_stays thread place input x other is_last = record {
    invocation = push_found h (x ∷ []) place (invoked thread input) is_last.invocation;
    last = λ k y later at same.
        elim (found_after_push h x k y at) [
          | inl old ↦ is_last.last k y later old same
          | inr new ↦ other (ap thread_of new.1 ∙ same)
        ];
  }

  pub last_is_new : (thread : ℕ) (input : Input) → IsLast (h ++ invoked thread input ∷ []) thread (length h) input
  last_is_new thread input = record {
    invocation = push_last h (invoked thread input);
    last = λ k y later at same.
        elim (found_after_push h (invoked thread input) k y at) [
          | inl old ↦ absurd (let within = slice_get_within h k y old in omega arith)
          | inr new ↦ absurd (let place = new.0 in omega arith)
        ];
  }

  invoked_thread : (place t u : ℕ) (x y : Input) → slice_get h place ≡ Some (invoked t x) → slice_get h place ≡ Some (invoked u y) → t ≡ u
  invoked_thread place t u x y first second = ap thread_of (same_Some (invoked t x) (invoked u y) (sym first ∙ second))

  -- a thread has one last happening, and each is of one thread
  pub last_place : (thread p q : ℕ) (x y : Input) → IsLast h thread p x → IsLast h thread q y → p ≡ q
  last_place thread p q x y first second =
      ⊎_elim (λ same. same) (λ differ. ⊎_elim (λ lt. absurd (first.last q (invoked thread y) lt second.invocation refl)) (λ gt. absurd (second.last p (invoked thread x) gt first.invocation refl)) differ) (cases_order p q)

  pub last_thread : (p t u : ℕ) (x y : Input) → IsLast h t p x → IsLast h u p y → t ≡ u
  last_thread p t u x y first second = invoked_thread p t u x y first.invocation second.invocation

  -- a thread's last invocation is not answered
  pub last_is_unanswered : (thread p j : ℕ) (input : Input) (answer : Answer) → IsLast h thread p input → Responds h p j answer → ⊥
  last_is_unanswered thread p j input answer is_last responds =
      is_last.last j (responded responds.thread answer) responds.later responds.response
      (invoked_thread p responds.thread thread responds.input input responds.invocation is_last.invocation)

  open_responds : (x : Happening Input Answer) (i j : ℕ) (answer : Answer) (r : Responds (h ++ x ∷ []) i j answer) → slice_get h j ≡ Some (responded r.thread answer) → Responds h i j answer
  open_responds x i j answer r old =
      let within = slice_get_within h j _ old in
      let later : i < j = r.later in
      record {
        thread = r.thread;
        input = r.input;
        invocation =
            elim (found_after_push h x i (invoked r.thread r.input) r.invocation) [
              | inl before ↦ before
              | inr new ↦ absurd (let place = new.0 in omega arith)
            ];
        response = old;
        later = later;
        apart = λ k between above below at same. r.apart k between above below (push_found h (x ∷ []) k between at) same;
      }

  new_responds : (x : Happening Input Answer) (i j : ℕ) (answer : Answer) (r : Responds (h ++ x ∷ []) i j answer) → j ≡ length h → x ≡ responded r.thread answer → Ends h x i j answer
  new_responds x i j answer r place is =
      let later : i < j = r.later in
      record {
        place = place;
        thread = r.thread;
        input = r.input;
        is = is;
        pending = record {
          invocation =
              elim (found_after_push h x i (invoked r.thread r.input) r.invocation) [
                | inl before ↦ before
                | inr new ↦ absurd (let end = new.0 in omega arith)
              ];
          last = λ k y above at same.
              let within = slice_get_within h k y at in
              r.apart k y above (omega arith) (push_found h (x ∷ []) k y at) same;
        };
      }

  -- an answer in a longer history was there, or is the new happening
  pub responds_cases : (x : Happening Input Answer) (i j : ℕ) (answer : Answer) → Responds (h ++ x ∷ []) i j answer → Responds h i j answer ⊎ Ends h x i j answer
  responds_cases x i j answer r =
      elim (found_after_push h x j (responded r.thread answer) r.response) [
        | inl old ↦ inl (open_responds x i j answer r old)
        | inr new ↦ inr (new_responds x i j answer r new.0 new.1)
      ]

-- ---- over what the steps of a run told

-- the history that they told, as happenings
abbrev pub happened : List (Option Event) → List (Happening (Op × ℤ) Bool)
happened told = history_of (history told)

pub happened-more : (told : List (Option Event)) (event : Event) → happened (Some event ∷ told) ≡ happened told ++ happening_of event ∷ []
happened-more told event = map-append happening_of (history told) (event ∷ [])

pub length-happened : (told : List (Option Event)) → length (happened told) ≡ length (history told)
length-happened told = length-map (history told) happening_of

-- one more happening, of another thread or an invocation of this one
stays_pending : (thread : ℕ) (told : List (Option Event)) (event : Event) (place : ℕ) (input : Op × ℤ) → (thread_of (happening_of event) ≡ thread → ⊥) → IsLast (happened told) thread place input → IsLast (happened (Some event ∷ told)) thread place input
stays_pending thread told event place input other is_last =
    subst (λ h. IsLast h thread place input) (sym (happened-more told event)) (last_stays (happened told) thread place input (happening_of event) other is_last)

becomes_pending : (thread : ℕ) (told : List (Option Event)) (other : ThreadId) (op : Op) (key : ℤ) → other.0 ≡ thread → IsLast (happened (Some (Invoke other op key) ∷ told)) thread (length (history told)) (op, key)
becomes_pending thread told other op key same =
    subst (λ h. IsLast h thread (length (history told)) (op, key)) (sym (happened-more told (Invoke other op key)))
    (subst (λ n. IsLast (happened told ++ invoked other.0 (op, key) ∷ []) thread n (op, key)) (length-happened told)
    (subst (λ t. IsLast (happened told ++ invoked other.0 (op, key) ∷ []) t (length (happened told)) (op, key)) same (last_is_new (happened told) other.0 (op, key))))

-- the pending call of a thread is its last happening
pub pending_is_last : (thread : ℕ) (told : List (Option Event)) (call : PendingCall) → pending_of thread told ≡ Some call → IsLast (happened told) thread call.place (call.op, call.key)
pending_is_last thread [] call e = absurd (none-some call e)
pending_is_last thread (None ∷ told) call e = pending_is_last thread told call e
pending_is_last thread (Some (Invoke other op key) ∷ told) call e = go (λ f. pending_is_last thread told call f) (eqb other.0 thread) refl e
  where
    go : (pending_of thread told ≡ Some call → IsLast (happened told) thread call.place (call.op, call.key)) → (b : Bool) → eqb other.0 thread ≡ b → cond b (Some (record { place = length (history told); op = op; key = key })) (pending_of thread told) ≡ Some call → IsLast (happened (Some (Invoke other op key) ∷ told)) thread call.place (call.op, call.key)
    go before true same f =
        let fresh : PendingCall = record { place = length (history told); op = op; key = key } in
        subst (λ (c : PendingCall). IsLast (happened (Some (Invoke other op key) ∷ told)) thread c.place (c.op, c.key)) (same_Some fresh call f) (becomes_pending thread told other op key (eqb-true other.0 thread same))
    go before false differ f =
        stays_pending thread told (Invoke other op key) call.place (call.op, call.key) (eqb-false other.0 thread differ) (before f)
pending_is_last thread (Some (Respond other answer) ∷ told) call e = go (λ f. pending_is_last thread told call f) (eqb other.0 thread) refl e
  where
    go : (pending_of thread told ≡ Some call → IsLast (happened told) thread call.place (call.op, call.key)) → (b : Bool) → eqb other.0 thread ≡ b → cond b None (pending_of thread told) ≡ Some call → IsLast (happened (Some (Respond other answer) ∷ told)) thread call.place (call.op, call.key)
    go before true same f = absurd (none-some call f)
    go before false differ f =
        stays_pending thread told (Respond other answer) call.place (call.op, call.key) (eqb-false other.0 thread differ) (before f)

-- it stands within the history
pub pending_within : (thread : ℕ) (told : List (Option Event)) (call : PendingCall) → pending_of thread told ≡ Some call → call.place < length (history told)
pending_within thread told call e =
    let within = slice_get_within (happened told) call.place _ (pending_is_last thread told call e).invocation in
    let same = length-happened told in
    omega arith

-- ---- moments

pub moment_of-earlier : (told : List (Option Event)) (event : Event) (place : ℕ) → place < length (history told) → moment_of (Some event ∷ told) place ≡ moment_of told place
moment_of-earlier told event place below =
    ap (λ b. cond b (suc (length told)) (moment_of told place)) (ne_eqb place (length (history told)) (λ same. omega arith))

pub moment_of-last : (told : List (Option Event)) (event : Event) (place : ℕ) → place ≡ length (history told) → moment_of (Some event ∷ told) place ≡ suc (length told)
moment_of-last told event place same =
    ap (λ b. cond b (suc (length told)) (moment_of told place)) (eq-eqb place (length (history told)) same)
