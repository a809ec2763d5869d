-- One step more of a run with an account: a call begins, goes on, or ends. The pending calls whose methods have an operation
-- are those that the history tells; a call of a method without one tells nothing and turns nothing.
use Rattle.std.proofs.Common.{◌≡◌, ℕ, suc, ◌+◌, ◌<◌, arith, Bool, true, false, cond, ℤ, List, ◌∷◌, length, Option, Some, None, refl, sym, ap, ◌∙◌, subst, inl, inr}
use Rattle.std.specs.Prelude.{slice_get, not, ◌||◌, option_map, option_and_then}
use Rattle.std.specs.Bool.{beq}
use Rattle.std.specs.FinMap.{get, insert, remove}
use Rattle.std.proofs.Math.Path.{fun_ext}
use Rattle.std.proofs.Math.Bool.{or-true, or-false}
use Rattle.std.proofs.lemmas.Bool.{eq-eqb, ne_eqb, not-true, not-false, both_ways}
use Rattle.std.proofs.lemmas.Option.{none-some, same_Some}
use Rattle.plank_base.specs.declared.operations.Op.{Op}
use Rattle.plank_base.specs.declared.operations.Op.TheVariants.{Contains, Insert, Delete}
use Rattle.plank_base.specs.declared.keys.ThreadId.{ThreadId}
use Rattle.plank_prog.specs.declared.headers.Header.{Header}
use Rattle.plank_prog.specs.declared.methods.Method.{Method}
use Rattle.plank_prog.specs.Methods.{operation}
use Rattle.plank_heap.specs.declared.heaps.Heap.{Heap}
use Rattle.plank_heap.specs.Walks.{contains}
use Rattle.plank_hist.specs.declared.events.Event.{Event}
use Rattle.plank_hist.specs.declared.events.Event.TheVariants.{Invoke as invocation, Respond as response}
use Rattle.plank_hist.specs.Sets.{present_after}
use Rattle.plank_sem.specs.declared.calls.Call.{Call}
use Rattle.plank_sem.specs.declared.steps.Act.{Act}
use Rattle.plank_sem.specs.declared.steps.Act.TheVariants.{Invoke, Go}
use Rattle.plank_sem.specs.declared.steps.Choice.{Choice}
use Rattle.plank_sem.specs.Worlds.{Calls, fresh_call}
use Rattle.plank_sem.specs.Runs.{history, moment_of}
use Rattle.plank_sem.specs.Kept.{updated, differs, GhostWorld}
use Rattle.plank_sem.specs.Steps.{op_of}
use Rattle.plank_sem.specs.CallMoments.{begun_since, last_begun}
use Rattle.plank_sem.proofs.CallMaps.{found_after_insert, found_after_remove}
use Rattle.plank_sem.proofs.CallMoments.{begun_since-other, begun_since-go, begun_since-begun}
use Rattle.plank_sem.proofs.StepCases.{SameCall}
use Rattle.plank_sem.proofs.Updates.{updated-at, updated-elsewhere}
use Rattle.plank_account.specs.Accounts.{PendingCall, pending_of, MayTurn, IsJustified, WasSo, Account, rests, changes, invokes, responds}
use Rattle.plank_account.specs.Justified.{MayTurnKey}
use Rattle.plank_account.proofs.PendingCalls.{pending_within, moment_of-earlier, moment_of-last}

-- ---- what is kept along a run

-- the set that a heap holds
abbrev pub keys_of : Header → Heap → ℤ → Bool
keys_of h heap = λ key. contains h heap key

-- the thread's pending call stands in the history, with its operation and its key, and the moment of its invocation is so
-- many steps ago as the choices say
pub record IsTold (choices : List Choice) (told : List (Option Event)) (thread : ℕ) (op : Op) (key : ℤ) : Type 0 where
  pub place : ℕ
  pub pending : pending_of thread told ≡ Some (record { place = place; op = op; key = key })
  pub age : ℕ
  pub begun : last_begun thread choices ≡ Some age
  pub since : moment_of told place + age ≡ length told

-- by the choices, what the steps told, the sets at all moments, the pending calls, and by thread whether its call has
-- changed the set
pub record Accounted (methods : List Method) (choices : List Choice) (told : List (Option Event)) (states : List (ℤ → Bool)) (calls : Calls) (has_changed : ℕ → Bool) : Type 0 where
  pub changed : ℕ → Bool
  pub account : Account told changed states
  pub tells : (thread : ℕ) (call : Call) (op : Op) → get calls thread ≡ Some call → op_of methods call ≡ Some op → IsTold choices told thread op call.key
  pub same : (thread : ℕ) (call : Call) (op : Op) → get calls thread ≡ Some call → op_of methods call ≡ Some op → changed thread ≡ has_changed thread

-- the moment of a place of the history stays
moment_stays : (told : List (Option Event)) (event : Option Event) (place : ℕ) → place < length (history told) → moment_of (event ∷ told) place ≡ moment_of told place
moment_stays told None place below = refl
moment_stays told (Some event) place below = moment_of-earlier told event place below

-- a pending call is one step older
told_older : (choices : List Choice) (told : List (Option Event)) (choice : Choice) (event : Option Event) (u : ℕ) (op : Op) (key : ℤ) → begun_since u choice (last_begun u choices) ≡ option_map (λ n. suc n) (last_begun u choices) → pending_of u (event ∷ told) ≡ pending_of u told
    → IsTold choices told u op key → IsTold (choice ∷ choices) (event ∷ told) u op key
told_older choices told choice event u op key step same is_told = record {
  place = is_told.place;
  pending = same ∙ is_told.pending;
  age = suc is_told.age;
  begun = step ∙ ap (λ o. option_map (λ n. suc n) o) is_told.begun;
  since = let stays = moment_stays told event is_told.place (pending_within u told _ is_told.pending) in let since = is_told.since in omega (arith, stays);
}

-- ---- tests

pub same_from_beq : (a b : Bool) → beq a b ≡ true → a ≡ b
same_from_beq true true e = refl
same_from_beq true false e = absurd (cc)
same_from_beq false true e = absurd (cc)
same_from_beq false false e = refl

beq-false : (a b : Bool) → beq a b ≡ false → b ≡ not a
beq-false true true e = absurd (cc)
beq-false true false e = refl
beq-false false true e = refl
beq-false false false e = absurd (cc)

-- where a call turns its key, the key is as the operation leaves it
turned : (op : Op) (before after : Bool) → MayTurn op before → after ≡ not before → after ≡ present_after op before
turned Contains before after may e = absurd may
turned Insert before after may e = e ∙ ap not may
turned Delete before after may e = e ∙ ap not may

pub justified_more : (V W : Bool → Type 0) (b c : Bool) (op : Op) (answer : Bool) → ((present : Bool) → V present → W present) → b ≡ c → IsJustified V b op answer → IsJustified W c op answer
justified_more V W b c Contains answer weaker same was = weaker answer was
justified_more V W b c Insert true weaker same is = sym same ∙ is
justified_more V W b c Insert false weaker same is = (sym same ∙ is.0, weaker true is.1)
justified_more V W b c Delete true weaker same is = sym same ∙ is
justified_more V W b c Delete false weaker same is = (sym same ∙ is.0, weaker false is.1)

-- ---- one step more

module _ (h : Header) (methods : List Method) (choices : List Choice) (told : List (Option Event)) (before : GhostWorld) (states : List (ℤ → Bool)) (accounted : Accounted methods choices told (keys_of h before.world.heap ∷ states) before.world.calls before.kept.has_changed) (thread : ThreadId) (act : Act) where
  -- a call begins, whose method has an operation
  begun_accounted : (m : ℕ) (key : ℤ) (op : Op) → act ≡ Invoke m key → op_of methods (fresh_call m key) ≡ Some op
      → Accounted methods (record { thread = thread; act = act } ∷ choices) (Some (invocation thread op key) ∷ told) (keys_of h before.world.heap ∷ keys_of h before.world.heap ∷ states) (insert before.world.calls thread.0 (fresh_call m key)) (updated before.kept.has_changed thread.0 false)
  begun_accounted m key op begins performs = record {
    changed = updated accounted.changed thread.0 false;
    account = invokes accounted.account thread op key;
    tells = λ u call o at is.
        let fresh : PendingCall = record { place = length (history told); op = op; key = key } in
        elim (found_after_insert before.world.calls thread.0 (fresh_call m key) u call at) [
          | inl new ↦ (let same : op ≡ o = same_Some op o (sym performs ∙ ap (λ (c : Call). op_of methods c) new.1 ∙ is) in
              subst (λ q. IsTold (record { thread = thread; act = act } ∷ choices) (Some (invocation thread op key) ∷ told) u q call.key) same
              (subst (λ (c : Call). IsTold (record { thread = thread; act = act } ∷ choices) (Some (invocation thread op key) ∷ told) u op c.key) new.1
              (record {
                place = length (history told);
                pending = ap (λ b. cond b (Some fresh) (pending_of u told)) (eq-eqb thread.0 u (sym new.0));
                age = 0;
                begun = begun_since-begun u (record { thread = thread; act = act }) (last_begun u choices) m key begins new.0;
                since = let last = moment_of-last told (invocation thread op key) (length (history told)) refl in omega (arith, last);
              })))
          | inr old ↦ told_older choices told (record { thread = thread; act = act }) (Some (invocation thread op key)) u o call.key
              (begun_since-other u (record { thread = thread; act = act }) (last_begun u choices) old.0)
              (ap (λ b. cond b (Some fresh) (pending_of u told)) (ne_eqb thread.0 u (λ same. old.0 (sym same)))) (accounted.tells u call o old.1 is)
        ];
    same = λ u call o at is.
        elim (found_after_insert before.world.calls thread.0 (fresh_call m key) u call at) [
          | inl new ↦ updated-at accounted.changed thread.0 false u new.0 ∙ sym (updated-at before.kept.has_changed thread.0 false u new.0)
          | inr old ↦ updated-elsewhere accounted.changed thread.0 false u old.0 ∙ accounted.same u call o old.1 is ∙ sym (updated-elsewhere before.kept.has_changed thread.0 false u old.0)
        ];
  }

  -- a call begins, whose method has none
  begun_silently : (m : ℕ) (key : ℤ) → op_of methods (fresh_call m key) ≡ None
      → Accounted methods (record { thread = thread; act = act } ∷ choices) (None ∷ told) (keys_of h before.world.heap ∷ keys_of h before.world.heap ∷ states) (insert before.world.calls thread.0 (fresh_call m key)) (updated before.kept.has_changed thread.0 false)
  begun_silently m key none = record {
    changed = accounted.changed;
    account = rests accounted.account;
    tells = λ u call op at is.
        elim (found_after_insert before.world.calls thread.0 (fresh_call m key) u call at) [
          | inl new ↦ absurd (none-some op (sym none ∙ ap (λ (c : Call). op_of methods c) new.1 ∙ is))
          | inr old ↦ told_older choices told (record { thread = thread; act = act }) None u op call.key
              (begun_since-other u (record { thread = thread; act = act }) (last_begun u choices) old.0) refl (accounted.tells u call op old.1 is)
        ];
    same = λ u call op at is.
        elim (found_after_insert before.world.calls thread.0 (fresh_call m key) u call at) [
          | inl new ↦ absurd (none-some op (sym none ∙ ap (λ (c : Call). op_of methods c) new.1 ∙ is))
          | inr old ↦ accounted.same u call op old.1 is ∙ sym (updated-elsewhere before.kept.has_changed thread.0 false u old.0)
        ];
  }

  -- what a beginning call tells, by its operation
  pub begun_told : (m : ℕ) (key : ℤ) (found : Option Op) → act ≡ Invoke m key → op_of methods (fresh_call m key) ≡ found
      → Accounted methods (record { thread = thread; act = act } ∷ choices) (option_map (λ op. invocation thread op key) found ∷ told) (keys_of h before.world.heap ∷ keys_of h before.world.heap ∷ states) (insert before.world.calls thread.0 (fresh_call m key)) (updated before.kept.has_changed thread.0 false)
  begun_told m key None begins performs = begun_silently m key performs
  begun_told m key (Some op) begins performs = begun_accounted m key op begins performs

  module _ (goes : act ≡ Go) (call : Call) (pending : get before.world.calls thread.0 ≡ Some call) where
    goes_older : (u : ℕ) (op : Op) (key : ℤ) → IsTold choices told u op key → IsTold (record { thread = thread; act = act } ∷ choices) (None ∷ told) u op key
    goes_older u op key is_told =
        told_older choices told (record { thread = thread; act = act }) None u op key (begun_since-go u (record { thread = thread; act = act }) (last_begun u choices) goes) refl is_told

    -- the calls that are pending after a step of this one were told
    goes_told : (later : Call) → SameCall call later → (u : ℕ) (found : Call) (op : Op) → get (insert before.world.calls thread.0 later) u ≡ Some found → op_of methods found ≡ Some op → IsTold (record { thread = thread; act = act } ∷ choices) (None ∷ told) u op found.key
    goes_told later alike u found op at is =
        elim (found_after_insert before.world.calls thread.0 later u found at) [
          | inl new ↦ (let performs : op_of methods call ≡ Some op = sym (ap (λ k. option_and_then (λ (n : Method). operation n.kind) (slice_get methods k)) alike.method) ∙ ap (λ (c : Call). op_of methods c) new.1 ∙ is in
              let key : call.key ≡ found.key = sym alike.key ∙ ap (λ (c : Call). c.key) new.1 in
              goes_older u op found.key (subst (λ k. IsTold choices told u op k) key (subst (λ t. IsTold choices told t op call.key) (sym new.0) (accounted.tells thread.0 call op pending performs))))
          | inr old ↦ goes_older u op found.key (accounted.tells u found op old.1 is)
        ]

    -- whether the calls that are pending afterwards have changed the set
    goes_same : (changed : ℕ → Bool) (value : Bool) (later : Call) → SameCall call later → ((op : Op) → op_of methods call ≡ Some op → changed thread.0 ≡ value) → ((u : ℕ) → (u ≡ thread.0 → ⊥) → changed u ≡ accounted.changed u)
        → (u : ℕ) (found : Call) (op : Op) → get (insert before.world.calls thread.0 later) u ≡ Some found → op_of methods found ≡ Some op → changed u ≡ updated before.kept.has_changed thread.0 value u
    goes_same changed value later alike here elsewhere u found op at is =
        elim (found_after_insert before.world.calls thread.0 later u found at) [
          | inl new ↦ (let performs : op_of methods call ≡ Some op = sym (ap (λ k. option_and_then (λ (n : Method). operation n.kind) (slice_get methods k)) alike.method) ∙ ap (λ (c : Call). op_of methods c) new.1 ∙ is in
              ap changed new.0 ∙ here op performs ∙ sym (updated-at before.kept.has_changed thread.0 value u new.0))
          | inr old ↦ elsewhere u old.0 ∙ accounted.same u found op old.1 is ∙ sym (updated-elsewhere before.kept.has_changed thread.0 value u old.0)
        ]

    module _ (heap : Heap) (turns : (key : ℤ) → differs h before.world.heap heap key ≡ true → MayTurnKey h methods before thread.0 key) where
      -- no key but the call's own is turned
      others_stay : (key : ℤ) → (key ≡ call.key → ⊥) → contains h heap key ≡ contains h before.world.heap key
      others_stay key other = go (differs h before.world.heap heap key) refl
        where
          go : (b : Bool) → differs h before.world.heap heap key ≡ b → contains h heap key ≡ contains h before.world.heap key
          go true e =
              let reason = turns key e in
              absurd (other (reason.own ∙ ap (λ (c : Call). c.key) (same_Some reason.call call (sym reason.pending ∙ pending))))
          go false e = sym (same_from_beq (contains h before.world.heap key) (contains h heap key) (not-false (beq (contains h before.world.heap key) (contains h heap key)) e))

      none_turned : differs h before.world.heap heap call.key ≡ false → (key : ℤ) → contains h heap key ≡ contains h before.world.heap key
      none_turned same key = go (differs h before.world.heap heap key) refl
        where
          go : (b : Bool) → differs h before.world.heap heap key ≡ b → contains h heap key ≡ contains h before.world.heap key
          go true e =
              let reason = turns key e in
              let own : key ≡ call.key = reason.own ∙ ap (λ (c : Call). c.key) (same_Some reason.call call (sym reason.pending ∙ pending)) in
              absurd (both_ways (differs h before.world.heap heap call.key) same (subst (λ k. differs h before.world.heap heap k ≡ true) own e))
          go false e = sym (same_from_beq (contains h before.world.heap key) (contains h heap key) (not-false (beq (contains h before.world.heap key) (contains h heap key)) e))

      -- a call goes on, and may change the set
      pub goes_accounted : (later : Call) → SameCall call later
          → Accounted methods (record { thread = thread; act = act } ∷ choices) (None ∷ told) (keys_of h heap ∷ keys_of h before.world.heap ∷ states) (insert before.world.calls thread.0 later) (updated before.kept.has_changed thread.0 (before.kept.has_changed thread.0 || differs h before.world.heap heap call.key))
      goes_accounted later alike = go (differs h before.world.heap heap call.key) refl
        where
          go : (b : Bool) → differs h before.world.heap heap call.key ≡ b
              → Accounted methods (record { thread = thread; act = act } ∷ choices) (None ∷ told) (keys_of h heap ∷ keys_of h before.world.heap ∷ states) (insert before.world.calls thread.0 later) (updated before.kept.has_changed thread.0 (before.kept.has_changed thread.0 || b))
          go true e =
              let reason = turns call.key e in
              let here : reason.call ≡ call = same_Some reason.call call (sym reason.pending ∙ pending) in
              let performs : op_of methods call ≡ Some reason.op = sym (ap (λ (c : Call). op_of methods c) here) ∙ reason.performs in
              let there = accounted.tells thread.0 call reason.op pending performs in
              let is_told : PendingCall = record { place = there.place; op = reason.op; key = call.key } in
              record {
                changed = updated accounted.changed thread.0 true;
                account = changes accounted.account thread.0 is_told (keys_of h heap) there.pending (accounted.same thread.0 call reason.op pending performs ∙ reason.first) (record {
                  allowed = reason.allowed;
                  own = turned reason.op (contains h before.world.heap call.key) (contains h heap call.key) reason.allowed
                      (beq-false (contains h before.world.heap call.key) (contains h heap call.key) (not-true (beq (contains h before.world.heap call.key) (contains h heap call.key)) e));
                  others = others_stay;
                });
                tells = goes_told later alike;
                same = goes_same (updated accounted.changed thread.0 true) (before.kept.has_changed thread.0 || true) later alike
                    (λ op is. updated-at accounted.changed thread.0 true thread.0 refl ∙ sym (or-true (before.kept.has_changed thread.0)))
                    (λ u differ. updated-elsewhere accounted.changed thread.0 true u differ);
              }
          go false e = record {
            changed = accounted.changed;
            account = subst (λ (s : ℤ → Bool). Account (None ∷ told) accounted.changed (s ∷ keys_of h before.world.heap ∷ states)) (sym (fun_ext (none_turned e))) (rests accounted.account);
            tells = goes_told later alike;
            same = goes_same accounted.changed (before.kept.has_changed thread.0 || false) later alike
                (λ op is. accounted.same thread.0 call op pending is ∙ sym (or-false (before.kept.has_changed thread.0))) (λ u differ. refl);
          }

    -- a call ends
    ended_accounted : (answer : Bool) (op : Op) (value : Bool) → op_of methods call ≡ Some op
        → ((is_told : IsTold choices told thread.0 op call.key) → IsJustified (WasSo told (keys_of h before.world.heap ∷ states) (record { place = is_told.place; op = op; key = call.key })) (before.kept.has_changed thread.0) op answer)
        → Accounted methods (record { thread = thread; act = act } ∷ choices) (Some (response thread answer) ∷ told) (keys_of h before.world.heap ∷ keys_of h before.world.heap ∷ states) (remove before.world.calls thread.0) (updated before.kept.has_changed thread.0 value)
    ended_accounted answer op value performs justified =
        let there = accounted.tells thread.0 call op pending performs in
        let is_told : PendingCall = record { place = there.place; op = op; key = call.key } in
        record {
          changed = accounted.changed;
          account = responds accounted.account thread answer is_told there.pending
              (justified_more (WasSo told (keys_of h before.world.heap ∷ states) is_told) (WasSo told (keys_of h before.world.heap ∷ states) is_told) (before.kept.has_changed thread.0) (accounted.changed thread.0) op answer
              (λ present was. was) (sym (accounted.same thread.0 call op pending performs)) (justified there));
          tells = λ u found o at is.
              let old = found_after_remove before.world.calls thread.0 u found at in
              told_older choices told (record { thread = thread; act = act }) (Some (response thread answer)) u o found.key
              (begun_since-other u (record { thread = thread; act = act }) (last_begun u choices) old.0)
              (ap (λ b. cond b None (pending_of u told)) (ne_eqb thread.0 u (λ same. old.0 (sym same)))) (accounted.tells u found o old.1 is);
          same = λ u found o at is.
              let old = found_after_remove before.world.calls thread.0 u found at in
              accounted.same u found o old.1 is ∙ sym (updated-elsewhere before.kept.has_changed thread.0 value u old.0);
        }

    -- a call ends that tells nothing
    ended_silently : (value : Bool)
        → Accounted methods (record { thread = thread; act = act } ∷ choices) (None ∷ told) (keys_of h before.world.heap ∷ keys_of h before.world.heap ∷ states) (remove before.world.calls thread.0) (updated before.kept.has_changed thread.0 value)
    ended_silently value = record {
      changed = accounted.changed;
      account = rests accounted.account;
      tells = λ u call op at is. goes_older u op call.key (accounted.tells u call op (found_after_remove before.world.calls thread.0 u call at).1 is);
      same = λ u call op at is.
          let old = found_after_remove before.world.calls thread.0 u call at in
          accounted.same u call op old.1 is ∙ sym (updated-elsewhere before.kept.has_changed thread.0 value u old.0);
    }

    -- what an ending call tells, by its operation
    pub ended_told : (answer : Bool) (value : Bool) (found : Option Op) → op_of methods call ≡ found
        → ((op : Op) → found ≡ Some op → (is_told : IsTold choices told thread.0 op call.key) → IsJustified (WasSo told (keys_of h before.world.heap ∷ states) (record { place = is_told.place; op = op; key = call.key })) (before.kept.has_changed thread.0) op answer)
        → Accounted methods (record { thread = thread; act = act } ∷ choices) (option_map (λ op. response thread answer) found ∷ told) (keys_of h before.world.heap ∷ keys_of h before.world.heap ∷ states) (remove before.world.calls thread.0) (updated before.kept.has_changed thread.0 value)
    ended_told answer value None performs justified = ended_silently value
    ended_told answer value (Some op) performs justified = ended_accounted answer op value performs (λ is_told. justified op refl is_told)
