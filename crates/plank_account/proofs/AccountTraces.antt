-- The trace of an account: a call that changes the set is its changer at that moment, with the answer true, and an answered
-- call that changed nothing observes at a moment that its reason names.
use Rattle.std.proofs.Common.{◌≡◌, ℕ, suc, ◌-◌, ◌≤◌, Bool, true, false, cond, eqb, ℤ, List, [], ◌∷◌, ◌++◌, length, Option, Some, None, refl, sym, ap, ◌∙◌, subst, ⊎_elim, ◌⊎◌, inl, inr, arith, append_assoc, append-nil}
use Rattle.std.specs.Prelude.{not, option_to_list}
use Rattle.std.specs.Bool.{beq}
use Rattle.std.specs.Ordering.{int_eq}
use Rattle.std.proofs.Math.Path.{fun_ext}
use Rattle.std.proofs.lemmas.Bool.{eq-eqb, ne_eqb, cases_eq}
use Rattle.std.proofs.lemmas.Bool.Decides.{Decides-int_eq}
use Rattle.std.proofs.lemmas.Option.{none-some, same_Some}
use Rattle.plank_base.specs.declared.operations.Op.{Op}
use Rattle.plank_base.specs.declared.operations.Op.TheVariants.{Contains, Insert, Delete}
use Rattle.plank_base.specs.declared.keys.ThreadId.{ThreadId}
use Rattle.plank_hist.specs.declared.events.Event.{Event}
use Rattle.plank_hist.specs.declared.events.Event.TheVariants.{Invoke, Respond}
use Rattle.plank_hist.specs.Sets.{answer_of, present_after, set_of_keys}
use Rattle.plank_hist.specs.Histories.{history_of}
use Rattle.plank_hist.specs.Traces.{Trace, Explains}
use Rattle.plank_hist.proofs.SetSteps.{set_kept}
use Rattle.plank_sem.specs.Runs.{history, moment_of}
use Rattle.plank_sem.specs.Kept.{updated}
use Rattle.plank_sem.proofs.Moments.{moment_within, moments_rise}
use Rattle.plank_sem.proofs.Updates.{updated-at, updated-elsewhere}
use Rattle.plank_account.specs.Accounts.{PendingCall, pending_of, MayTurn, Turns, IsJustified, WasSo, Account, starts, rests, changes, invokes, responds}
use Rattle.plank_account.proofs.PendingCalls.{length-happened}
use Rattle.plank_account.proofs.Listings.{SetCall, listing_of, Adds, Covers, covers_nothing, covers_rest, covers_same, covers_begin, covers_end, covers_list, begins_cases, ends_cases}
use Rattle.plank_account.proofs.SetStates.{state_at, state_at-ago, Takes, Shows, shows_start, shows_step, shows_observed}

-- ---- what reasons say

-- the call looked: what it found allows its answer and is left as it is, and it changed nothing
pub record Looked (WasSo : Bool → Type 0) (has_changed : Bool) (op : Op) (answer : Bool) : Type 0 where
  pub present : Bool
  pub was : WasSo present
  pub allowed : beq answer (answer_of op present) ≡ true
  pub leaves : present_after op present ≡ present
  pub idle : (op ≡ Contains) ⊎ (has_changed ≡ false)

-- or it changed the set and answers true
abbrev pub Reason : (Bool → Type 0) → Bool → Op → Bool → Type 0
Reason WasSo has_changed op answer = ((has_changed ≡ true) × (answer ≡ true)) ⊎ Looked WasSo has_changed op answer

beq-same : (answer : Bool) → beq answer answer ≡ true
beq-same true = refl
beq-same false = refl

pub reason_of : (WasSo : Bool → Type 0) (has_changed : Bool) (op : Op) (answer : Bool) → IsJustified WasSo has_changed op answer → Reason WasSo has_changed op answer
reason_of WasSo has_changed Contains answer was = inr (record { present = answer; was = was; allowed = beq-same answer; leaves = refl; idle = inl refl })
reason_of WasSo has_changed Insert true is = inl (is, refl)
reason_of WasSo has_changed Insert false is = inr (record { present = true; was = is.1; allowed = refl; leaves = refl; idle = inr is.0 })
reason_of WasSo has_changed Delete true is = inl (is, refl)
reason_of WasSo has_changed Delete false is = inr (record { present = false; was = is.1; allowed = refl; leaves = refl; idle = inr is.0 })

turn_allowed : (op : Op) (present : Bool) → MayTurn op present → beq true (answer_of op present) ≡ true
turn_allowed Contains present may = absurd may
turn_allowed Insert present may = ap (λ b. beq true (not b)) may
turn_allowed Delete present may = ap (λ b. beq true b) may

turn_takes : (call : PendingCall) (before after : ℤ → Bool) → Turns call.op call.key before after → Takes before (listing_of call true) after
turn_takes call before after turns = record {
  allowed = turn_allowed call.op (before call.key) turns.allowed;
  leaves = fun_ext (λ key. each key (int_eq key call.key) refl);
}
  where
    each : (key : ℤ) (b : Bool) → int_eq key call.key ≡ b → after key ≡ cond b (present_after call.op (before key)) (before key)
    each key true e =
        let at : key ≡ call.key = (Decides-int_eq key call.key).0 e in
        subst (λ k. after k ≡ present_after call.op (before k)) (sym at) turns.own
    each key false e = turns.others key (λ same. let yes_too : int_eq key call.key ≡ true = (Decides-int_eq key call.key).1 same in absurd (cc))

look_takes : (call : PendingCall) (answer : Bool) (holds : ℤ → Bool) (present : Bool) → holds call.key ≡ present → beq answer (answer_of call.op present) ≡ true → present_after call.op present ≡ present
    → Takes holds (listing_of call answer) holds
look_takes call answer holds present was allowed leaves = record {
  allowed = subst (λ b. beq answer (answer_of call.op b) ≡ true) (sym was) allowed;
  leaves = sym (set_kept holds (call.op, call.key) (subst (λ b. present_after call.op b ≡ b) (sym was) leaves));
}

-- ---- the moment at which a call looked

-- a moment of a call: not before its invocation, not after the last, and its key was as it says
record IsLook (told : List (Option Event)) (states : List (ℤ → Bool)) (call : PendingCall) (moment : ℕ) (present : Bool) : Type 0 where
  pub since : moment_of told call.place ≤ moment
  pub so_far : moment ≤ length told
  pub was : state_at states moment call.key ≡ present

look_at : (told : List (Option Event)) (states : List (ℤ → Bool)) (call : PendingCall) (present : Bool) → length states ≡ suc (length told)
    → (was : WasSo told states call present) → IsLook told states call (length told - was.ago) present
look_at told states call present size was =
    let since = was.since in
    record {
      since = omega arith;
      so_far = omega arith;
      was = ap (λ (holds : ℤ → Bool). holds call.key) (state_at-ago states was.ago (length told - was.ago) was.moment was.at (omega arith)) ∙ was.was;
    }

-- the observers with one more, where the call looked
abbrev observing : (told : List (Option Event)) (states : List (ℤ → Bool)) (call : PendingCall) (answer has_changed : Bool) → Reason (WasSo told states call) has_changed call.op answer → (ℕ → List SetCall) → ℕ → List SetCall
observing told states call answer has_changed (inl changed) before m = before m
observing told states call answer has_changed (inr looked) before m = before m ++ cond (eqb m (length told - looked.was.ago)) (listing_of call answer ∷ []) []

-- the changers with one more, of the moment after these steps
abbrev changing : List (Option Event) → PendingCall → (ℕ → Option SetCall) → ℕ → Option SetCall
changing told call before m = cond (eqb m (suc (length told))) (Some (listing_of call true)) (before m)

-- ---- what is kept along an account

-- the answers with which pending calls are listed: those that have changed the set, with true
abbrev pub kept_answers : (ℕ → Bool) → ℕ → Option Bool
kept_answers changed thread = cond (changed thread) (Some true) None

abbrev pub calls_of : (ℕ → Option SetCall) → (ℕ → List SetCall) → ℕ → List SetCall
calls_of changer observers m = option_to_list (changer m) ++ observers m

pub record Explained (told : List (Option Event)) (changed : ℕ → Bool) (states : List (ℤ → Bool)) (changer : ℕ → Option SetCall) (observers : ℕ → List SetCall) : Type 0 where
  pub covers : Covers told (kept_answers changed) (calls_of changer observers)
  pub shows : Shows (length told) states changer observers
  -- a call of contains changes nothing
  pub idle : (thread : ℕ) (call : PendingCall) → pending_of thread told ≡ Some call → call.op ≡ Contains → changed thread ≡ false

kept_updated : (changed : ℕ → Bool) (thread : ℕ) (value : Bool) (u : ℕ) → kept_answers (updated changed thread value) u ≡ updated (kept_answers changed) thread (cond value (Some true) None) u
kept_updated changed thread value u =
    elim (cases_eq u thread) [
      | inl same ↦ ap (λ b. cond b (Some true) None) (updated-at changed thread value u same) ∙ sym (updated-at (kept_answers changed) thread (cond value (Some true) None) u same)
      | inr differ ↦ ap (λ b. cond b (Some true) None) (updated-elsewhere changed thread value u differ) ∙ sym (updated-elsewhere (kept_answers changed) thread (cond value (Some true) None) u differ)
    ]

explained_start : (changed : ℕ → Bool) → Explained [] changed ((λ key. false) ∷ []) (λ m. None) (λ m. [])
explained_start changed = record {
  covers = covers_nothing (kept_answers changed) (λ m. []) (λ m. refl);
  shows = shows_start (λ m. None) (λ m. []) (λ m. refl) (λ m. refl);
  idle = λ thread call pending is. absurd (none-some call pending);
}

module _ (told : List (Option Event)) (changed : ℕ → Bool) (before : ℤ → Bool) (states : List (ℤ → Bool)) (changer : ℕ → Option SetCall) (observers : ℕ → List SetCall) where
  -- a step that changes nothing
  shows_rest : (more : ℕ → List SetCall) → Shows (length told) (before ∷ states) changer more → Shows (suc (length told)) (before ∷ before ∷ states) changer more
  shows_rest more shows =
      shows_step (length told) before states changer more shows before changer (λ m le. refl) (λ m lt. shows.no_changer m (omega arith)) (λ e. refl)
      (λ c e. absurd (none-some c (sym (shows.no_changer (suc (length told)) (omega arith)) ∙ e)))

  module _ (explained : Explained told changed (before ∷ states) changer observers) where
    explained_rest : Explained (None ∷ told) changed (before ∷ before ∷ states) changer observers
    explained_rest = record {
      covers = covers_rest told (kept_answers changed) (calls_of changer observers) explained.covers;
      shows = shows_rest observers explained.shows;
      idle = explained.idle;
    }

    explained_begin : (thread : ThreadId) (op : Op) (key : ℤ) → Explained (Some (Invoke thread op key) ∷ told) (updated changed thread.0 false) (before ∷ before ∷ states) changer observers
    explained_begin thread op key = record {
      covers = covers_same (Some (Invoke thread op key) ∷ told) (updated (kept_answers changed) thread.0 None) (calls_of changer observers)
          (covers_begin told (kept_answers changed) (calls_of changer observers) explained.covers thread op key)
          (kept_answers (updated changed thread.0 false)) (λ u call pending. kept_updated changed thread.0 false u);
      shows = shows_rest observers explained.shows;
      idle = λ u call pending is.
          elim (begins_cases told (kept_answers changed) (calls_of changer observers) explained.covers thread op key u call pending) [
            | inl new ↦ updated-at changed thread.0 false u new.0
            | inr old ↦ updated-elsewhere changed thread.0 false u old.0 ∙ explained.idle u call old.1 is
          ];
    }

    changing_here : (call : PendingCall) (m : ℕ) → m ≡ suc (length told) → changing told call changer m ≡ Some (listing_of call true)
    changing_here call m same = ap (λ b. cond b (Some (listing_of call true)) (changer m)) (eq-eqb m (suc (length told)) same)

    changing_elsewhere : (call : PendingCall) (m : ℕ) → (m ≡ suc (length told) → ⊥) → changing told call changer m ≡ changer m
    changing_elsewhere call m differ = ap (λ b. cond b (Some (listing_of call true)) (changer m)) (ne_eqb m (suc (length told)) differ)

    changing_adds : (call : PendingCall) → Adds (calls_of changer observers) (calls_of (changing told call changer) observers) (suc (length told)) (listing_of call true)
    changing_adds call =
        let nobody : observers (suc (length told)) ≡ [] = explained.shows.no_observer (suc (length told)) (omega arith) in
        let none : changer (suc (length told)) ≡ None = explained.shows.no_changer (suc (length told)) (omega arith) in
        record {
          here = ap (λ o. option_to_list o ++ observers (suc (length told))) (changing_here call (suc (length told)) refl) ∙ ap (λ cs. listing_of call true ∷ cs) nobody
              ∙ sym (ap (λ o. (option_to_list o ++ observers (suc (length told))) ++ listing_of call true ∷ []) none ∙ ap (λ cs. cs ++ listing_of call true ∷ []) nobody);
          elsewhere = λ m differ. ap (λ o. option_to_list o ++ observers m) (changing_elsewhere call m differ);
        }

    -- a call changes the set
    explained_change : (thread : ℕ) (call : PendingCall) (after : ℤ → Bool) → pending_of thread told ≡ Some call → changed thread ≡ false → Turns call.op call.key before after
        → Explained (None ∷ told) (updated changed thread true) (after ∷ before ∷ states) (changing told call changer) observers
    explained_change thread call after pending free turns = record {
      covers = covers_same (None ∷ told) (updated (kept_answers changed) thread (Some true)) (calls_of (changing told call changer) observers)
          (covers_list (None ∷ told) (kept_answers changed) (calls_of changer observers) (covers_rest told (kept_answers changed) (calls_of changer observers) explained.covers)
          thread call true (suc (length told)) (calls_of (changing told call changer) observers) pending (ap (λ b. cond b (Some true) None) free)
          (let within = moment_within told call.place in omega arith) (omega arith) (changing_adds call))
          (kept_answers (updated changed thread true)) (λ u other is. kept_updated changed thread true u);
      shows = shows_step (length told) before states changer observers explained.shows after (changing told call changer)
          (λ m le. changing_elsewhere call m (λ same. absurd (omega arith)))
          (λ m lt. changing_elsewhere call m (λ same. absurd (omega arith)) ∙ explained.shows.no_changer m (omega arith))
          (λ e. absurd (none-some (listing_of call true) (sym e ∙ changing_here call (suc (length told)) refl)))
          (λ c e. subst (λ (d : SetCall). Takes before d after) (same_Some (listing_of call true) c (sym (changing_here call (suc (length told)) refl) ∙ e)) (turn_takes call before after turns));
      idle = λ u other is contains.
          elim (cases_eq u thread) [
            | inl same ↦ (let here : other ≡ call = same_Some other call (sym is ∙ ap (λ t. pending_of t told) same ∙ pending) in
                absurd (subst (λ op. MayTurn op (before call.key)) (sym (ap (λ (c : PendingCall). c.op) here) ∙ contains) turns.allowed))
            | inr differ ↦ updated-elsewhere changed thread true u differ ∙ explained.idle u other is contains
          ];
    }

    -- after an answer no call of the thread is pending
    idle_more : (thread : ThreadId) (answer : Bool) (u : ℕ) (call : PendingCall) → pending_of u (Some (Respond thread answer) ∷ told) ≡ Some call → call.op ≡ Contains → changed u ≡ false
    idle_more thread answer u call is contains =
        explained.idle u call (ends_cases told (kept_answers changed) (calls_of changer observers) explained.covers thread answer u call is).1 contains

    looking_adds : (call : PendingCall) (answer : Bool) (moment : ℕ) → Adds observers (λ m. observers m ++ cond (eqb m moment) (listing_of call answer ∷ []) []) moment (listing_of call answer)
    looking_adds call answer moment = record {
      here = ap (λ b. observers moment ++ cond b (listing_of call answer ∷ []) []) (eq-eqb moment moment refl);
      elsewhere = λ m differ. ap (λ b. observers m ++ cond b (listing_of call answer ∷ []) []) (ne_eqb m moment differ) ∙ append-nil (observers m);
    }

    calls_add : (more : ℕ → List SetCall) (moment : ℕ) (call : SetCall) → Adds observers more moment call → Adds (calls_of changer observers) (calls_of changer more) moment call
    calls_add more moment call adds = record {
      here = ap (λ cs. option_to_list (changer moment) ++ cs) adds.here ∙ sym (append_assoc (option_to_list (changer moment)) (observers moment) (call ∷ []));
      elsewhere = λ m differ. ap (λ cs. option_to_list (changer m) ++ cs) (adds.elsewhere m differ);
    }

    -- a call ends that had looked at a moment of it
    explained_look : (thread : ThreadId) (answer : Bool) (call : PendingCall) (present : Bool) (moment : ℕ) (more : ℕ → List SetCall) → pending_of thread.0 told ≡ Some call → changed thread.0 ≡ false
        → beq answer (answer_of call.op present) ≡ true → present_after call.op present ≡ present → IsLook told (before ∷ states) call moment present → Adds observers more moment (listing_of call answer)
        → Explained (Some (Respond thread answer) ∷ told) changed (before ∷ before ∷ states) changer more
    explained_look thread answer call present moment more pending free allowed leaves look adds =
        let listed = covers_list told (kept_answers changed) (calls_of changer observers) explained.covers thread.0 call answer moment (calls_of changer more) pending
        (ap (λ b. cond b (Some true) None) free) look.since look.so_far (calls_add more moment (listing_of call answer) adds) in
        let ended = covers_end told (updated (kept_answers changed) thread.0 (Some answer)) (calls_of changer more) listed thread answer call pending
        (updated-at (kept_answers changed) thread.0 (Some answer) thread.0 refl) in
        record {
          covers = covers_same (Some (Respond thread answer) ∷ told) (updated (kept_answers changed) thread.0 (Some answer)) (calls_of changer more) ended (kept_answers changed)
              (λ u other is. sym (updated-elsewhere (kept_answers changed) thread.0 (Some answer) u
              (ends_cases told (kept_answers changed) (calls_of changer observers) explained.covers thread answer u other is).0));
          shows = shows_rest more (shows_observed (length told) before states changer observers explained.shows moment (listing_of call answer) more look.so_far adds
              (look_takes call answer (state_at (before ∷ states) moment) present look.was allowed leaves));
          idle = idle_more thread answer;
        }

    explained_end : (thread : ThreadId) (answer : Bool) (call : PendingCall) → pending_of thread.0 told ≡ Some call → (reason : Reason (WasSo told (before ∷ states) call) (changed thread.0) call.op answer)
        → Explained (Some (Respond thread answer) ∷ told) changed (before ∷ before ∷ states) changer (observing told (before ∷ states) call answer (changed thread.0) reason observers)
    explained_end thread answer call pending (inl has_changed) = record {
      covers = covers_end told (kept_answers changed) (calls_of changer observers) explained.covers thread answer call pending
          (ap (λ b. cond b (Some true) None) has_changed.0 ∙ ap (λ b. Some b) (sym has_changed.1));
      shows = shows_rest observers explained.shows;
      idle = idle_more thread answer;
    }
    explained_end thread answer call pending (inr looked) =
        explained_look thread answer call looked.present (length told - looked.was.ago) (λ m. observers m ++ cond (eqb m (length told - looked.was.ago)) (listing_of call answer ∷ []) []) pending
        (⊎_elim (λ contains. explained.idle thread.0 call pending contains) (λ is. is) looked.idle)
        looked.allowed looked.leaves (look_at told (before ∷ states) call looked.present explained.shows.size looked.was)
        (looking_adds call answer (length told - looked.was.ago))

-- ---- the trace

abbrev changer : {told : List (Option Event)} {changed : ℕ → Bool} {states : List (ℤ → Bool)} → Account told changed states → ℕ → Option SetCall
changer (starts changed) m = None
changer (rests account) m = changer account m
changer (changes {told} account thread call after pending free turns) m = changing told call (changer account) m
changer (invokes account thread op key) m = changer account m
changer (responds account thread answer call pending justified) m = changer account m

abbrev observers : {told : List (Option Event)} {changed : ℕ → Bool} {states : List (ℤ → Bool)} → Account told changed states → ℕ → List SetCall
observers (starts changed) m = []
observers (rests account) m = observers account m
observers (changes account thread call after pending free turns) m = observers account m
observers (invokes account thread op key) m = observers account m
observers (responds {told} {changed} {before} {states} account thread answer call pending justified) m =
    observing told (before ∷ states) call answer (changed thread.0) (reason_of (WasSo told (before ∷ states) call) (changed thread.0) call.op answer justified) (observers account) m

account_explained : {told : List (Option Event)} {changed : ℕ → Bool} {states : List (ℤ → Bool)} (account : Account told changed states) → Explained told changed states (changer account) (observers account)
account_explained (starts changed) = explained_start changed
account_explained (rests {told} {changed} {before} {states} account) =
    explained_rest told changed before states (changer account) (observers account) (account_explained account)
account_explained (changes {told} {changed} {before} {states} account thread call after pending free turns) =
    explained_change told changed before states (changer account) (observers account) (account_explained account) thread call after pending free turns
account_explained (invokes {told} {changed} {before} {states} account thread op key) =
    explained_begin told changed before states (changer account) (observers account) (account_explained account) thread op key
account_explained (responds {told} {changed} {before} {states} account thread answer call pending justified) =
    explained_end told changed before states (changer account) (observers account) (account_explained account) thread answer call pending
    (reason_of (WasSo told (before ∷ states) call) (changed thread.0) call.op answer justified)

abbrev pub trace_of : {told : List (Option Event)} {changed : ℕ → Bool} {states : List (ℤ → Bool)} → Account told changed states → Trace (ℤ → Bool) (Op × ℤ) Bool
trace_of {told} {changed} {states} account = record {
  last = length told;
  states = state_at states;
  when = moment_of told;
  changer = changer account;
  observers = observers account;
}

pub trace_explains : {told : List (Option Event)} {changed : ℕ → Bool} {states : List (ℤ → Bool)} (account : Account told changed states) → Explains set_of_keys (history_of (history told)) (trace_of account)
trace_explains {told} {changed} {states} account =
    let explained = account_explained account in
    let covers = explained.covers in
    let shows = explained.shows in
    record {
      first_state = shows.first_state;
      first_changer = shows.first_changer;
      rising = λ i j lt below. moments_rise told i j lt (let same = length-happened told in omega arith);
      unchanged = λ m lt e. shows.unchanged m lt e;
      change_allowed = λ m c lt e. (shows.changed m c lt e).allowed;
      changed = λ m c lt e. (shows.changed m c lt e).leaves;
      observed = λ m k c le at. (shows.observed m k c at).allowed;
      kept = λ m k c le at. sym (shows.observed m k c at).leaves;
      calls = λ m k c takes. record { begun = covers.begun m k c takes.at; answered = λ j answer responds. covers.alike m k j answer c takes.at responds };
      begun = λ m k c takes. covers.later m k c takes.at;
      ended = λ m k j answer c takes responds. covers.ended m k j answer c takes.at responds;
      answered = λ i j answer responds.
          let found = covers.answered i j answer responds in
          (found.0, found.1, found.2, record { in_time = covers.within found.0 found.1 found.2 found.3; at = found.3 }, found.4);
      once = λ m k n l c d first second same. covers.once m k n l c d first.at second.at same;
    }
