-- A run whose steps are justified has an account. The pending calls of its worlds are those that its history tells.
use Rattle.std.proofs.Common.{◌≡◌, ℕ, suc, ◌+◌, ◌<◌, length, arith, Bool, true, false, ℤ, List, [], ◌∷◌, map, Option, Some, None, refl, sym, ap, ◌∙◌, subst}
use Rattle.std.specs.Prelude.{slice_get, ◌||◌, option_map, option_and_then}
use Rattle.std.specs.Ordering.{nat_cmp}
use Rattle.std.specs.FinMap.{get, insert, remove, get-empty}
use Rattle.std.proofs.Math.Path.{fun_ext}
use Rattle.std.proofs.lemmas.Option.{none-some, slice_get-map}
use Rattle.plank_base.specs.declared.operations.Op.{Op}
use Rattle.plank_base.specs.declared.keys.ThreadId.{ThreadId}
use Rattle.plank_prog.specs.declared.headers.Header.{Header}
use Rattle.plank_prog.specs.declared.methods.Action.{Action}
use Rattle.plank_prog.specs.declared.methods.Method.{Method}
use Rattle.plank_prog.specs.Headers.{is_lawful_header}
use Rattle.plank_prog.specs.Methods.{are_lawful_methods, operation}
use Rattle.plank_heap.specs.Heaps.{IsClosed}
use Rattle.plank_hist.specs.declared.events.Event.{Event}
use Rattle.plank_hist.specs.declared.events.Event.TheVariants.{Invoke as invocation, Respond as response}
use Rattle.plank_sem.specs.declared.calls.Call.{Call}
use Rattle.plank_sem.specs.declared.steps.Act.{Act}
use Rattle.plank_sem.specs.declared.steps.Choice.{Choice}
use Rattle.plank_sem.specs.Worlds.{WorldState, fresh_call}
use Rattle.plank_sem.specs.Steps.{op_of}
use Rattle.plank_sem.specs.Runs.{moment_of}
use Rattle.plank_sem.specs.Kept.{updated, differs, kept_acted, GhostWorld, ghost_start, GhostRun, ghost_begins, ghost_goes_on}
use Rattle.plank_sem.proofs.SoundWorlds.{run_good, good_sound}
use Rattle.plank_sem.proofs.StepCases.{made_same, StepWas, began, went, finished, acted_cases, has_changed_begun, has_changed_went}
use Rattle.plank_sem.proofs.IdleSets.{turn_writes}
use Rattle.plank_sem.proofs.CallMoments.{moment_is_world}
use Rattle.plank_account.specs.Accounts.{IsJustified, WasSo, Account, starts}
use Rattle.plank_account.specs.Justified.{MayTurnKey, WasInSet, AllStepsJustified, StartsEmpty}
use Rattle.plank_account.proofs.AccountedSteps.{keys_of, IsTold, Accounted, justified_more, begun_told, goes_accounted, ended_told}

-- ---- the steps of worlds

-- the sets that the worlds hold
abbrev pub sets_of : Header → List GhostWorld → List (ℤ → Bool)
sets_of h ghosts = map (λ (g : GhostWorld). keys_of h g.world.heap) ghosts

-- after a ghost world, by what was told
abbrev pub AccountedAt : Header → List Method → List Choice → List (Option Event) → GhostWorld → List GhostWorld → Type 0
AccountedAt h methods choices told g ghosts = Accounted methods choices told (sets_of h (g ∷ ghosts)) g.world.calls g.kept.has_changed

was_so : (h : Header) (choices : List Choice) (told : List (Option Event)) (ghosts : List GhostWorld) (thread : ℕ) (op : Op) (key : ℤ) (present : Bool) (is_told : IsTold choices told thread op key)
    → WasInSet h choices ghosts thread key present → WasSo told (sets_of h ghosts) (record { place = is_told.place; op = op; key = key }) present
was_so h choices told ghosts thread op key present is_told was =
    let found = moment_is_world thread choices ghosts was.ago was.moment is_told.age is_told.begun was.at in
    let young : was.ago < suc is_told.age = found.0 in
    let since : moment_of told is_told.place + is_told.age ≡ length told = is_told.since in
    record {
      ago = was.ago;
      since = omega arith;
      moment = keys_of h was.moment.world.heap;
      at = slice_get-map (λ (k : GhostWorld). keys_of h k.world.heap) ghosts was.ago ∙ ap (λ o. option_map (λ (k : GhostWorld). keys_of h k.world.heap) o) found.1;
      was = was.was;
    }

-- what a beginning call tells, by its operation
told_at_begin : (methods : List Method) (thread : ThreadId) (m : ℕ) (key : ℤ) (method : Method) → slice_get methods m ≡ Some method
    → option_map (λ op. invocation thread op key) (operation method.kind) ≡ option_map (λ op. invocation thread op key) (op_of methods (fresh_call m key))
told_at_begin methods thread m key method called = sym (ap (λ o. option_map (λ op. invocation thread op key) (option_and_then (λ (n : Method). operation n.kind) o)) called)

-- the same of an event, of a world and of what is kept that are equal
accounted_as : (h : Header) (methods : List Method) (choices : List Choice) (told : List (Option Event)) (states : List (ℤ → Bool)) (event other : Option Event) (after world : WorldState) (later has_changed : ℕ → Bool) → event ≡ other → after ≡ world → later ≡ has_changed
    → Accounted methods choices (other ∷ told) (keys_of h world.heap ∷ states) world.calls has_changed → Accounted methods choices (event ∷ told) (keys_of h after.heap ∷ states) after.calls later
accounted_as h methods choices told states event other after world later has_changed same_event same_world same_changed accounted =
    subst (λ (o : Option Event). Accounted methods choices (o ∷ told) (keys_of h after.heap ∷ states) after.calls later) (sym same_event)
    (subst (λ (w : WorldState). Accounted methods choices (other ∷ told) (keys_of h w.heap ∷ states) w.calls later) (sym same_world)
    (subst (λ (f : ℕ → Bool). Accounted methods choices (other ∷ told) (keys_of h world.heap ∷ states) world.calls f) (sym same_changed) accounted))

module _ (h : Header) (methods : List Method) (choices : List Choice) (told : List (Option Event)) (before : GhostWorld) (ghosts : List GhostWorld) (accounted : AccountedAt h methods choices told before ghosts) (thread : ThreadId) (act : Act) where
  -- after any step of the thread
  after_step : (event : Option Event) (after : WorldState)
      → ((key : ℤ) → differs h before.world.heap after.heap key ≡ true → MayTurnKey h methods before thread.0 key)
      → ((answer : Bool) (call : Call) (op : Op) → event ≡ Some (response thread answer) → get before.world.calls thread.0 ≡ Some call → op_of methods call ≡ Some op → IsJustified (WasInSet h choices (before ∷ ghosts) thread.0 call.key) (before.kept.has_changed thread.0) op answer)
      → StepWas methods before.world thread act event after
      → AccountedAt h methods (record { thread = thread; act = act } ∷ choices) (event ∷ told) (record { world = after; kept = kept_acted h methods before.world after thread act before.kept }) (before ∷ ghosts)
  after_step event after turns answers (began m key method is called same_event same_world) =
      accounted_as h methods (record { thread = thread; act = act } ∷ choices) told (sets_of h (before ∷ ghosts)) event (option_map (λ op. invocation thread op key) (op_of methods (fresh_call m key))) after (record { heap = before.world.heap; calls = insert before.world.calls thread.0 (fresh_call m key) })
      (kept_acted h methods before.world after thread act before.kept).has_changed (updated before.kept.has_changed thread.0 false) (same_event ∙ told_at_begin methods thread m key method called) same_world (has_changed_begun h methods before.world after thread before.kept act m key is)
      (begun_told h methods choices told before (sets_of h ghosts) accounted thread act m key (op_of methods (fresh_call m key)) is refl)
  after_step event after turns answers (went call action made is pending at makes same_event same_world) =
      accounted_as h methods (record { thread = thread; act = act } ∷ choices) told (sets_of h (before ∷ ghosts)) event None after (record { heap = made.heap; calls = insert before.world.calls thread.0 made.call })
      (kept_acted h methods before.world after thread act before.kept).has_changed (updated before.kept.has_changed thread.0 (before.kept.has_changed thread.0 || differs h before.world.heap made.heap call.key)) same_event same_world
      (has_changed_went h methods before.world after thread before.kept act call action is pending at ∙ ap (λ (w : WorldState). updated before.kept.has_changed thread.0 (before.kept.has_changed thread.0 || differs h before.world.heap w.heap call.key)) same_world)
      (goes_accounted h methods choices told before (sets_of h ghosts) accounted thread act is call pending made.heap
      (λ key turned. turns key (subst (λ (w : WorldState). differs h before.world.heap w.heap key ≡ true) (sym same_world) turned)) made.call (made_same before.world.heap thread call action made makes))
  after_step event after turns answers (finished call answer is pending at same_event same_world) =
      accounted_as h methods (record { thread = thread; act = act } ∷ choices) told (sets_of h (before ∷ ghosts)) event (option_map (λ op. response thread answer) (op_of methods call)) after (record { heap = before.world.heap; calls = remove before.world.calls thread.0 })
      (kept_acted h methods before.world after thread act before.kept).has_changed (updated before.kept.has_changed thread.0 (before.kept.has_changed thread.0 || differs h before.world.heap after.heap call.key)) same_event same_world
      (has_changed_went h methods before.world after thread before.kept act call (Action.Return answer) is pending at)
      (ended_told h methods choices told before (sets_of h ghosts) accounted thread act is call pending answer (before.kept.has_changed thread.0 || differs h before.world.heap after.heap call.key) (op_of methods call) refl
      (λ op performs is_told. justified_more (WasInSet h choices (before ∷ ghosts) thread.0 call.key) (WasSo told (sets_of h (before ∷ ghosts)) (record { place = is_told.place; op = op; key = call.key }))
      (before.kept.has_changed thread.0) (before.kept.has_changed thread.0) op answer
      (λ present was. was_so h choices told (before ∷ ghosts) thread.0 op call.key present is_told was) refl
      (answers answer call op (same_event ∙ ap (λ o. option_map (λ q. response thread answer) o) performs) pending performs)))

-- ---- runs

accounted_start : (h : Header) (methods : List Method) → StartsEmpty h → AccountedAt h methods [] [] (ghost_start h) []
accounted_start h methods empties = record {
  changed = λ thread. false;
  account = subst (λ (s : ℤ → Bool). Account [] (λ thread. false) (s ∷ [])) (sym (fun_ext empties)) (starts (λ thread. false));
  tells = λ thread call op at is. absurd (none-some call (sym (get-empty nat_cmp thread) ∙ at));
  same = λ thread call op at is. absurd (none-some call (sym (get-empty nat_cmp thread) ∙ at));
}

-- a run has worlds, and what was told of them is accounted for
abbrev pub RunAccounted : Header → List Method → List Choice → List (Option Event) → List GhostWorld → Type 0
RunAccounted h methods choices told [] = ⊥
RunAccounted h methods choices told (g ∷ ghosts) = AccountedAt h methods choices told g ghosts

pub run_accounted : {h : Header} {methods : List Method} {choices : List Choice} {told : List (Option Event)} {ghosts : List GhostWorld} → is_lawful_header h ≡ true → are_lawful_methods h methods ≡ true → StartsEmpty h → AllStepsJustified h methods → GhostRun h methods choices told ghosts → RunAccounted h methods choices told ghosts
run_accounted {h} {methods} header lawful empties justified ghost_begins = accounted_start h methods empties
run_accounted {h} {methods} header lawful empties justified (ghost_goes_on {choices} {told} {before} {ghosts} run choice event after step) =
    let reason = justified choices told before ghosts run choice event after step in
    let closed : IsClosed before.world.heap = (good_sound h methods before ((run_good header lawful run).good 0 before refl)).closed in
    after_step h methods choices told before ghosts (run_accounted header lawful empties justified run) choice.thread choice.act event after
    (λ key turned. reason.turns (turn_writes h methods before choice event after closed step key turned) key turned) reason.answers (acted_cases methods before.world choice.thread event after choice.act step)

-- the account of a run
pub account_of : (h : Header) (methods : List Method) (choices : List Choice) (told : List (Option Event)) (ghosts : List GhostWorld) → RunAccounted h methods choices told ghosts → (changed : ℕ → Bool) × (states : List (ℤ → Bool)) × Account told changed states
account_of h methods choices told [] accounted = absurd accounted
account_of h methods choices told (g ∷ ghosts) accounted = (accounted.changed, sets_of h (g ∷ ghosts), accounted.account)
