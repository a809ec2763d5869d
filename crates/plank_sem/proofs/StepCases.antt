-- What a step of a thread was: its call began, went on, or ended. For proofs by cases over the steps of runs.
use Rattle.std.proofs.Common.{◌≡◌, ℕ, ℤ, Bool, true, false, List, Option, Some, None, refl, sym, ap, ◌∙◌, subst}
use Rattle.std.specs.Prelude.{slice_get, ◌||◌, option_map, if◌then◌else◌}
use Rattle.std.specs.Option.{option_map_or}
use Rattle.std.specs.FinMap.{get, insert, remove}
use Rattle.std.proofs.lemmas.Option.{same_Some, option_and_then_some}
use Rattle.plank_base.specs.declared.keys.NodeId.{NodeId}
use Rattle.plank_base.specs.declared.keys.ThreadId.{ThreadId}
use Rattle.plank_prog.specs.declared.headers.Header.{Header}
use Rattle.plank_prog.specs.declared.blocks.Block.{Block}
use Rattle.plank_prog.specs.declared.methods.Action.{Action}
use Rattle.plank_prog.specs.declared.methods.Method.{Method}
use Rattle.plank_prog.specs.Methods.{operation}
use Rattle.plank_heap.specs.declared.heaps.Heap.{Heap}
use Rattle.plank_hist.specs.declared.events.Event.{Event}
use Rattle.plank_hist.specs.declared.events.Event.TheVariants.{Invoke as invocation, Respond as response}
use Rattle.plank_sem.specs.declared.calls.Call.{Call}
use Rattle.plank_sem.specs.declared.steps.Act.{Act}
use Rattle.plank_sem.specs.declared.steps.Act.TheVariants.{Invoke, Go}
use Rattle.plank_sem.specs.Worlds.{WorldState, fresh_call}
use Rattle.plank_sem.specs.Reads.{tests_value}
use Rattle.plank_sem.specs.Actions.{After, gone_to, bound, written, taken_yes, taken_no, block_run, copied, allocated}
use Rattle.plank_sem.specs.Steps.{stepped, refused, op_of, begun, went_on, performed, action_of, gone_on, acted}
use Rattle.plank_sem.specs.Kept.{Kept, updated, differs, kept_performed, kept_gone_on, kept_acted}
use Rattle.plank_sem.proofs.FitsKept.{world_of}

told_of : (event told : Option Event) (w after : WorldState) → stepped event w ≡ stepped told after → event ≡ told
told_of event told w after e = cc

-- ---- a call keeps its method and its key

pub record SameCall (call later : Call) : Type 0 where
  pub method : later.method ≡ call.method
  pub key : later.key ≡ call.key

module _ (heap : Heap) (thread : ThreadId) (call : Call) where
  yes_same : (b : Block) (after : After) → taken_yes heap thread call b ≡ Some after → SameCall call after.call
  yes_same b after e =
      option_and_then_some (λ (variables : List (Option NodeId)). option_map (λ next. record { heap = next; call = gone_to call b.yes variables }) (written heap thread call b.writes)) (bound heap call b.binds call.variables) after e
      (λ variables is rest. option_and_then_some (λ (next : Heap). Some (record { heap = next; call = gone_to call b.yes variables })) (written heap thread call b.writes) after rest
      (λ next is_written same. subst (λ (a : After). SameCall call a.call) (same_Some _ after same) (record { method = refl; key = refl })))

  exit_same : (b : Block) (passed : Bool) (after : After) → (if passed then taken_yes heap thread call b else Some (taken_no heap call b)) ≡ Some after → SameCall call after.call
  exit_same b true after e = yes_same b after e
  exit_same b false after e = subst (λ (a : After). SameCall call a.call) (same_Some (taken_no heap call b) after e) (record { method = refl; key = refl })

  block_same : (b : Block) (after : After) → block_run heap thread call b ≡ Some after → SameCall call after.call
  block_same b after e =
      option_and_then_some (λ (passed : Bool). if passed then taken_yes heap thread call b else Some (taken_no heap call b)) (tests_value heap thread call b.tests) after e
      (λ passed is rest. exit_same b passed after rest)

-- what an action that does not end the call makes; None also where it would read or write a field of null
abbrev pub made_by : Heap → ThreadId → Call → Action → Option After
made_by heap thread call (Action.Block b) = block_run heap thread call b
made_by heap thread call (Action.Copy to from location) = Some (copied heap call to from location)
made_by heap thread call (Action.New to location) = Some (allocated heap call to location)
made_by heap thread call (Action.Return answer) = None

pub made_same : (heap : Heap) (thread : ThreadId) (call : Call) (action : Action) (made : After) → made_by heap thread call action ≡ Some made → SameCall call made.call
made_same heap thread call (Action.Block b) made e = block_same heap thread call b made e
made_same heap thread call (Action.Copy to from location) made e =
    subst (λ (a : After). SameCall call a.call) (same_Some (copied heap call to from location) made e) (record { method = refl; key = refl })
made_same heap thread call (Action.New to location) made e =
    subst (λ (a : After). SameCall call a.call) (same_Some (allocated heap call to location) made e) (record { method = refl; key = refl })
made_same heap thread call (Action.Return answer) made e = absurd (cc)

-- ---- the three cases

pub data StepWas (methods : List Method) (before : WorldState) (thread : ThreadId) (act : Act) (event : Option Event) (after : WorldState) : Type 0 where
  began : (m : ℕ) (key : ℤ) (method : Method) → act ≡ Invoke m key → slice_get methods m ≡ Some method
      → event ≡ option_map (λ op. invocation thread op key) (operation method.kind) → after ≡ record before { calls = insert before.calls thread.0 (fresh_call m key) } → StepWas methods before thread act event after
  went : (call : Call) (action : Action) (made : After) → act ≡ Go → get before.calls thread.0 ≡ Some call → action_of methods call ≡ Some action → made_by before.heap thread call action ≡ Some made
      → event ≡ None → after ≡ record { heap = made.heap; calls = insert before.calls thread.0 made.call } → StepWas methods before thread act event after
  finished : (call : Call) (answer : Bool) → act ≡ Go → get before.calls thread.0 ≡ Some call → action_of methods call ≡ Some (Action.Return answer)
      → event ≡ option_map (λ op. response thread answer) (op_of methods call) → after ≡ record before { calls = remove before.calls thread.0 } → StepWas methods before thread act event after

module _ (methods : List Method) (before : WorldState) (thread : ThreadId) (event : Option Event) (after : WorldState) where
  begun_cases : (m : ℕ) (key : ℤ) (pending : Option Call) (found : Option Method) → slice_get methods m ≡ found → begun before thread m key pending found ≡ stepped event after → StepWas methods before thread (Invoke m key) event after
  begun_cases m key None (Some method) called e = began m key method refl called (sym (told_of _ event _ after e)) (sym (world_of _ event _ after e))
  begun_cases m key None None called e = absurd (cc)
  begun_cases m key (Some call) found called e = absurd (cc)

  went_cases : (call : Call) (action : Action) (made : Option After) → get before.calls thread.0 ≡ Some call → action_of methods call ≡ Some action → made_by before.heap thread call action ≡ made
      → went_on before thread made ≡ stepped event after → StepWas methods before thread Go event after
  went_cases call action None pending at makes e = absurd (cc)
  went_cases call action (Some made) pending at makes e = went call action made refl pending at makes (sym (told_of _ event _ after e)) (sym (world_of _ event _ after e))

  performed_cases : (call : Call) (action : Action) → get before.calls thread.0 ≡ Some call → action_of methods call ≡ Some action → performed methods before thread call action ≡ stepped event after → StepWas methods before thread Go event after
  performed_cases call (Action.Block b) pending at e = went_cases call (Action.Block b) (block_run before.heap thread call b) pending at refl e
  performed_cases call (Action.Copy to from location) pending at e = went_cases call (Action.Copy to from location) (Some (copied before.heap call to from location)) pending at refl e
  performed_cases call (Action.New to location) pending at e = went_cases call (Action.New to location) (Some (allocated before.heap call to location)) pending at refl e
  performed_cases call (Action.Return answer) pending at e = finished call answer refl pending at (sym (told_of _ event _ after e)) (sym (world_of _ event _ after e))

  action_cases : (call : Call) (found : Option Action) → get before.calls thread.0 ≡ Some call → action_of methods call ≡ found → option_map_or (performed methods before thread call) found refused ≡ stepped event after → StepWas methods before thread Go event after
  action_cases call None pending at e = absurd (cc)
  action_cases call (Some action) pending at e = performed_cases call action pending at e

  gone_cases : (pending : Option Call) → get before.calls thread.0 ≡ pending → gone_on methods before thread pending ≡ stepped event after → StepWas methods before thread Go event after
  gone_cases None is e = absurd (cc)
  gone_cases (Some call) is e = action_cases call (action_of methods call) is refl e

  pub acted_cases : (act : Act) → acted methods before thread act ≡ stepped event after → StepWas methods before thread act event after
  acted_cases (Invoke m key) e = begun_cases m key (get before.calls thread.0) (slice_get methods m) refl e
  acted_cases Go e = gone_cases (get before.calls thread.0) refl e

-- ---- whether the calls have changed the set afterwards

module _ (h : Header) (methods : List Method) (before after : WorldState) (thread : ThreadId) (kept : Kept) where
  pub has_changed_begun : (act : Act) (m : ℕ) (key : ℤ) → act ≡ Invoke m key → (kept_acted h methods before after thread act kept).has_changed ≡ updated kept.has_changed thread.0 false
  has_changed_begun act m key is = ap (λ a. (kept_acted h methods before after thread a kept).has_changed) is

  pub has_changed_went : (act : Act) (call : Call) (action : Action) → act ≡ Go → get before.calls thread.0 ≡ Some call → action_of methods call ≡ Some action
      → (kept_acted h methods before after thread act kept).has_changed ≡ updated kept.has_changed thread.0 (kept.has_changed thread.0 || differs h before.heap after.heap call.key)
  has_changed_went act call action is pending at =
      ap (λ a. (kept_acted h methods before after thread a kept).has_changed) is
      ∙ ap (λ o. (kept_gone_on h methods before.heap after.heap thread o kept).has_changed) pending
      ∙ ap (λ o. (option_map_or (λ a. kept_performed h before.heap after.heap thread call a kept) o kept).has_changed) at
