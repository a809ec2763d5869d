-- Runs in which every change of the set and every answer is justified, in the words of worlds: what remains of soundness
-- where the interference of all threads is known.
use Rattle.std.specs.Prelude.{◌≡◌, ℕ, ℤ, Bool, true, false, List, ◌∷◌, slice_get, Option, Some}
use Rattle.std.specs.FinMap.{get}
use Rattle.plank_base.specs.declared.operations.Op.{Op}
use Rattle.plank_prog.specs.declared.headers.Header.{Header}
use Rattle.plank_prog.specs.declared.methods.Method.{Method}
use Rattle.plank_prog.specs.Methods.{are_lawful_methods}
use Rattle.plank_prog.specs.Headers.{is_lawful_header}
use Rattle.plank_heap.specs.Heaps.{start_heap}
use Rattle.plank_heap.specs.Walks.{contains}
use Rattle.plank_hist.specs.declared.events.Event.{Event}
use Rattle.plank_hist.specs.declared.events.Event.TheVariants.{Respond as response}
use Rattle.plank_sem.specs.declared.calls.Call.{Call}
use Rattle.plank_sem.specs.declared.steps.Choice.{Choice}
use Rattle.plank_sem.specs.Worlds.{WorldState}
use Rattle.plank_sem.specs.Steps.{next, stepped, op_of}
use Rattle.plank_sem.specs.Kept.{differs, GhostWorld, GhostRun}
use Rattle.plank_sem.specs.CallMoments.{call_moments}
use Rattle.plank_sem.specs.Facts.{IsWriting}
use Rattle.plank_sem.specs.Runs.{AllRunsLinearizable}
use Rattle.plank_account.specs.Accounts.{MayTurn, IsJustified}

-- a pending call of the thread may turn whether this key is in the set: it is the call's own, which had changed nothing
pub record MayTurnKey (h : Header) (methods : List Method) (before : GhostWorld) (thread : ℕ) (key : ℤ) : Type 0 where
  pub call : Call
  pub pending : get before.world.calls thread ≡ Some call
  pub own : key ≡ call.key
  pub first : before.kept.has_changed thread ≡ false
  pub op : Op
  pub performs : op_of methods call ≡ Some op
  pub allowed : MayTurn op (contains h before.world.heap key)

-- in some world of the pending call of a thread a key was in the set, or was not
pub record WasInSet (h : Header) (choices : List Choice) (ghosts : List GhostWorld) (thread : ℕ) (key : ℤ) (present : Bool) : Type 0 where
  pub ago : ℕ
  pub moment : GhostWorld
  pub at : slice_get (call_moments thread choices ghosts) ago ≡ Some moment
  pub was : contains h moment.world.heap key ≡ present

-- what the step turns and what it answers is justified
pub record IsJustifiedStep (h : Header) (methods : List Method) (choices : List Choice) (before : GhostWorld) (ghosts : List GhostWorld) (choice : Choice) (event : Option Event) (after : WorldState) : Type 0 where
  pub turns : IsWriting methods before.world choice.thread → (key : ℤ) → differs h before.world.heap after.heap key ≡ true → MayTurnKey h methods before choice.thread.0 key
  pub answers : (answer : Bool) (call : Call) (op : Op) → event ≡ Some (response choice.thread answer) → get before.world.calls choice.thread.0 ≡ Some call → op_of methods call ≡ Some op
      → IsJustified (WasInSet h choices (before ∷ ghosts) choice.thread.0 call.key) (before.kept.has_changed choice.thread.0) op answer

-- every step of every run is justified
abbrev pub AllStepsJustified : Header → List Method → Type 0
AllStepsJustified h methods = (choices : List Choice) (told : List (Option Event)) (before : GhostWorld) (ghosts : List GhostWorld) → GhostRun h methods choices told (before ∷ ghosts)
    → (choice : Choice) (event : Option Event) (after : WorldState) → next methods before.world choice ≡ stepped event after
    → IsJustifiedStep h methods choices before ghosts choice event after

-- the set is empty at the start
abbrev pub StartsEmpty : Header → Type 0
StartsEmpty h = (key : ℤ) → contains h (start_heap h) key ≡ false

-- ---- the law

-- where the set starts empty and every step is justified, every run has a history that is linearizable to a set
abbrev pub JustifiedRunsAreLinearizable : Type 0
JustifiedRunsAreLinearizable = (h : Header) (methods : List Method) → is_lawful_header h ≡ true → are_lawful_methods h methods ≡ true → StartsEmpty h → AllStepsJustified h methods
    → AllRunsLinearizable h methods
