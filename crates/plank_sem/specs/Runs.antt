-- Runs: worlds that follow one another from the start, by any list of choices of any threads. The newest stands first.
use Rattle.std.specs.Prelude.{◌≡◌, ◌≢◌, All, Bool, false, ℕ, suc, ◌==◌, List, [], ◌∷◌, ◌++◌, length, slice_get, Option, Some, None, if◌then◌else◌}
use Rattle.plank_prog.specs.declared.headers.Header.{Header}
use Rattle.plank_base.specs.declared.operations.Op.{Op}
use Rattle.plank_base.specs.declared.operations.Op.TheVariants.{Insert}
use Rattle.plank_prog.specs.declared.methods.Action.{Action}
use Rattle.plank_prog.specs.declared.methods.Location.{Location}
use Rattle.plank_prog.specs.declared.methods.Method.{Method}
use Rattle.plank_prog.specs.declared.methods.MethodKind.{MethodKind}
use Rattle.plank_hist.specs.declared.events.Event.{Event}
use Rattle.plank_hist.specs.Linearizability.{IsLinearizableSet}
use Rattle.plank_sem.specs.declared.steps.Choice.{Choice}
use Rattle.plank_sem.specs.Worlds.{WorldState, start_world}
use Rattle.plank_sem.specs.Steps.{next, stepped, null_read}

-- a run through these worlds, by these choices, which told these events
pub data Run (h : Header) (methods : List Method) : List Choice → List (Option Event) → List WorldState → Type 0 where
  begins : Run h methods [] [] (start_world h ∷ [])
  goes_on : {choices : List Choice} {told : List (Option Event)} {before : WorldState} {worlds : List WorldState} → Run h methods choices told (before ∷ worlds) → (choice : Choice) (event : Option Event) (after : WorldState) → next methods before choice ≡ stepped event after → Run h methods (choice ∷ choices) (event ∷ told) (after ∷ before ∷ worlds)

-- what one step adds to a history
abbrev pub with_event : List Event → Option Event → List Event
with_event events None = events
with_event events (Some event) = events ++ event ∷ []

-- the history of a run, oldest event first
abbrev pub history : List (Option Event) → List Event
history [] = []
history (event ∷ told) = with_event (history told) event

-- every run of any number of threads has a history that is linearizable to a set
abbrev pub AllRunsLinearizable : Header → List Method → Type 0
AllRunsLinearizable h methods = (choices : List Choice) (told : List (Option Event)) (worlds : List WorldState) → Run h methods choices told worlds → IsLinearizableSet (history told)

-- no run comes to a world in which a step would read or write a field of null
abbrev pub NoNullReads : Header → List Method → Type 0
NoNullReads h methods = (choices : List Choice) (told : List (Option Event)) (w : WorldState) (worlds : List WorldState) → Run h methods choices told (w ∷ worlds) → (choice : Choice) → next methods w choice ≢ null_read

-- each location of each method returns
abbrev pub ReturnsAlone : List Method → Type 0
ReturnsAlone methods = (m : ℕ) (method : Method) (l : ℕ) (location : Location) → slice_get methods m ≡ Some method → slice_get method.locations l ≡ Some location → (answer : Bool) × (location.action ≡ Action.Return answer)

-- a method that is no upkeep is no insert, and each of its locations returns false
abbrev pub AnswersFalseWithoutInsert : List Method → Type 0
AnswersFalseWithoutInsert methods = All (λ m. (op : Op) → m.kind ≡ MethodKind.Set op → (op ≢ Insert) × All (λ l. l.action ≡ Action.Return false) m.locations) methods

-- ---- moments: the world at moment m is the one after m steps

-- the moment at which the event at a place of the history has happened: the one after its step
abbrev pub moment_of : List (Option Event) → ℕ → ℕ
moment_of [] place = 0
moment_of (None ∷ told) place = moment_of told place
moment_of (Some event ∷ told) place = if place == length (history told) then suc (length told) else moment_of told place
