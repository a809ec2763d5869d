-- Histories, oldest happening first. A call is named by the place of its invocation.
use Rattle.std.specs.Prelude.{◌≡◌, ℕ, ◌<◌, Bool, ℤ, List, map, Some, slice_get}
use Rattle.plank_base.specs.declared.operations.Op.{Op}
use Rattle.plank_hist.specs.declared.events.Event.{Event}
use Rattle.plank_hist.specs.declared.events.Event.TheVariants.{Invoke, Respond}

-- a thread, by its number, begins a call with an input, or ends its call with an answer
pub data Happening (Input Answer : Type 0) : Type 0 where
  invoked : ℕ → Input → Happening Input Answer
  responded : ℕ → Answer → Happening Input Answer

abbrev pub thread_of : {Input Answer : Type 0} → Happening Input Answer → ℕ
thread_of (invoked thread input) = thread
thread_of (responded thread answer) = thread

-- a call with this input is invoked at place i
pub record IsInvoked {Input Answer : Type 0} (h : List (Happening Input Answer)) (i : ℕ) (input : Input) : Type 0 where
  pub thread : ℕ
  pub invocation : slice_get h i ≡ Some (invoked thread input)

-- the call that is invoked at place i is answered at place j
pub record Responds {Input Answer : Type 0} (h : List (Happening Input Answer)) (i j : ℕ) (answer : Answer) : Type 0 where
  pub thread : ℕ
  pub input : Input
  pub invocation : slice_get h i ≡ Some (invoked thread input)
  pub response : slice_get h j ≡ Some (responded thread answer)
  pub later : i < j
  -- nothing of this thread happens in between
  pub apart : (k : ℕ) (between : Happening Input Answer) → i < k → k < j → slice_get h k ≡ Some between → thread_of between ≡ thread → ⊥

-- a set's event as a happening
abbrev pub happening_of : Event → Happening (Op × ℤ) Bool
happening_of (Invoke thread op key) = invoked thread.0 (op, key)
happening_of (Respond thread answer) = responded thread.0 answer

-- the history that these events record
abbrev pub history_of : List Event → List (Happening (Op × ℤ) Bool)
history_of events = map happening_of events
