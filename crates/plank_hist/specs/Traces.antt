-- A trace: the states that an object goes through, moment by moment, with the calls that change or observe it at each.
use Rattle.std.specs.Prelude.{◌≡◌, ℕ, suc, ◌<◌, ◌≤◌, true, List, ◌++◌, length, Option, Some, None, option_to_list, slice_get}
use Rattle.plank_hist.specs.Objects.{Object}
use Rattle.plank_hist.specs.Histories.{Happening, Responds}
use Rattle.plank_hist.specs.Linearizability.{Listing, IsCall}

pub record Trace (State Input Answer : Type 0) : Type 0 where
  -- the last moment; the first is 0
  pub last : ℕ
  pub states : ℕ → State
  -- the moment at which the happening at a place of the history has happened: the one after its step
  pub when : ℕ → ℕ
  -- the call that takes the object from the moment before to this one
  pub changer : ℕ → Option (Listing Input Answer)
  -- the calls that look at the object at this moment and leave it as it is
  pub observers : ℕ → List (Listing Input Answer)

-- the calls that take place at a moment
abbrev pub calls_at : {State Input Answer : Type 0} → Trace State Input Answer → ℕ → List (Listing Input Answer)
calls_at trace m = option_to_list (trace.changer m) ++ trace.observers m

-- a call takes place at a moment up to the last
pub record TakesPlace {State Input Answer : Type 0} (trace : Trace State Input Answer) (m k : ℕ) (c : Listing Input Answer) : Type 0 where
  pub in_time : m ≤ trace.last
  pub at : slice_get (calls_at trace m) k ≡ Some c

-- the trace explains the history: each call takes place between its ends, and answers what the object allows there
pub record Explains {State Input Answer : Type 0} (object : Object State Input Answer) (h : List (Happening Input Answer)) (trace : Trace State Input Answer) : Type 0 where
  pub first_state : trace.states 0 ≡ object.first
  pub first_changer : trace.changer 0 ≡ None
  pub rising : (i j : ℕ) → i < j → j < length h → trace.when i < trace.when j
  pub unchanged : (m : ℕ) → m < trace.last → trace.changer (suc m) ≡ None → trace.states (suc m) ≡ trace.states m
  pub change_allowed : (m : ℕ) (c : Listing Input Answer) → m < trace.last → trace.changer (suc m) ≡ Some c → object.allows (trace.states m) c.input c.answer ≡ true
  pub changed : (m : ℕ) (c : Listing Input Answer) → m < trace.last → trace.changer (suc m) ≡ Some c → trace.states (suc m) ≡ object.after (trace.states m) c.input
  pub observed : (m k : ℕ) (c : Listing Input Answer) → m ≤ trace.last → slice_get (trace.observers m) k ≡ Some c → object.allows (trace.states m) c.input c.answer ≡ true
  pub kept : (m k : ℕ) (c : Listing Input Answer) → m ≤ trace.last → slice_get (trace.observers m) k ≡ Some c → object.after (trace.states m) c.input ≡ trace.states m
  -- only calls of the history take place, after their invocation and before their response
  pub calls : (m k : ℕ) (c : Listing Input Answer) → TakesPlace trace m k c → IsCall h c
  pub begun : (m k : ℕ) (c : Listing Input Answer) → TakesPlace trace m k c → trace.when c.place ≤ m
  pub ended : (m k j : ℕ) (answer : Answer) (c : Listing Input Answer) → TakesPlace trace m k c → Responds h c.place j answer → m < trace.when j
  -- every answered call takes place
  pub answered : (i j : ℕ) (answer : Answer) → Responds h i j answer → (m k : ℕ) × (c : Listing Input Answer) × TakesPlace trace m k c × (c.place ≡ i)
  -- no call takes place twice
  pub once : (m k n l : ℕ) (c d : Listing Input Answer) → TakesPlace trace m k c → TakesPlace trace n l d → c.place ≡ d.place → (m ≡ n) × (k ≡ l)
