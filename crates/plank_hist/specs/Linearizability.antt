-- Linearizability after Herlihy and Wing (1990): the calls of a history, listed one after another as if each took no time.
use Rattle.std.specs.Prelude.{◌≡◌, ℕ, ◌<◌, true, List, map, Some, slice_get}
use Rattle.plank_hist.specs.declared.events.Event.{Event}
use Rattle.plank_hist.specs.Objects.{Object, Finished, legal}
use Rattle.plank_hist.specs.Sets.{set_of_keys}
use Rattle.plank_hist.specs.Histories.{Happening, IsInvoked, Responds, history_of}

-- a call of a history, by the place of its invocation, with the answer that it is listed with
pub record Listing (Input Answer : Type 0) : Type 0 where
  pub place : ℕ
  pub input : Input
  pub answer : Answer

abbrev pub call_of : {Input Answer : Type 0} → Listing Input Answer → Finished Input Answer
call_of listing = record { input = listing.input; answer = listing.answer }

-- the listing is a call of the history with its input, and with its answer if it is answered; a pending call may have any
pub record IsCall {Input Answer : Type 0} (h : List (Happening Input Answer)) (listing : Listing Input Answer) : Type 0 where
  pub begun : IsInvoked h listing.place listing.input
  pub answered : (j : ℕ) (answer : Answer) → Responds h listing.place j answer → answer ≡ listing.answer

-- the listings explain the history: in their order the calls are legal, and it is the order of the calls in time
pub record Linearizes {State Input Answer : Type 0} (object : Object State Input Answer) (h : List (Happening Input Answer)) (listings : List (Listing Input Answer)) : Type 0 where
  -- only calls of the history are listed
  pub calls : (k : ℕ) (c : Listing Input Answer) → slice_get listings k ≡ Some c → IsCall h c
  -- every answered call is listed; a pending one may be left out
  pub answered : (i j : ℕ) (answer : Answer) → Responds h i j answer → (k : ℕ) × (c : Listing Input Answer) × (slice_get listings k ≡ Some c) × (c.place ≡ i)
  -- no call is listed twice
  pub once : (k l : ℕ) (c d : Listing Input Answer) → slice_get listings k ≡ Some c → slice_get listings l ≡ Some d → c.place ≡ d.place → k ≡ l
  -- a call that responds before another is invoked stands before it
  pub in_order : (k l j : ℕ) (answer : Answer) (c d : Listing Input Answer) → slice_get listings k ≡ Some c → slice_get listings l ≡ Some d → Responds h c.place j answer → j < d.place → k < l
  pub legal : legal object (map call_of listings) ≡ true

abbrev pub Linearizable : {State Input Answer : Type 0} → Object State Input Answer → List (Happening Input Answer) → Type 0
Linearizable {State} {Input} {Answer} object h = (listings : List (Listing Input Answer)) × Linearizes object h listings

-- the history that these events record is linearizable to a set that starts empty
abbrev pub IsLinearizableSet : List Event → Type 0
IsLinearizableSet events = Linearizable set_of_keys (history_of events)
