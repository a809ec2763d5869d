-- What a trace shows: a line for each step, and under it a line for each key.
use Rattle.std.specs.Prelude.{ℕ, ℤ, Bool, true, false, List, [], ◌∷◌, ◌++◌, codes, slice_get, Option, Some, None, is_none, option_map, option_and_then, if◌then◌else◌}
use Rattle.std.specs.Option.{option_map_or}
use Rattle.std.specs.FinMap.{get}
use Rattle.std.specs.Fmt.{decimal, signed_decimal}
use Rattle.plank_base.specs.declared.keys.NodeId.{NodeId}
use Rattle.plank_base.specs.declared.keys.ThreadId.{ThreadId}
use Rattle.plank_base.specs.declared.places.Place.{Place}
use Rattle.plank_prog.specs.declared.headers.Header.{Header}
use Rattle.plank_prog.specs.declared.methods.Method.{Method}
use Rattle.plank_heap.specs.declared.heaps.Heap.{Heap}
use Rattle.plank_heap.specs.Walks.{walk_end, contains}
use Rattle.plank_hist.specs.declared.events.Event.{Event}
use Rattle.plank_sem.specs.declared.calls.Call.{Call}
use Rattle.plank_sem.specs.Worlds.{WorldState}
use Rattle.plank_trace.specs.declared.lines.Line.{Line}
use Rattle.plank_trace.specs.Paths.{path_of}

-- ---- steps

-- the place of the location at which a call stands
abbrev pub place_of_call : List Method → Call → Option Place
place_of_call methods call =
    option_map (λ l. l.place) (option_and_then (λ m. slice_get m.locations call.location) (slice_get methods call.method))

-- the place at which a thread stands
abbrev pub stands_at : List Method → WorldState → ThreadId → Option Place
stands_at methods w thread = option_and_then (place_of_call methods) (get w.calls thread.0)

-- line and column, in decimal
abbrev pub place_text : Place → List ℕ
place_text p = decimal p.line ++ codes ":" ++ decimal p.column

abbrev pub optional_place_text : Option Place → List ℕ
optional_place_text place = option_map_or place_text place []

-- the number of a step, and its thread
abbrev pub step_head : ℕ → ThreadId → List ℕ
step_head n thread = decimal n ++ codes " " ++ decimal thread.0

abbrev pub answer_text : Option Event → List ℕ
answer_text None = []
answer_text (Some (Event.Invoke thread op key)) = []
answer_text (Some (Event.Respond thread true)) = codes " answer true"
answer_text (Some (Event.Respond thread false)) = codes " answer false"

-- the n-th step: a call begins; or a thread, which stood at a place, makes its next step, which may answer
abbrev pub step_text : ℕ → Line → Option Place → Option Event → List ℕ
step_text n (Line.Call thread name key) place event =
    step_head n thread ++ codes " call " ++ name ++ codes " " ++ signed_decimal key ++ 10 ∷ []
step_text n (Line.Go thread) place event =
    step_head n thread ++ codes " go " ++ optional_place_text place ++ answer_text event ++ 10 ∷ []

abbrev pub thread_of : Line → ThreadId
thread_of (Line.Call thread name key) = thread
thread_of (Line.Go thread) = thread

-- the n-th step would read or write a field of null
abbrev pub null_text : ℕ → Line → Option Place → List ℕ
null_text n line place = step_head n (thread_of line) ++ codes " null " ++ optional_place_text place ++ 10 ∷ []

-- ---- keys

abbrev pub nodes_text : List NodeId → List ℕ
nodes_text [] = []
nodes_text (x ∷ xs) = codes " " ++ decimal x.0 ++ nodes_text xs

abbrev pub end_text : Bool → Bool → List ℕ
end_text cycles held = (if cycles then codes " cycles" else []) ++ (if held then codes " in" else codes " out")

abbrev pub walk_head : ℤ → List ℕ
walk_head key = codes "  " ++ signed_decimal key ++ codes " walk"

abbrev pub walk_end_text : Header → Heap → ℤ → List ℕ
walk_end_text h heap key = end_text (is_none (walk_end h heap key)) (contains h heap key) ++ 10 ∷ []

-- the walk of a key, and whether it is in the set
abbrev pub walk_text : Header → Heap → ℤ → List ℕ
walk_text h heap key = walk_head key ++ nodes_text (path_of h heap key) ++ walk_end_text h heap key

abbrev pub walks_text : Header → Heap → List ℤ → List ℕ
walks_text h heap [] = []
walks_text h heap (key ∷ keys) = walk_text h heap key ++ walks_text h heap keys
