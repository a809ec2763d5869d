-- The walk of a key through a heap, after the search path of Shasha and Goodman (1988), and the set that a heap holds.
use Rattle.std.specs.Prelude.{◌≡◌, ℕ, ℤ, Bool, true, false, List, [], ◌∷◌, length, slice_get, Option, Some, None, option_and_then, if◌then◌else◌}
use Rattle.std.specs.Option.{option_map_or}
use Rattle.plank_base.specs.declared.keys.NodeId.{NodeId}
use Rattle.plank_base.specs.Paths.{Path, EndsAt, NeverEnds, meets_within, end_within}
use Rattle.plank_prog.specs.declared.headers.Pointer.{Pointer}
use Rattle.plank_prog.specs.declared.headers.Header.{Header}
use Rattle.plank_prog.specs.Views.{admits, holds_at}
use Rattle.plank_heap.specs.declared.nodes.Node.{Node}
use Rattle.plank_heap.specs.declared.heaps.Heap.{Heap}

-- where the first field leads that is not null and admits, of fields in the order of declaration
abbrev pub first_admitted : (Pointer → Bool) → List Pointer → List (Option NodeId) → Option ℕ
first_admitted admitting [] targets = None
first_admitted admitting (p ∷ ps) [] = None
first_admitted admitting (p ∷ ps) (None ∷ targets) = first_admitted admitting ps targets
first_admitted admitting (p ∷ ps) (Some to ∷ targets) =
    if admitting p then Some to.0 else first_admitted admitting ps targets

-- where the walk of j goes from a node, and None where it ends there
abbrev pub next_from : Header → ℤ → Node → Option ℕ
next_from h j x = first_admitted (λ p. admits p x.key x.flags j) h.pointers x.pointers

-- the walk of j, as a partial function from each node's number to the next
abbrev pub next : Header → Heap → ℤ → ℕ → Option ℕ
next h heap j x = option_and_then (next_from h j) (slice_get heap.nodes x)

-- the walk of j visits x
abbrev pub WalkVisits : Header → Heap → ℤ → ℕ → Type 0
WalkVisits h heap j x = Path (next h heap j) heap.root.0 x

-- the walk of j ends at y
abbrev pub WalkEndsAt : Header → Heap → ℤ → ℕ → Type 0
WalkEndsAt h heap j y = EndsAt (next h heap j) heap.root.0 y

-- the walk of j never ends
abbrev pub WalkNeverEnds : Header → Heap → ℤ → Type 0
WalkNeverEnds h heap j = NeverEnds (next h heap j) heap.root.0

-- the holds condition accepts the node y for j
abbrev pub holds_of : Header → Heap → ℤ → ℕ → Bool
holds_of h heap j y = option_map_or (λ x. holds_at h x.key x.flags j) (slice_get heap.nodes y) false

-- j is in the set that the heap holds: its walk ends at a node that holds accepts for it
abbrev pub Contains : Header → Heap → ℤ → Type 0
Contains h heap j = (y : ℕ) × WalkEndsAt h heap j y × (holds_of h heap j y ≡ true)

-- ---- the same as tests

-- whether the walk of j visits x
abbrev pub walk_visits : Header → Heap → ℤ → ℕ → Bool
walk_visits h heap j x = meets_within (next h heap j) (length heap.nodes) heap.root.0 x

-- where the walk of j ends, and None where it never ends
abbrev pub walk_end : Header → Heap → ℤ → Option ℕ
walk_end h heap j = end_within (next h heap j) (length heap.nodes) heap.root.0

-- whether j is in the set that the heap holds
abbrev pub contains : Header → Heap → ℤ → Bool
contains h heap j = option_map_or (holds_of h heap j) (walk_end h heap j) false
