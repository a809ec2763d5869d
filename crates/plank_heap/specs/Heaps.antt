-- Heaps that fit a program, the start heap, and what a node shows to conditions.
use Rattle.std.specs.Prelude.{◌≡◌, ℕ, ℤ, ◌<◌, Bool, [], ◌∷◌, length, map, slice_get, Option, Some, None, is_none, option_map}
use Rattle.std.specs.Option.{option_flatten}
use Rattle.plank_base.specs.declared.keys.Key.{Key}
use Rattle.plank_base.specs.declared.keys.NodeId.{NodeId}
use Rattle.plank_prog.specs.declared.headers.StartNode.{StartNode}
use Rattle.plank_prog.specs.declared.headers.Header.{Header}
use Rattle.plank_prog.specs.Conditions.{View}
use Rattle.plank_prog.specs.Views.{view_of}
use Rattle.plank_heap.specs.declared.nodes.Node.{Node}
use Rattle.plank_heap.specs.declared.heaps.Heap.{Heap}

-- each pointer of a node is null or leads to one of so many nodes
abbrev pub LeadsWithin : ℕ → Node → Type 0
LeadsWithin count x = (f : ℕ) (to : NodeId) → slice_get x.pointers f ≡ Some (Some to) → to.0 < count

-- the root and each pointer that is not null name nodes of the heap
pub record IsClosed (heap : Heap) : Type 0 where
  pub root : heap.root.0 < length heap.nodes
  pub pointers : (x : ℕ) (node : Node) → slice_get heap.nodes x ≡ Some node → LeadsWithin (length heap.nodes) node

-- what a node shows to a condition, at a walked key and whether its walk visits the node
abbrev pub view_of_node : Node → ℤ → Bool → View
view_of_node x j visited = view_of x.key x.flags (map (λ p. is_none p) x.pointers) (Key.Num j) visited

-- ---- the start heap

-- where the f-th pointer field of a start node leads
abbrev pub start_pointer : StartNode → ℕ → Option NodeId
start_pointer n f = option_map (λ to. record { 0 = to }) (option_flatten (slice_get n.pointers f))

abbrev pub start_node : StartNode → Node
start_node n = record {
  key = n.key;
  flags = n.flags;
  pointers = start_pointer n 0 ∷ start_pointer n 1 ∷ [];
  lock = None;
}

-- the start nodes as they stand, each with a free lock
abbrev pub start_heap : Header → Heap
start_heap h = record { nodes = map start_node h.nodes; root = record { 0 = h.root } }
