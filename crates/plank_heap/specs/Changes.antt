-- Heaps with one node changed or added.
use Rattle.std.specs.Prelude.{ℕ, ℤ, Bool, true, false, [], ◌∷◌, ◌++◌, ◌^◌, slice_set, Option, None, bit_or, bit_and}
use Rattle.std.specs.Int.{bit_not, w8}
use Rattle.plank_base.specs.declared.keys.Key.{Key}
use Rattle.plank_base.specs.declared.keys.NodeId.{NodeId}
use Rattle.plank_base.specs.declared.keys.ThreadId.{ThreadId}
use Rattle.plank_heap.specs.declared.nodes.Node.{Node}
use Rattle.plank_heap.specs.declared.heaps.Heap.{Heap}

-- a number with bit i set or cleared
abbrev pub with_bit : ℕ → ℕ → Bool → ℕ
with_bit n i true = bit_or n (2 ^ i)
with_bit n i false = bit_and n (bit_not w8 (2 ^ i))

abbrev pub with_flag : Node → ℕ → Bool → Node
with_flag x flag to = record x { flags = with_bit x.flags flag to }

abbrev pub with_pointer : Node → ℕ → Option NodeId → Node
with_pointer x pointer to = record x { pointers = slice_set x.pointers pointer to }

abbrev pub with_lock : Node → Option ThreadId → Node
with_lock x holder = record x { lock = holder }

-- a heap whose x-th node is another
abbrev pub with_node : Heap → ℕ → Node → Heap
with_node heap x node = record heap { nodes = slice_set heap.nodes x node }

-- a fresh node: no flag, no pointer, a free lock
abbrev pub fresh_node : ℤ → Node
fresh_node key = record { key = Key.Num key; flags = 0; pointers = None ∷ None ∷ []; lock = None }

-- a heap with one more node, which has the next number
abbrev pub with_fresh_node : Heap → ℤ → Heap
with_fresh_node heap key = record heap { nodes = heap.nodes ++ fresh_node key ∷ [] }
