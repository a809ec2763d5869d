-- When the start heap is not as the text says: a start node breaks a keep or the order of a pointer field, or the set is
-- not empty. The obligation start.
use Rattle.std.specs.Prelude.{◌≡◌, ◌⊎◌, ℕ, ℤ, Bool, true, false, not, ◌&&◌, slice_get}
use Rattle.std.specs.Option.{option_map_or, option_flatten}
use Rattle.std.specs.List.{list_all}
use Rattle.plank_base.specs.Keys.{is_less}
use Rattle.plank_base.specs.declared.keys.Key.{Key}
use Rattle.plank_prog.specs.declared.headers.KeyOrder.{KeyOrder}
use Rattle.plank_prog.specs.declared.headers.KeyOrder.TheVariants.{Ascending, Descending, Free}
use Rattle.plank_prog.specs.declared.headers.Header.{Header}
use Rattle.plank_prog.specs.Conditions.{value}
use Rattle.plank_heap.specs.declared.nodes.Node.{Node}
use Rattle.plank_heap.specs.declared.heaps.Heap.{Heap}
use Rattle.plank_heap.specs.Heaps.{start_heap, view_of_node}
use Rattle.plank_heap.specs.Walks.{walk_visits, contains}

-- whether a field of this order may lead from one key to another
abbrev pub in_order : KeyOrder → Key → Key → Bool
in_order Ascending key to = is_less key to
in_order Descending key to = is_less to key
in_order Free key to = true

-- whether a field of this order may lead from a key to that of the node y of a heap
abbrev pub in_order_to : Heap → KeyOrder → Key → ℕ → Bool
in_order_to heap order key y = option_map_or (λ node. in_order order key node.key) (slice_get heap.nodes y) true

-- whether the f-th pointer of a node is null, or leads to a node in its order
abbrev pub leads_in_order : Header → Heap → Node → ℕ → Bool
leads_in_order h heap node f =
    option_map_or (λ p. option_map_or (λ to. in_order_to heap p.order node.key to.0) (option_flatten (slice_get node.pointers f)) true)
    (slice_get h.pointers f) true

-- whether the node x of a heap meets every keep for j
abbrev pub meets_keeps : Header → Heap → ℤ → ℕ → Node → Bool
meets_keeps h heap j x node = list_all (λ k. value (view_of_node node j (walk_visits h heap j x)) k.condition) h.keeps

-- whether the node x of a heap meets every keep for j, and its two pointers their order
abbrev pub meets_rules : Header → Heap → ℤ → ℕ → Node → Bool
meets_rules h heap j x node =
    meets_keeps h heap j x node && leads_in_order h heap node 0 && leads_in_order h heap node 1

-- whether the heap has a node x, and it breaks a keep for j or the order of a pointer
abbrev pub breaks_rules : Header → Heap → ℤ → ℕ → Bool
breaks_rules h heap j x = option_map_or (λ node. not (meets_rules h heap j x node)) (slice_get heap.nodes x) false

-- for some ordinary key a start node breaks a rule, or the key is in the set of the start heap
abbrev pub StartFails : Header → Type 0
StartFails h =
    (j : ℤ) × (((x : ℕ) × (breaks_rules h (start_heap h) j x ≡ true)) ⊎ (contains h (start_heap h) j ≡ true))
