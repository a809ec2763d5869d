-- The nodes that a walk visits, in order, each once.
use Rattle.std.specs.Prelude.{ℕ, zero, suc, ℤ, Bool, List, [], ◌∷◌, ◌++◌, ◌==◌, length, Option, if◌then◌else◌}
use Rattle.std.specs.Option.{option_map_or}
use Rattle.std.specs.List.{list_any}
use Rattle.plank_base.specs.declared.keys.NodeId.{NodeId}
use Rattle.plank_prog.specs.declared.headers.Header.{Header}
use Rattle.plank_heap.specs.declared.heaps.Heap.{Heap}
use Rattle.plank_heap.specs.Walks.{next}

-- whether a node of this number is among the nodes
abbrev pub is_on : List NodeId → ℕ → Bool
is_on nodes a = list_any (λ (y : NodeId). y.0 == a) nodes

-- the nodes so far, and then those from x on, until one comes again or the end comes
abbrev pub path_from : (ℕ → Option ℕ) → List NodeId → ℕ → NodeId → List NodeId
path_from f met zero x = met
path_from f met (suc n) x =
    if is_on met x.0 then met
    else option_map_or (λ to. path_from f (met ++ x ∷ []) n (record { 0 = to })) (f x.0) (met ++ x ∷ [])

-- no more nodes are visited than there are
abbrev pub path_of : Header → Heap → ℤ → List NodeId
path_of h heap j = path_from (next h heap j) [] (length heap.nodes) heap.root
