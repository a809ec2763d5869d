use Rattle.std.proofs.Common.{◌≡◌, take}
use Rattle.std.specs.Prelude.{map}
use Rattle.plank_heap.specs.Heaps.{start_node}
use Rattle.plank_heap.proofs.heaps.Heap.start.Given as goal

abbrev pub invariant-loop-node : goal.invariant-loop-node
invariant-loop-node l = l.nodes ≡ map start_node (take l.node-index l.node-items)
