use Rattle.std.proofs.Common.{◌≡◌, ◌<◌, length, Some}
use Rattle.plank_base.specs.Paths.{after}
use Rattle.plank_heap.specs.Walks.{next}
use Rattle.plank_heap.proofs.heaps.Heap.walk.Given as goal

abbrev pub invariant-loop-turn : goal.invariant-loop-turn
invariant-loop-turn l = record {
  inside : l.at.0 < length l.self.nodes;
  moves : after (next l.program.header l.self l.j) l._turn l.self.root.0 ≡ Some l.at.0;
}
