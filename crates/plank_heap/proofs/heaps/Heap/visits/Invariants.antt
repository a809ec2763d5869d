use Rattle.std.proofs.Common.{◌≡◌, ◌<◌, ◌-◌, length}
use Rattle.plank_base.specs.Paths.{meets_within}
use Rattle.plank_heap.specs.Walks.{next, walk_visits}
use Rattle.plank_heap.proofs.heaps.Heap.visits.Given as goal

abbrev pub invariant-loop-move : goal.invariant-loop-move
invariant-loop-move l = record {
  inside : l.at.0 < length l.self.nodes;
  rest : meets_within (next l.program.header l.self l.j) (length l.self.nodes - l._move) l.at.0 l.x.0
      ≡ walk_visits l.program.header l.self l.j l.x.0;
}
