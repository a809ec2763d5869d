-- The path goes on from here.
use Rattle.std.proofs.Common.{◌≡◌, ◌-◌, ◌<◌, length}
use Rattle.plank_heap.specs.Walks.{next}
use Rattle.plank_trace.specs.Paths.{path_from, path_of}
use Rattle.plank_trace.proofs.paths.path.Given as goal

abbrev pub invariant-loop-turn : goal.invariant-loop-turn
invariant-loop-turn l = record {
  within : l.at.0 < length l.heap.nodes;
  path : path_from (next l.program.header l.heap l.j) l.nodes.items (length l.heap.nodes - l._turn) l.at ≡ path_of l.program.header l.heap l.j;
}
