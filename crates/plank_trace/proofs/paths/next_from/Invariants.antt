use Rattle.std.proofs.Common.{◌≡◌, drop}
use Rattle.plank_prog.specs.Views.{admits}
use Rattle.plank_heap.specs.Walks.{first_admitted}
use Rattle.plank_trace.proofs.paths.next_from.Given as goal

abbrev pub invariant-loop-i : goal.invariant-loop-i
invariant-loop-i l =
    first_admitted (λ p. admits p l.node.key l.node.flags l.j) (drop l.i l.pointers) (drop l.i l.node.pointers)
    ≡ first_admitted (λ p. admits p l.node.key l.node.flags l.j) l.pointers l.node.pointers
