use Rattle.std.proofs.Common.{◌≡◌, replicate, None}
use Rattle.plank_solve.proofs.solver.open_parts.Given as goal

abbrev pub invariant-loop-part : goal.invariant-loop-part
invariant-loop-part l = l.parts.items ≡ replicate l.part None
