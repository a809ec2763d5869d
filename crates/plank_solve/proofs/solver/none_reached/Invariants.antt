use Rattle.std.proofs.Common.{◌≡◌, replicate, false}
use Rattle.plank_solve.proofs.solver.none_reached.Given as goal

abbrev pub invariant-loop-goal : goal.invariant-loop-goal
invariant-loop-goal l = l.reached.items ≡ replicate l.goal false
