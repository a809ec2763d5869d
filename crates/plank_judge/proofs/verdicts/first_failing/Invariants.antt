-- None of those so far fails.
use Rattle.plank_judge.specs.Verdicts.{outline_of, NoneOf}
use Rattle.plank_judge.proofs.verdicts.first_failing.Given as goal

abbrev pub invariant-loop-i : goal.invariant-loop-i
invariant-loop-i g l = NoneOf (outline_of (g.D.Demands.program l.demands) l.marks) l.list l.i
