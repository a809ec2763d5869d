-- No more runs than the seat knows by now of settled words and marks.
use Rattle.std.proofs.Common.{◌-◌}
use Rattle.plank_crew.proofs.Known.{AtTurn, most_runs}
use Rattle.plank_crew.proofs.workers.work.Given as goal

abbrev pub invariant-loop-turns : goal.invariant-loop-turns
invariant-loop-turns g l =
    AtTurn g.N.Named.methods g.N.Named.words g.N.Named.forces l.fn.seat l.seat l.look l.methods l.m l.initial.steps l.steps

abbrev pub decreases-loop-turns : goal.decreases-loop-turns
decreases-loop-turns g l =
    most_runs g.N.Named.methods g.N.Named.words - (l.steps - l.initial.steps)
