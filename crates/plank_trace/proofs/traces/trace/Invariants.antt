-- The lines so far lead to the world, and their steps are shown.
use Rattle.plank_sem.specs.Fits.{Fits}
use Rattle.plank_trace.specs.Traces.{Plays}
use Rattle.plank_trace.proofs.traces.trace.Given as goal

abbrev pub invariant-loop-i : goal.invariant-loop-i
invariant-loop-i l = record {
  plays : Plays l.program.header l.program.methods l.lines l.i l.play.world l.play.out.items;
  fits : Fits l.program.methods l.play.world;
}
