use Rattle.plank_sem.specs.Fits.{Fits}
use Rattle.plank_model_tests.proofs.steps.play.Given as goal

abbrev pub invariant-loop-thread : goal.invariant-loop-thread
invariant-loop-thread g l = Fits l.program.methods l.world
