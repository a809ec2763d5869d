-- The run that is played.
use Rattle.plank_trace.proofs.Playing.{plays_run}
use Rattle.plank_trace.proofs.laws.plays_law.Goals as goal

pub returns : goal.returns
returns c = λ h methods lines n w bytes plays.
    let run = plays_run h methods lines n w bytes plays in
    (run.told, run.worlds, run.run)
