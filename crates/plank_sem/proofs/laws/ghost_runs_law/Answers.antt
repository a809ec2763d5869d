use Rattle.plank_sem.proofs.GhostRuns.{run_kept, run_of_ghosts}
use Rattle.plank_sem.proofs.laws.ghost_runs_law.Goals as goal

pub returns : goal.returns
returns c = record {
  of_run = λ h methods choices told worlds run. let kept = run_kept run in (kept.ghosts, kept.run, kept.same);
  to_run = λ h methods choices told ghosts run. run_of_ghosts run;
}
