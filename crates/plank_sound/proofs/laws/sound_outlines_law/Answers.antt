-- The laws, from their lemmas.
use Rattle.std.proofs.Common.{◌∷◌}
use Rattle.plank_sound.proofs.Runs.StartWorlds.{starts_empty, start_holds}
use Rattle.plank_sound.proofs.Runs.SoundRuns.{all_steps_justified}
use Rattle.plank_sound.proofs.Runs.NullReads.{no_null_in}
use Rattle.plank_sound.proofs.laws.sound_outlines_law.Goals as goal

pub returns-clause-linearizable : goal.returns-clause-linearizable
returns-clause-linearizable c = λ outline header methods valid hold.
    c.justified_runs_law.ensures outline.header outline.methods header methods (starts_empty outline.header (start_holds outline hold)) (all_steps_justified outline header methods valid hold)

pub returns-clause-reads : goal.returns-clause-reads
returns-clause-reads c = λ outline header methods valid hold choices told w worlds run choice e.
    let kept = c.ghost_runs_law.ensures.of_run outline.header outline.methods choices told (w ∷ worlds) run in
    no_null_in outline header methods valid hold choices told kept.0 kept.1 w worlds kept.2 choice e
