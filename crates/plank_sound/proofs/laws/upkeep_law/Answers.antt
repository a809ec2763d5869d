-- The law, from its lemma.
use Rattle.plank_sound.proofs.Runs.SoundRuns.{all_steps_justified}
use Rattle.plank_sound.proofs.Runs.Upkeep.{upkeep_is_silent}
use Rattle.plank_sound.proofs.laws.upkeep_law.Goals as goal

pub returns : goal.returns
returns c = λ O header methods valid hold choices told g ghosts run choice event after step upkeep.
    upkeep_is_silent O header methods choices told g ghosts run choice event after step
    (all_steps_justified O header methods valid hold choices told g ghosts run choice event after step) upkeep
