-- The law, from its lemma.
use Rattle.plank_fact.proofs.TableFacts.{past_kind}
use Rattle.plank_sound.proofs.Runs.StartWorlds.{start_orderly, start_holds}
use Rattle.plank_sound.proofs.Interference.Interference.{interference}
use Rattle.plank_sound.proofs.laws.interference_law.Goals as goal

pub returns : goal.returns
returns c = λ outline header methods valid hold choices told g ghosts run.
    interference outline header methods valid hold (λ m L is. past_kind outline.header m L is) (start_orderly outline.header (start_holds outline hold)) run
