-- The law, from its lemma.
use Rattle.plank_sound.specs.Soundness.{IsListed}
use Rattle.plank_sound.proofs.Hindsight.HindsightRuns.{hindsight_of_run}
use Rattle.plank_sound.proofs.laws.hindsight_law.Goals as goal

pub returns : goal.returns
returns c = λ O header methods choices told g ghosts run kept thread call pending x same lasting are_lasting past was now is conclusion kind follows.
    hindsight_of_run O header methods choices told g ghosts run kept thread call pending x same (IsListed lasting) are_lasting past was now is conclusion kind follows
