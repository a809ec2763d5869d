-- The law, from its lemma.
use Rattle.plank_walk.proofs.WalkLaws.{frame_decides}
use Rattle.plank_walk.proofs.laws.frames_law.Goals as goal

pub returns : goal.returns
returns c = λ F p r is also agree. frame_decides F p r is also agree
