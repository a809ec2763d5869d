-- The law, from its lemma.
use Rattle.plank_walk.proofs.WalkLaws.{comes_to}
use Rattle.plank_walk.proofs.laws.outcomes_law.Goals as goal

pub returns : goal.returns
returns c = λ F p k i. comes_to F p k i
