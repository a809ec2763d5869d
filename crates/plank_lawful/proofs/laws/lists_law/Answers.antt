-- The law, from its lemma.
use Rattle.plank_lawful.proofs.Listed.{lists_all}
use Rattle.plank_lawful.proofs.laws.lists_law.Goals as goal

pub returns : goal.returns
returns c = λ F. lists_all F
