-- The law, from its lemma.
use Rattle.plank_fact.proofs.Publishing.{publish_cannot_fail}
use Rattle.plank_fact.proofs.laws.publish_law.Goals as goal

pub returns : goal.returns
returns c = λ O x fails. publish_cannot_fail O x fails
