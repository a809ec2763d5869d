-- The law, from its lemma.
use Rattle.plank_fact.proofs.Listed.{none_fails}
use Rattle.plank_fact.proofs.laws.obligations_law.Goals as goal

pub returns : goal.returns
returns c = λ O hold kind x fails. none_fails O hold kind x fails
