-- The law, from its lemma.
use Rattle.plank_reach.proofs.Meeting.{step_is_tests}
use Rattle.plank_reach.proofs.laws.tests_law.Goals as goal

pub returns : goal.returns
returns c = λ h S B A. step_is_tests h S B A
