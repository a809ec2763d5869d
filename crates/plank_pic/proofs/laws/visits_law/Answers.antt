-- The law, from its lemma.
use Rattle.plank_pic.proofs.EachName.{visits_go_on_alike}
use Rattle.plank_pic.proofs.laws.visits_law.Goals as goal

pub returns : goal.returns
returns c = λ F p is k i below. visits_go_on_alike F p is k i below
