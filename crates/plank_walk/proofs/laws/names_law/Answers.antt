-- The law, from its lemma.
use Rattle.plank_walk.proofs.WalkLaws.{walk_alike}
use Rattle.plank_walk.proofs.laws.names_law.Goals as goal

pub returns : goal.returns
returns c = λ F p is k i j bi bj same. walk_alike F p is i j bi bj same k
