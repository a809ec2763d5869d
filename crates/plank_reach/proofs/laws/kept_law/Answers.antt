-- The law, from its lemma.
use Rattle.plank_reach.proofs.KeptParts.{kept}
use Rattle.plank_reach.proofs.laws.kept_law.Goals as goal

pub returns : goal.returns
returns c = λ F o from B part. kept F o from B part
