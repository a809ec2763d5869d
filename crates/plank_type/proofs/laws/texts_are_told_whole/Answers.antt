use Rattle.plank_type.proofs.ToldLaw.{told_whole}
use Rattle.plank_type.proofs.laws.texts_are_told_whole.Goals as goal

pub returns : goal.returns
returns c = told_whole
