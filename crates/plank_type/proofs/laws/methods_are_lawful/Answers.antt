use Rattle.plank_type.proofs.MethodsLaw.{methods_are_lawful}
use Rattle.plank_type.proofs.laws.methods_are_lawful.Goals as goal

pub returns : goal.returns
returns c = methods_are_lawful
