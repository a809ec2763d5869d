use Rattle.plank_type.proofs.HeaderLaw.{header_is_lawful}
use Rattle.plank_type.proofs.laws.headers_are_lawful.Goals as goal

pub returns : goal.returns
returns c = header_is_lawful
