-- Names are looked up among those that the text declares.
use Rattle.plank_rules.proofs.DeclaredNames.{looks_up_what_is_declared}
use Rattle.plank_rules.proofs.laws.looks_up_what_is_declared.Goals as goal

pub returns : goal.returns
returns c = looks_up_what_is_declared
