-- The first of broken rules is the least.
use Rattle.plank_rules.proofs.FirstIsLeast.{first_is_least}
use Rattle.plank_rules.proofs.laws.first_is_least.Goals as goal

pub returns : goal.returns
returns c = first_is_least
