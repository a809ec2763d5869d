use Rattle.std.proofs.Common.{refl}
use Rattle.plank_claim.proofs.Answered.{are_reached}
use Rattle.plank_claim.proofs.asked.ask.Goals as goal

pub returns-clause-exact : goal.returns-clause-exact
returns-clause-exact g c = are_reached _ refl c.in_ok-answers.answers.items c.in_ok-answers.ensures.exact
