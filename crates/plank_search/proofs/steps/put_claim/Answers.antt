use Rattle.std.proofs.Common.{sym, ◌∙◌}
use Rattle.plank_search.proofs.Claims.{open-claim}
use Rattle.plank_search.proofs.steps.put_claim.Goals as goal

pub returns-in-None : goal.returns-in-None
returns-in-None c = rw c.put.ensures.written (open-claim c.args.values.now c.args.claim (sym c.get.ensures ∙ c.in-None.is))
