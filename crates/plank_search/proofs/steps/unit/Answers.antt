use Rattle.plank_search.proofs.Standings.{unit-narrows}
use Rattle.plank_search.proofs.steps.unit.Goals as goal

pub returns-in-Unit : goal.returns-in-Unit
returns-in-Unit c =
    rw c.put.ensures.written (unit-narrows c.args.clause.now c.args.values.now c.in-Unit.literal c.in-Unit.ensures.0 c.in-Unit.ensures.1)
