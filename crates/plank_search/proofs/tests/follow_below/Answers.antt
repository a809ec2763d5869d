use Rattle.std.proofs.Common.{◌∙◌, sym}
use Rattle.plank_search.proofs.OrderRows.{row-puts}
use Rattle.plank_search.proofs.tests.follow_below.Goals as goal

pub returns-in-None : goal.returns-in-None
returns-in-None c =
    rw c.put.ensures.written
    (row-puts c.args.row c.args.values.now c.requires.first c.requires.second (sym c.get.ensures ∙ c.in-None.is))
