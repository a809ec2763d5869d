-- The rows, one after another.
use Rattle.std.proofs.Common.{arith}
use Rattle.plank_order.proofs.RowLemmas.{extended_none, extended_more, extended_all}
use Rattle.plank_order.proofs.rows.extend.Goals as goal

pub loop-x-init : goal.loop-x-init
loop-x-init c = extended_none _ _ _ _

pub loop-x-preserved : goal.loop-x-preserved
loop-x-preserved c = extended_more _ _ _ _ _ _ _ c.loop-x.invariant (omega arith) c.row_with.ensures

pub returns : goal.returns
returns c = extended_all _ _ _ _ _ _ c.requires.rows (omega arith) c.loop-x.invariant
