-- The rows, one after another.
use Rattle.std.proofs.Common.{arith}
use Rattle.plank_order.proofs.RowLemmas.{diagonal_none, diagonal_more}
use Rattle.plank_order.proofs.rows.make_diagonal.Goals as goal

pub loop-x-init : goal.loop-x-init
loop-x-init c = diagonal_none _

pub loop-x-preserved : goal.loop-x-preserved
loop-x-preserved c = diagonal_more _ _ _ c.loop-x.invariant (omega arith) (omega arith)

pub returns : goal.returns
returns c = λ x y h. c.loop-x.invariant.done x (omega arith) y
