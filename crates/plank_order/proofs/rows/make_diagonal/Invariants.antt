-- The rows so far are diagonal.
use Rattle.std.proofs.Common.{length}
use Rattle.plank_order.proofs.RowLemmas.{AreDiagonalBelow}
use Rattle.plank_order.proofs.rows.make_diagonal.Given as goal

abbrev pub invariant-loop-x : goal.invariant-loop-x
invariant-loop-x l = AreDiagonalBelow l.rows (length l.initial.rows) l.x
