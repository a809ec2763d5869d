-- The rows so far are extended.
use Rattle.plank_order.proofs.RowLemmas.{AreExtendedBelow}
use Rattle.plank_order.proofs.rows.extend.Given as goal

abbrev pub invariant-loop-x : goal.invariant-loop-x
invariant-loop-x l = AreExtendedBelow l.initial.rows l.through l.rows l.a l.more l.x
