-- Each term is at most itself, and nothing else is known.
use Rattle.plank_order.proofs.RowLemmas.{relates-zeros}
use Rattle.plank_order.proofs.OrderLaws.{closed_diagonal}
use Rattle.plank_order.proofs.orders.Preorder.new.Goals as goal

pub invariant_of-result : goal.invariant_of-result
invariant_of-result c =
    closed_diagonal _ c.requires c.make_diagonal.auto.rows c.make_diagonal.ensures (relates-zeros 24)
