-- One order where each two terms are placed, and two orders where some two are not.
use Rattle.std.proofs.Common.{arith, subst}
use Rattle.plank_order.specs.Orders.{HasOneOrder, HasTwoOrders}
use Rattle.plank_order.proofs.OrderLaws.{one_order, two_orders}
use Rattle.plank_order.proofs.orders.Preorder.is_total.Goals as goal

pub returns-then-not-is_placed-clause-two : goal.returns-then-not-is_placed-clause-two
returns-then-not-is_placed-clause-two c =
    let w = c.if-not-is_placed.ensures.some in
    subst HasTwoOrders c.self.view_is (two_orders _ c.self.invariant c.loop-a.a w.0 c.loop-a-test.true w.1 w.2 w.3)

pub returns-clause-one : goal.returns-clause-one
returns-clause-one c =
    subst HasOneOrder c.self.view_is (one_order _ c.self.invariant (λ a h. c.loop-a.invariant a (omega arith)))
