-- Closed facts have an order.
use Rattle.std.proofs.Common.{ℕ, subst}
use Rattle.plank_order.specs.Orders.{Meets}
use Rattle.plank_order.proofs.OrderLaws.{order}
use Rattle.plank_order.proofs.orders.Preorder.has_order.Goals as goal

pub returns : goal.returns
returns c = subst (λ k. (rank : ℕ → ℕ) × Meets k rank) c.self.view_is (order _ c.self.invariant)
