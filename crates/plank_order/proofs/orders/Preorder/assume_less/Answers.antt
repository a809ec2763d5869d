-- The facts stay closed, and the orders that meet them are those that meet the assumption too.
use Rattle.std.proofs.Common.{ℕ, ◌<◌, ◌↔◌, sym, subst}
use Rattle.plank_order.specs.Orders.{OrderFacts, Meets}
use Rattle.plank_order.proofs.OrderLaws.{term_small, closed_with_less, meets_with_less, order}
use Rattle.plank_order.proofs.orders.Preorder.assume_less.Goals as goal

pub invariant_of-self : goal.invariant_of-self
invariant_of-self c =
    closed_with_less _ _ c.self.invariant c.args.a.0 c.args.b.0
    (term_small _ _ c.self.view_is c.self.invariant _ c.requires.first) (term_small _ _ c.self.view_is c.self.invariant _ c.requires.second)
    c.self.invariant.few (sym c.if-relates.ensures) c.extend-2.ensures c.extend.ensures

pub returns-clause-orders : goal.returns-clause-orders
returns-clause-orders c =
    let now : OrderFacts = record { terms = c.self.inside.terms; at_most = c.extend-2.new.rows; less = c.extend.new.rows } in
    subst (λ k. (rank : ℕ → ℕ) → Meets now rank ↔ (Meets k rank × (rank c.args.a.0 < rank c.args.b.0))) c.self.view_is
    (meets_with_less _ now c.self.invariant c.args.a.0 c.args.b.0
    (term_small _ _ c.self.view_is c.self.invariant _ c.requires.first) (term_small _ _ c.self.view_is c.self.invariant _ c.requires.second)
    c.self.invariant.few (sym c.if-relates.ensures) c.extend-2.ensures c.extend.ensures)

pub returns-clause-some : goal.returns-clause-some
returns-clause-some c =
    let now : OrderFacts = record { terms = c.self.inside.terms; at_most = c.extend-2.new.rows; less = c.extend.new.rows } in
    order now (invariant_of-self c)
