-- The facts stay closed, and the orders that meet them are those that meet the assumption too.
use Rattle.std.proofs.Common.{ℕ, ◌≤◌, ◌↔◌, sym, ◌∙◌, subst}
use Rattle.plank_order.proofs.RowLemmas.{or_after}
use Rattle.plank_order.specs.Orders.{OrderFacts, Meets}
use Rattle.plank_order.proofs.OrderLaws.{term_small, closed_with_at_most, meets_with_at_most, order}
use Rattle.plank_order.proofs.orders.Preorder.assume_at_most.Goals as goal

pub invariant_of-self : goal.invariant_of-self
invariant_of-self c =
    closed_with_at_most _ _ c.self.invariant c.args.a.0 c.args.b.0
    (term_small _ _ c.self.view_is c.self.invariant _ c.requires.first) (term_small _ _ c.self.view_is c.self.invariant _ c.requires.second)
    c.self.invariant.few (sym c.if-relates.ensures) c.extend-3.ensures
    (λ x y. c.extend-2.ensures x y ∙ or_after _ _ _ (c.extend.ensures x y))

pub returns-clause-orders : goal.returns-clause-orders
returns-clause-orders c =
    let now : OrderFacts = record { terms = c.self.inside.terms; at_most = c.extend-3.new.rows; less = c.extend-2.new.rows } in
    subst (λ k. (rank : ℕ → ℕ) → Meets now rank ↔ (Meets k rank × (rank c.args.a.0 ≤ rank c.args.b.0))) c.self.view_is
    (meets_with_at_most _ now c.self.invariant c.args.a.0 c.args.b.0
    (term_small _ _ c.self.view_is c.self.invariant _ c.requires.first) (term_small _ _ c.self.view_is c.self.invariant _ c.requires.second)
    c.self.invariant.few (sym c.if-relates.ensures) c.extend-3.ensures
    (λ x y. c.extend-2.ensures x y ∙ or_after _ _ _ (c.extend.ensures x y)))

pub returns-clause-some : goal.returns-clause-some
returns-clause-some c =
    let now : OrderFacts = record { terms = c.self.inside.terms; at_most = c.extend-3.new.rows; less = c.extend-2.new.rows } in
    order now (invariant_of-self c)
