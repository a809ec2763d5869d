-- The bit of a at most b, and the orders in which it holds or fails.
use Rattle.std.proofs.Common.{◌<◌, subst}
use Rattle.plank_order.proofs.OrderLaws.{IsAtMost, at_most_answer}
use Rattle.plank_order.proofs.orders.Preorder.at_most.Goals as goal

pub returns : goal.returns
returns c =
    let answer = subst (λ k. c.args.a.0 < k.terms → IsAtMost k c.args.a.0 c.args.b.0 c.relates.result) c.self.view_is
    (at_most_answer _ c.self.invariant c.args.a.0 c.args.b.0 c.relates.result c.relates.ensures) c.requires.first in
    record { every = answer.every; fails = answer.fails }
