-- The bit of a less b, and the orders in which it holds or fails.
use Rattle.std.proofs.Common.{◌<◌, subst}
use Rattle.plank_order.proofs.OrderLaws.{IsLess, less_answer}
use Rattle.plank_order.proofs.orders.Preorder.less.Goals as goal

pub returns : goal.returns
returns c =
    let answer = subst (λ k. c.args.a.0 < k.terms → c.args.b.0 < k.terms → IsLess k c.args.a.0 c.args.b.0 c.relates.result) c.self.view_is
    (less_answer _ c.self.invariant c.args.a.0 c.args.b.0 c.relates.result c.relates.ensures) c.requires.first c.requires.second in
    record { every = answer.every; fails = answer.fails }
