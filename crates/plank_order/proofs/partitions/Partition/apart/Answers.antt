-- The bit of a and b apart, and the partitions in which it holds or fails.
use Rattle.std.proofs.Common.{◌<◌, subst}
use Rattle.plank_order.proofs.PartitionLaws.{AreApart, apart_answer}
use Rattle.plank_order.proofs.partitions.Partition.apart.Goals as goal

pub returns : goal.returns
returns c =
    let answer = subst (λ k. c.args.a.0 < k.names → c.args.b.0 < k.names → AreApart k c.args.a.0 c.args.b.0 c.relates.result) c.self.view_is
    (apart_answer _ c.self.invariant c.args.a.0 c.args.b.0 c.relates.result c.relates.ensures) c.requires.first c.requires.second in
    record { every = answer.every; fails = answer.fails }
