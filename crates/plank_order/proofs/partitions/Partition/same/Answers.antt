-- The bit of a and b the same, and the partitions in which it holds or fails.
use Rattle.std.proofs.Common.{◌<◌, subst}
use Rattle.plank_order.proofs.PartitionLaws.{AreSame, same_answer}
use Rattle.plank_order.proofs.partitions.Partition.same.Goals as goal

pub returns : goal.returns
returns c =
    let answer = subst (λ k. c.args.b.0 < k.names → AreSame k c.args.a.0 c.args.b.0 c.relates.result) c.self.view_is
    (same_answer _ c.self.invariant c.args.a.0 c.args.b.0 c.relates.result c.relates.ensures) c.requires.second in
    record { every = answer.every; fails = answer.fails }
