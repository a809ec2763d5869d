-- Each name is the same as itself, and nothing else is known.
use Rattle.plank_order.proofs.RowLemmas.{relates-zeros}
use Rattle.plank_order.proofs.PartitionLaws.{closed_diagonal}
use Rattle.plank_order.proofs.partitions.Partition.new.Goals as goal

pub invariant_of-result : goal.invariant_of-result
invariant_of-result c =
    closed_diagonal _ c.requires c.make_diagonal.auto.rows c.make_diagonal.ensures (relates-zeros 16)
