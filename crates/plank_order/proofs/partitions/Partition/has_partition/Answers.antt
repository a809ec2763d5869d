-- Closed facts have a partition.
use Rattle.std.proofs.Common.{ℕ, subst}
use Rattle.plank_order.specs.Partitions.{Meets}
use Rattle.plank_order.proofs.PartitionLaws.{partition}
use Rattle.plank_order.proofs.partitions.Partition.has_partition.Goals as goal

pub returns : goal.returns
returns c = subst (λ k. (group : ℕ → ℕ) × Meets k group) c.self.view_is (partition _ c.self.invariant)
