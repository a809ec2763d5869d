-- The names stay.
use Rattle.std.proofs.Common.{◌≡◌}
use Rattle.plank_order.proofs.tests.sixteen_names_fall_into_two_groups.Given as goal

abbrev pub invariant-loop-k : goal.invariant-loop-k
invariant-loop-k g l = l.partition.names ≡ 16
