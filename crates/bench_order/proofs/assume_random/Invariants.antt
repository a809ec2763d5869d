-- The terms stay.
use Rattle.std.proofs.Common.{◌≡◌}
use Rattle.bench_order.proofs.assume_random.Given as goal

abbrev pub invariant-loop : goal.invariant-loop
invariant-loop l = l.order.terms ≡ 24
