-- The terms stay.
use Rattle.std.proofs.Common.{◌≡◌}
use Rattle.bench_order.proofs.assume_links.Given as goal

abbrev pub invariant-loop-link : goal.invariant-loop-link
invariant-loop-link l = l.order.terms ≡ 24
