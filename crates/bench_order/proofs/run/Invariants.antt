-- Each count is at most the number of rounds so far.
use Rattle.std.proofs.Common.{◌≤◌}
use Rattle.bench_order.proofs.run.Given as goal

abbrev pub invariant-loop : goal.invariant-loop
invariant-loop l = (l.known.ends ≤ l.counter) × (l.known.totals ≤ l.counter) × (l.known.clashes ≤ l.counter)
