use Rattle.std.proofs.Common.{◌≡◌, ◌≤◌, length}
use Rattle.plank_hist.specs.Sets.{holds_after}
use Rattle.plank_hist.proofs.calls.is_present.Given as goal

abbrev pub invariant-loop-calls : goal.invariant-loop-calls
invariant-loop-calls l = record {
  within : length l.calls ≤ length l.fn.calls;
  same : holds_after l.calls l.key ≡ holds_after l.fn.calls l.key;
}

abbrev pub decreases-loop-calls : goal.decreases-loop-calls
decreases-loop-calls l = length l.calls
