-- The keys of the lines so far, no more than there are lines.
use Rattle.std.proofs.Common.{◌≡◌, ◌≤◌, take, length}
use Rattle.plank_trace.specs.Keys.{keys_of}
use Rattle.plank_trace.proofs.keys.keys_of.Given as goal

abbrev pub invariant-loop-line : goal.invariant-loop-line
invariant-loop-line l = record {
  keys : l.keys.items ≡ keys_of (take l.line-index l.lines);
  few : length l.keys.items ≤ l.line-index;
}
