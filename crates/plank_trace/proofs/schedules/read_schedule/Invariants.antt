-- These lines are read, and the rest is left.
use Rattle.std.proofs.Common.{length}
use Rattle.plank_trace.proofs.Scheduling.{IsReadUpTo}
use Rattle.plank_trace.proofs.schedules.read_schedule.Given as goal

abbrev pub invariant-loop-line : goal.invariant-loop-line
invariant-loop-line l = IsReadUpTo l.fn.bytes l.lines.items l.rest

abbrev pub decreases-loop-line : goal.decreases-loop-line
decreases-loop-line l = length l.rest
