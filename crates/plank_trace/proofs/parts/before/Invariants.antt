-- The bytes that are passed and those that are left make them all.
use Rattle.std.proofs.Common.{◌≡◌, ◌+◌, ◌-◌, ◌≤◌, ◌==◌, length, drop}
use Rattle.std.specs.List.{position_or_len}
use Rattle.plank_trace.proofs.parts.before.Given as goal

abbrev pub invariant-loop-end : goal.invariant-loop-end
invariant-loop-end l = (l.end + position_or_len (λ b. b == l.byte) (drop l.end l.bytes) ≡ position_or_len (λ b. b == l.byte) l.bytes) × (l.end ≤ length l.bytes)

abbrev pub decreases-loop-end : goal.decreases-loop-end
decreases-loop-end l = length l.bytes - l.end
