-- The keys so far are below.
use Rattle.std.proofs.Common.{◌≡◌, ◌+◌, int_lt, drop}
use Rattle.std.specs.List.{prefix_len}
use Rattle.plank_trace.proofs.keys.below.Given as goal

abbrev pub invariant-loop-i : goal.invariant-loop-i
invariant-loop-i l =
    l.i + prefix_len (λ x. int_lt x l.key) (drop l.i l.keys) ≡ prefix_len (λ x. int_lt x l.key) l.keys
