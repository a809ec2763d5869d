-- The methods so far have other names.
use Rattle.std.proofs.Common.{◌≡◌, ◌+◌, drop}
use Rattle.std.specs.List.{position_or_len}
use Rattle.plank_trace.specs.Lines.{has_name}
use Rattle.plank_trace.proofs.lines.number_of.Given as goal

abbrev pub invariant-loop-i : goal.invariant-loop-i
invariant-loop-i l =
    l.i + position_or_len (has_name l.name) (drop l.i l.methods) ≡ position_or_len (has_name l.name) l.methods
