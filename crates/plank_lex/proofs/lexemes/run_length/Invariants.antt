-- The bytes that are passed and the run that is left make the run.
use Rattle.std.proofs.Common.{◌≡◌, ◌+◌, ◌-◌, ◌≤◌, length, drop}
use Rattle.std.specs.List.{prefix_len}
use Rattle.plank_lex.specs.Bytes.{is_run_byte}
use Rattle.plank_lex.proofs.lexemes.run_length.Given as goal

abbrev pub invariant-loop-end : goal.invariant-loop-end
invariant-loop-end l = (l.end + prefix_len is_run_byte (drop l.end l.text) ≡ prefix_len is_run_byte l.text) × (l.end ≤ length l.text)

abbrev pub decreases-loop-end : goal.decreases-loop-end
decreases-loop-end l = length l.text - l.end
