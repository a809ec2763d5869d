-- The bytes that are passed and the line that is left make the line.
use Rattle.std.proofs.Common.{◌≡◌, ◌+◌, ◌-◌, ◌≤◌, length, drop}
use Rattle.plank_lex.specs.Lexemes.{line_length}
use Rattle.plank_lex.proofs.lexemes.line_length.Given as goal

abbrev pub invariant-loop-end : goal.invariant-loop-end
invariant-loop-end l = (l.end + line_length (drop l.end l.text) ≡ line_length l.text) × (l.end ≤ length l.text)

abbrev pub decreases-loop-end : goal.decreases-loop-end
decreases-loop-end l = length l.text - l.end
