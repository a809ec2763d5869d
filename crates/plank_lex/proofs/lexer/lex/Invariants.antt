-- The tokens so far are those of the text up to the place, and the rest is left.
use Rattle.std.proofs.Common.{length}
use Rattle.plank_lex.proofs.LoopSteps.{IsReadUpTo}
use Rattle.plank_lex.proofs.lexer.lex.Given as goal

abbrev pub invariant-loop-rest : goal.invariant-loop-rest
invariant-loop-rest l = IsReadUpTo l.fn.text l.tokens.items l.place l.rest

abbrev pub decreases-loop-rest : goal.decreases-loop-rest
decreases-loop-rest l = length l.rest
