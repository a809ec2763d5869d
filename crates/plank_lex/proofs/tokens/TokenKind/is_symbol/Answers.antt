-- The test on symbols is `==`.
use Rattle.std.proofs.Common.{rules}
use Rattle.plank_lex.specs.Kinds.{same_symbol}
use Rattle.plank_lex.proofs.tokens.TokenKind.is_symbol.Goals as goal

pub returns-in-Symbol-clause-value : goal.returns-in-Symbol-clause-value
unfolding same_symbol
returns-in-Symbol-clause-value c = search rules
