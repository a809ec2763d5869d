-- The test on reserved words is `==`.
use Rattle.std.proofs.Common.{rules}
use Rattle.plank_lex.specs.Kinds.{same_word}
use Rattle.plank_lex.proofs.tokens.TokenKind.is_reserved.Goals as goal

pub returns-in-Reserved-clause-value : goal.returns-in-Reserved-clause-value
unfolding same_word
returns-in-Reserved-clause-value c = search rules
