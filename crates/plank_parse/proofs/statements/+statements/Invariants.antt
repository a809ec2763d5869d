use Rattle.std.proofs.Common.{◌-◌, ◌+◌, ◌*◌}
use Rattle.plank_lex.specs.declared.symbols.Symbol.TheVariants as symbols
use Rattle.plank_lex.specs.declared.tokens.TokenKind.TheVariants as kind
use Rattle.plank_parse.specs.Readers.{is_other}
use Rattle.plank_parse.specs.Statements.{statement}
use Rattle.plank_parse.proofs.Turns.{GoesOn}
use Rattle.plank_parse.proofs.statements.+statements.Given as goal

abbrev pub decreases-body : goal.decreases-body
decreases-body l = 6 * l.levels

abbrev pub decreases-otherwise : goal.decreases-otherwise
decreases-otherwise l = 6 * l.levels + 1

abbrev pub decreases-atomic : goal.decreases-atomic
decreases-atomic l = 6 * l.levels + 2

abbrev pub decreases-if_statement : goal.decreases-if_statement
decreases-if_statement l = 6 * l.levels + 2

abbrev pub decreases-while_statement : goal.decreases-while_statement
decreases-while_statement l = 6 * l.levels + 2

abbrev pub decreases-loop_statement : goal.decreases-loop_statement
decreases-loop_statement l = 6 * l.levels + 2

abbrev pub decreases-statement : goal.decreases-statement
decreases-statement l = 6 * l.levels + 3

abbrev pub decreases-statements : goal.decreases-statements
decreases-statements l = 6 * l.levels + 4

abbrev pub decreases-braced : goal.decreases-braced
decreases-braced l = 6 * l.levels + 5

abbrev pub invariant-statements-loop-turn : goal.invariant-statements-loop-turn
invariant-statements-loop-turn l =
    GoesOn (is_other (kind.Symbol symbols.CloseBrace)) (statement l.levels) l.tokens l.parts (l._turn-end - l._turn) l.rest
