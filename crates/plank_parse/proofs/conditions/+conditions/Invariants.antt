use Rattle.std.proofs.Common.{◌-◌, ◌+◌, ◌*◌}
use Rattle.plank_lex.specs.declared.symbols.Symbol.TheVariants as symbols
use Rattle.plank_lex.specs.declared.tokens.TokenKind.TheVariants as kind
use Rattle.plank_parse.specs.Readers.{is_kind, behind}
use Rattle.plank_parse.specs.Conditions.{literal, conjunction}
use Rattle.plank_parse.proofs.Turns.{GoesOn}
use Rattle.plank_parse.proofs.conditions.+conditions.Given as goal

abbrev pub decreases-condition : goal.decreases-condition
decreases-condition l = 9 * l.levels + 7

abbrev pub decreases-more_conjunctions : goal.decreases-more_conjunctions
decreases-more_conjunctions l = 9 * l.levels + 6

abbrev pub decreases-other_conjunction : goal.decreases-other_conjunction
decreases-other_conjunction l = 9 * l.levels + 5

abbrev pub decreases-conjunction : goal.decreases-conjunction
decreases-conjunction l = 9 * l.levels + 4

abbrev pub decreases-more_literals : goal.decreases-more_literals
decreases-more_literals l = 9 * l.levels + 3

abbrev pub decreases-other_literal : goal.decreases-other_literal
decreases-other_literal l = 9 * l.levels + 2

abbrev pub decreases-literal : goal.decreases-literal
decreases-literal l = 9 * l.levels + 1

abbrev pub decreases-group : goal.decreases-group
decreases-group l = 9 * l.levels

abbrev pub decreases-grouped : goal.decreases-grouped
decreases-grouped l = 9 * l.levels + 8

abbrev pub invariant-more_conjunctions-loop-turn : goal.invariant-more_conjunctions-loop-turn
invariant-more_conjunctions-loop-turn l =
    GoesOn (is_kind (kind.Symbol symbols.Or)) (behind (kind.Symbol symbols.Or) (conjunction l.levels)) l.tokens l.parts (l._turn-end - l._turn) l.rest

abbrev pub invariant-more_literals-loop-turn : goal.invariant-more_literals-loop-turn
invariant-more_literals-loop-turn l =
    GoesOn (is_kind (kind.Symbol symbols.And)) (behind (kind.Symbol symbols.And) (literal l.levels)) l.tokens l.parts (l._turn-end - l._turn) l.rest
