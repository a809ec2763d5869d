use Rattle.std.proofs.Common.{◌-◌}
use Rattle.plank_lex.specs.declared.tokens.TokenKind.TheVariants as kind
use Rattle.plank_parse.specs.Readers.{is_kind, behind}
use Rattle.plank_parse.proofs.Turns.{GoesOn}
use Rattle.plank_parse.proofs.lists.each_after.Given as goal

abbrev pub invariant-loop-turn : goal.invariant-loop-turn
invariant-loop-turn g l = GoesOn (is_kind (kind.Symbol l.separator)) (behind (kind.Symbol l.separator) g.T.Part.reader) l.tokens l.parts (l._turn-end - l._turn) l.rest
