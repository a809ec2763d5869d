use Rattle.std.proofs.Common.{◌-◌}
use Rattle.plank_lex.specs.declared.tokens.TokenKind.TheVariants as kind
use Rattle.plank_parse.specs.Readers.{is_kind}
use Rattle.plank_parse.proofs.Turns.{GoesOn}
use Rattle.plank_parse.proofs.lists.many_from.Given as goal

abbrev pub invariant-loop-turn : goal.invariant-loop-turn
invariant-loop-turn g l = GoesOn (is_kind (kind.Reserved l.word)) g.T.Part.reader l.tokens l.parts (l._turn-end - l._turn) l.rest
