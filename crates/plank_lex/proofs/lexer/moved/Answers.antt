-- The next place fits, since no part of a place grows by more than the number of bytes.
use Rattle.std.proofs.Common.{arith}
use Rattle.plank_lex.proofs.PlaceLemmas.{place_after-take-within}
use Rattle.plank_lex.proofs.lexer.moved.Goals as goal

pub next_place-at-requires-clause-line : goal.next_place-at-requires-clause-line
next_place-at-requires-clause-line c =
    omega (arith, (place_after-take-within c.args.place c.loop-byte.at c.args.bytes.now c.loop-byte.byte-index c.loop-byte.invariant (omega arith)).line, c.requires.line)

pub next_place-at-requires-clause-column : goal.next_place-at-requires-clause-column
next_place-at-requires-clause-column c =
    omega (arith, (place_after-take-within c.args.place c.loop-byte.at c.args.bytes.now c.loop-byte.byte-index c.loop-byte.invariant (omega arith)).column, c.requires.column)

pub next_place-at-requires-clause-byte : goal.next_place-at-requires-clause-byte
next_place-at-requires-clause-byte c =
    omega (arith, (place_after-take-within c.args.place c.loop-byte.at c.args.bytes.now c.loop-byte.byte-index c.loop-byte.invariant (omega arith)).byte, c.requires.byte)
