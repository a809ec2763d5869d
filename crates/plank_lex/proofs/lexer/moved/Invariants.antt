-- The place is the one after the bytes so far.
use Rattle.std.proofs.Common.{◌≡◌, take}
use Rattle.plank_lex.specs.Places.{place_after}
use Rattle.plank_lex.proofs.lexer.moved.Given as goal

abbrev pub invariant-loop-byte : goal.invariant-loop-byte
invariant-loop-byte l = l.at ≡ place_after l.fn.place (take l.byte-index l.bytes)
