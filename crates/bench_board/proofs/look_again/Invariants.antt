-- The seat is of the board, and the words have their length.
use Rattle.std.proofs.Common.{◌≡◌, length}
use Rattle.bench_board.proofs.look_again.Given as goal

abbrev pub invariant-loop-turn : goal.invariant-loop-turn
invariant-loop-turn g l = (l.seat.table ≡ l.board.table) × (length l.look ≡ g.N.Named.words)
