-- Both have looked.
use Rattle.plank_crew_tests.specs.Players.{HasLook}
use Rattle.plank_crew_tests.proofs.seats.take_turns.Given as goal

abbrev pub invariant-loop-by_first : goal.invariant-loop-by_first
invariant-loop-by_first g l = record {
  a : HasLook l.board.table g.N.Named.words l.a.seat l.a.look;
  b : HasLook l.board.table g.N.Named.words l.b.seat l.b.look;
}
