-- The marks of the words so far are set.
use Rattle.std.proofs.Common.{◌≡◌}
use Rattle.plank_board.specs.Plays.{IsReady}
use Rattle.plank_board.specs.Loops.{AreSet}
use Rattle.plank_board.proofs.boards.Board.set_all.Given as goal

abbrev pub invariant-loop-i : goal.invariant-loop-i
invariant-loop-i g l = record {
  ready : IsReady g.N.Named.methods g.N.Named.words g.N.Named.forces l.self.table l.place;
  set : AreSet g.N.Named.methods g.N.Named.words g.N.Named.forces l.found l.initial.place.me.0 l.place.me.0 l.i;
  grows : l.grows ≡ l.place.me.0.grows;
}
