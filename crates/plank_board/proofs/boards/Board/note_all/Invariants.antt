-- The settled words so far are noted.
use Rattle.std.proofs.Common.{◌≡◌}
use Rattle.plank_board.specs.Plays.{IsReady}
use Rattle.plank_board.specs.Loops.{AreNoted}
use Rattle.plank_board.proofs.boards.Board.note_all.Given as goal

abbrev pub invariant-loop-m : goal.invariant-loop-m
invariant-loop-m g l = record {
  ready : IsReady g.N.Named.methods g.N.Named.words g.N.Named.forces l.self.table l.place;
  loaded : AreNoted g.N.Named.methods g.N.Named.words g.N.Named.forces l.initial.place.me.0 l.place.me.0 l.m;
  noted : l.noted ≡ l.place.me.0.noted;
}
