-- The words so far are loaded, and both lists have them.
use Rattle.std.proofs.Common.{◌≡◌, ℕ, ◌<◌, length, slice_index}
use Rattle.plank_board.specs.Plays.{IsReady}
use Rattle.plank_board.specs.Loops.{AreLoaded}
use Rattle.plank_board.proofs.boards.Board.load_all.Given as goal

abbrev pub invariant-loop-i : goal.invariant-loop-i
invariant-loop-i g l = record {
  ready : IsReady g.N.Named.methods g.N.Named.words g.N.Named.forces l.self.table l.place;
  loaded : AreLoaded g.N.Named.methods g.N.Named.words g.N.Named.forces l.initial.place.me.0 l.place.me.0 l.i;
  look : l.look ≡ l.place.me.0.look;
  size : length l.into ≡ g.N.Named.words;
  into : (j : ℕ) → j < l.i → slice_index l.into j ≡ slice_index l.look j;
}
