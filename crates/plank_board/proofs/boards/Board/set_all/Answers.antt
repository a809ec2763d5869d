-- One more word.
use Rattle.plank_board.proofs.boards.Board.set_all.Goals as goal

pub loop-i-preserved : goal.loop-i-preserved
loop-i-preserved g c = record {
  ready = c.set_word-grows.ensures.ready;
  set = c.set_word-grows.ensures.more c.args.place.now.me.0 c.loop-i.invariant.set;
  grows = c.set_word-grows.ensures.grows;
}
