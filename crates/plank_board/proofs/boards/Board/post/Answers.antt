-- After the raise, all that was set is still seen.
use Rattle.plank_board.proofs.Loops.{all_seen}
use Rattle.plank_board.proofs.boards.Board.post.Goals as goal

pub returns-then-set_all-clause-seen : goal.returns-then-set_all-clause-seen
returns-then-set_all-clause-seen g c = λ k e.
    let N = g.N.Named in
    c.raise.ensures.made.further.marks k (all_seen N.methods N.words N.forces c.args.found.now _ _ c.requires.words c.set_all.ensures.set k e)
