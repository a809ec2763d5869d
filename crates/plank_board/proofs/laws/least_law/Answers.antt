-- The law, from the rule.
use Rattle.plank_board.proofs.Keeps.{run_keeps}
use Rattle.plank_board.proofs.Ends.{left_is_least, left_are_still}
use Rattle.plank_board.proofs.laws.least_law.Goals as goal

pub returns-clause-least : goal.returns-clause-least
returns-clause-least g c = λ seats words views few run left.
    let N = g.N.Named in
    left_is_least N.methods N.words N.forces N.still seats words views (run_keeps N.methods N.words N.forces N.still N.monotone seats words views few run) N.closing left

pub returns-clause-still : goal.returns-clause-still
returns-clause-still g c = λ seats words views few run left.
    let N = g.N.Named in
    left_are_still N.methods N.words N.forces N.still seats words views (run_keeps N.methods N.words N.forces N.still N.monotone seats words views few run) left
