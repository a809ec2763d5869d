use Rattle.plank_query.specs.Situations.{turn_of_own}
use Rattle.plank_trans.proofs.Pairs.{AreMovesBelow}
use Rattle.plank_trans.proofs.moves.move_goals.Given as goal

abbrev pub invariant-loop-pair : goal.invariant-loop-pair
invariant-loop-pair l = AreMovesBelow (turn_of_own l.turn) l.names l.pair l.goals.items
