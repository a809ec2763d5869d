use Rattle.std.proofs.Common.{◌≡◌, true}
use Rattle.plank_lawful.specs.Asked.{all_below}
use Rattle.plank_whole.specs.Wholes.{frame_of, shown}
use Rattle.plank_whole.specs.Ranks.{is_ranked}
use Rattle.plank_whole.proofs.wholes.Picture.row_is_ranked.Given as goal

-- the terms below are ranked
abbrev pub invariant-loop-right : goal.invariant-loop-right
invariant-loop-right l = all_below (is_ranked (frame_of l.self) (shown l.self) l.ranks l.left) l.right ≡ true
