use Rattle.std.proofs.Common.{◌≡◌, true}
use Rattle.plank_lawful.specs.Asked.{all_below}
use Rattle.plank_whole.specs.Wholes.{frame_of, shown}
use Rattle.plank_whole.specs.Ranks.{row_is_ranked}
use Rattle.plank_whole.proofs.wholes.Picture.order_is_ranked.Given as goal

-- the rows of the terms below are ranked
abbrev pub invariant-loop-left : goal.invariant-loop-left
invariant-loop-left l = all_below (row_is_ranked (frame_of l.self) (shown l.self) l.ranks) l.left ≡ true
