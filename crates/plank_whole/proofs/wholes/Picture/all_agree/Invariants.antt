use Rattle.std.proofs.Common.{◌≡◌, true}
use Rattle.plank_pic.specs.Blocks.{change_of}
use Rattle.plank_step.specs.Sources.{sources}
use Rattle.plank_lawful.specs.Asked.{all_below}
use Rattle.plank_whole.specs.Wholes.{frame_of, shown}
use Rattle.plank_whole.specs.Stepping.{coded_agrees}
use Rattle.plank_whole.proofs.wholes.Picture.all_agree.Given as goal

-- the parts of the codes below agree
abbrev pub invariant-loop-code : goal.invariant-loop-code
invariant-loop-code g l =
    all_below (coded_agrees (frame_of l.self) (change_of (g.T.TakesTurn.turn l.turn)) (sources (g.T.TakesTurn.turn l.turn) l.kept) (shown l.self) (shown l.after)) l.code ≡ true
