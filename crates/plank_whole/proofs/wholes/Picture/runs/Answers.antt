-- A whole picture has nothing open.
use Rattle.std.proofs.Common.{◌∙◌}
use Rattle.plank_pic.specs.Blocks.{runs}
use Rattle.plank_whole.specs.Wholes.{frame_of, shown}
use Rattle.plank_whole.proofs.Sure.{sure}
use Rattle.plank_whole.proofs.wholes.Picture.runs.Goals as goal

pub returns : goal.returns
returns g c = c.is_true.ensures ∙ sure (runs (frame_of c.args.self.now) (g.T.TakesTurn.turn c.args.turn.now) (shown c.args.self.now)) c.runs.result c.runs.ensures
