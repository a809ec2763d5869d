-- A whole picture has nothing open.
use Rattle.std.proofs.Common.{◌∙◌}
use Rattle.plank_pic.specs.Truths.{truth}
use Rattle.plank_whole.specs.Wholes.{shown}
use Rattle.plank_whole.proofs.Sure.{sure}
use Rattle.plank_whole.proofs.wholes.Picture.truth.Goals as goal

pub returns : goal.returns
returns g c = c.is_true.ensures ∙ sure (truth (shown c.args.self.now) (g.C.Calls.caller c.args.caller.now) c.args.literal) c.truth.result c.truth.ensures
