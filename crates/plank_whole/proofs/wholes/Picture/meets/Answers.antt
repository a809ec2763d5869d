-- A whole picture has nothing open.
use Rattle.std.proofs.Common.{◌∙◌}
use Rattle.plank_whole.specs.Judging.{meets}
use Rattle.plank_whole.proofs.Sure.{sure}
use Rattle.plank_whole.proofs.wholes.Picture.meets.Goals as goal

pub returns : goal.returns
returns c = c.is_true.ensures ∙ sure (meets c.args.self.now c.args.rule) c.holds.result c.holds.ensures
