-- Rules that ask nothing hold.
use Rattle.std.proofs.Common.{sym, ◌∙◌}
use Rattle.plank_whole.proofs.Idle.{idle_meets}
use Rattle.plank_whole.proofs.wholes.Picture.meets_by_row.Goals as goal

pub returns-then-is_idle : goal.returns-then-is_idle
returns-then-is_idle c = sym (idle_meets c.args.self.now c.args.first c.args.second c.args.family c.args.row c.requires.row (sym c.is_idle.ensures ∙ c.if-is_idle.true))
