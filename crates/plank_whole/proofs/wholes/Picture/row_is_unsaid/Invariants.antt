use Rattle.std.proofs.Common.{◌≡◌, true}
use Rattle.plank_lawful.specs.Asked.{all_below}
use Rattle.plank_whole.specs.Cells.{is_unsaid}
use Rattle.plank_whole.proofs.wholes.Picture.row_is_unsaid.Given as goal

-- the cells below say no
abbrev pub invariant-loop-step : goal.invariant-loop-step
invariant-loop-step l = all_below (is_unsaid l.self.said l.base) l.step ≡ true
