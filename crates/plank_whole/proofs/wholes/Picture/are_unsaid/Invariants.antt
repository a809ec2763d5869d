use Rattle.std.proofs.Common.{◌≡◌, ◌+◌, ◌*◌, true}
use Rattle.plank_lawful.specs.Asked.{all_below}
use Rattle.plank_whole.specs.Cells.{row_is_unsaid}
use Rattle.plank_whole.proofs.wholes.Picture.are_unsaid.Given as goal

-- the rows below say no
abbrev pub invariant-loop-row : goal.invariant-loop-row
invariant-loop-row l = all_below (λ i. row_is_unsaid l.self.said l.self.shape.names (l.base + 32 * i)) l.row ≡ true
