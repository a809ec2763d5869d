-- A cell that does not say no.
use Rattle.std.proofs.Common.{sym, ◌∙◌, arith}
use Rattle.plank_lawful.proofs.Asked.{one_fails}
use Rattle.plank_whole.specs.Cells.{is_unsaid}
use Rattle.plank_whole.proofs.wholes.Picture.row_is_unsaid.Goals as goal

pub returns-then-not-is_unsaid : goal.returns-then-not-is_unsaid
returns-then-not-is_unsaid c =
    let w = c.args.self.now in
    sym (one_fails (is_unsaid w.said c.args.base) w.shape.names c.loop-step.step (omega arith) (sym c.is_unsaid.ensures ∙ c.if-not-is_unsaid.true))
