-- A row that does not say no.
use Rattle.std.proofs.Common.{sym, ◌∙◌, ◌+◌, ◌*◌, arith}
use Rattle.plank_lawful.proofs.Asked.{one_fails}
use Rattle.plank_whole.specs.Cells.{row_is_unsaid}
use Rattle.plank_whole.proofs.wholes.Picture.are_unsaid.Goals as goal

pub returns-then-not-row_is_unsaid : goal.returns-then-not-row_is_unsaid
returns-then-not-row_is_unsaid c =
    let w = c.args.self.now in
    sym (one_fails (λ i. row_is_unsaid w.said w.shape.names (c.args.base + 32 * i)) w.shape.names c.loop-row.row (omega arith)
    (sym c.row_is_unsaid.ensures ∙ c.if-not-row_is_unsaid.true))
