-- A row with more numbers, or as it was.
use Rattle.std.proofs.Common.{sym, ◌∙◌}
use Rattle.plank_order.proofs.RowLemmas.{is_set-or, with_more}
use Rattle.plank_order.proofs.rows.row_with.Goals as goal

pub returns-then-bit_is_set : goal.returns-then-bit_is_set
returns-then-bit_is_set c = λ y. is_set-or c.args.row c.args.more y ∙ with_more _ _ _ (sym c.if-bit_is_set.ensures)
