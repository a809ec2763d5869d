-- The cell of the order of two terms.
use Rattle.std.proofs.Common.{◌∙◌}
use Rattle.plank_whole.proofs.Ordered.{shown_by}
use Rattle.plank_whole.proofs.wholes.Picture.is_at_most.Goals as goal

pub returns : goal.returns
returns c =
    c.is_said.ensures
    ∙ shown_by c.args.self.now c.args.left c.args.right c.order_column-row.result c.order_column-column.result c.requires.left c.requires.right
    c.order_column-row.ensures.number c.order_column-column.ensures.number
