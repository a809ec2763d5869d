-- The test of a bit by a mask of one bit.
use Rattle.plank_order.proofs.RowLemmas.{is_set-test}
use Rattle.plank_order.proofs.rows.bit_is_set.Goals as goal

pub returns : goal.returns
returns c = is_set-test c.args.row c.args.b c.requires
