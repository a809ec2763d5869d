use Rattle.std.proofs.Common.{[], ◌∙◌}
use Rattle.plank_lawful.proofs.Joined.{joined_none, joined_more}
use Rattle.plank_solve.specs.Rulings.{open_at}
use Rattle.plank_solve.proofs.found.open_numbers.Goals as goal

pub loop-number-init : goal.loop-number-init
loop-number-init c = c.new-left.ensures.items ∙ joined_none [] (open_at c.args.first c.args.reached.now)

pub loop-number-preserved : goal.loop-number-preserved
loop-number-preserved c = c.in_ok-push_open.ensures ∙ joined_more c.loop-number.left.items [] (open_at c.args.first c.args.reached.now) c.loop-number.number c.loop-number.invariant
