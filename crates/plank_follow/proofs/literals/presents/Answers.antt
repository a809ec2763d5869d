use Rattle.std.proofs.Common.{[], ◌∙◌}
use Rattle.plank_bits.specs.Words.{has}
use Rattle.plank_claim.proofs.Added.{none_listed, one_listed}
use Rattle.plank_follow.specs.Literals.{now_at}
use Rattle.plank_follow.proofs.literals.presents.Goals as goal

pub loop-number-init : goal.loop-number-init
loop-number-init c = c.new-literals.ensures.items ∙ none_listed (now_at c.args.program.now.header c.args.program.now.methods c.args.method (has c.args.set.now)) []

pub loop-number-preserved : goal.loop-number-preserved
loop-number-preserved c =
    one_listed (now_at c.args.program.now.header c.args.program.now.methods c.args.method (has c.args.set.now)) c.loop-number.number [] c.loop-number.literals.items c.push.new.literals.items c.now_at.result
    c.loop-number.invariant c.now_at.ensures c.in_ok-push.ensures
