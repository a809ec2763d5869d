use Rattle.std.proofs.Common.{[], ◌∙◌, ap}
use Rattle.plank_bits.specs.Words.{has}
use Rattle.plank_claim.proofs.Added.{none_listed, one_listed}
use Rattle.plank_follow.specs.Literals.{kept_lasting, lasting_at}
use Rattle.plank_follow.proofs.literals.lasting.Goals as goal

pub loop-number-init : goal.loop-number-init
loop-number-init c = c.new-literals.ensures.items ∙ none_listed (lasting_at c.args.program.now.header c.args.program.now.methods c.args.method (has c.args.set.now)) []

pub loop-number-preserved : goal.loop-number-preserved
loop-number-preserved c =
    one_listed (lasting_at c.args.program.now.header c.args.program.now.methods c.args.method (has c.args.set.now)) c.loop-number.number [] c.loop-number.literals.items c.push.new.literals.items c.kept_lasting.result
    c.loop-number.invariant (c.kept_lasting.ensures ∙ ap kept_lasting c.now_at-present.ensures) c.in_ok-push.ensures
