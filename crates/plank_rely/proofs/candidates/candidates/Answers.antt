use Rattle.plank_bits.specs.Words.{has}
use Rattle.plank_rely.specs.Candidates.{candidate}
use Rattle.std.proofs.Common.{[], ◌∙◌}
use Rattle.plank_claim.proofs.Added.{none_listed, one_listed}
use Rattle.plank_rely.proofs.candidates.candidates.Goals as goal

pub loop-number-init : goal.loop-number-init
loop-number-init c = c.new-numbers.ensures.items ∙ none_listed (candidate c.args.program.now.header c.args.program.now.methods c.args.method (has c.args.wanted.now)) []

pub loop-number-preserved : goal.loop-number-preserved
loop-number-preserved c =
    one_listed (candidate c.args.program.now.header c.args.program.now.methods c.args.method (has c.args.wanted.now)) c.loop-number.number [] c.loop-number.numbers.items c.push.new.numbers.items c.candidate.result
    c.loop-number.invariant c.candidate.ensures c.in_ok-push.ensures
