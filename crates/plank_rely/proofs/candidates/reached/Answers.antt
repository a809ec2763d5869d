use Rattle.std.proofs.Common.{refl}
use Rattle.plank_bits.specs.Words.{has}
use Rattle.plank_rely.specs.Candidates.{is_reached}
use Rattle.plank_method.proofs.Growing.{none_yet, one_more}
use Rattle.plank_rely.proofs.candidates.reached.Goals as goal

pub loop-i-init : goal.loop-i-init
loop-i-init c = λ k. none_yet (is_reached c.args.numbers.now c.args.answers.now k) (has c.empty-set.result k) (c.empty-set.ensures k)

pub loop-i-preserved : goal.loop-i-preserved
loop-i-preserved c = λ k.
    let i = c.loop-i.i in
    one_more (is_reached c.args.numbers.now c.args.answers.now k) i (has c.loop-i.set k) (has c.with_number-set.result k) (is_reached c.args.numbers.now c.args.answers.now k i)
    (c.loop-i.invariant k) refl (c.with_number-set.ensures k)
