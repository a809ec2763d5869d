use Rattle.std.proofs.Common.{◌==◌, ◌&&◌, ap}
use Rattle.plank_bits.specs.Words.{has}
use Rattle.plank_method.specs.Marks.{is_claimed}
use Rattle.plank_method.proofs.Growing.{none_yet, one_more}
use Rattle.plank_method.proofs.numbers.unmarked.Goals as goal

pub loop-number-init : goal.loop-number-init
loop-number-init c = λ k. none_yet (λ i. is_claimed (has c.args.facts.now) (has c.args.marks.now) c.args.first i && (k == i)) (has c.empty-set.result k) (c.empty-set.ensures k)

pub loop-number-preserved : goal.loop-number-preserved
loop-number-preserved c = λ k.
    let n = c.loop-number.number in
    one_more (λ i. is_claimed (has c.args.facts.now) (has c.args.marks.now) c.args.first i && (k == i)) n (has c.loop-number.set k) (has c.with_if-set.result k) (c.is_claimed-claimed.result && (k == n))
    (c.loop-number.invariant k) (ap (λ b. b && (k == n)) c.is_claimed-claimed.ensures) (c.with_if-set.ensures k)
