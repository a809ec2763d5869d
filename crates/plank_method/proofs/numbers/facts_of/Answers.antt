use Rattle.std.proofs.Common.{◌==◌, ◌&&◌, ap, ◌∙◌}
use Rattle.std.specs.Prelude.{is_some}
use Rattle.plank_bits.specs.Words.{has}
use Rattle.plank_fact.specs.Tables.{fact_at}
use Rattle.plank_method.proofs.Growing.{none_yet, one_more}
use Rattle.plank_method.proofs.numbers.facts_of.Goals as goal

pub loop-number-init : goal.loop-number-init
loop-number-init c = λ k. none_yet (λ i. is_some (fact_at c.args.program.now.header c.args.program.now.methods c.args.method i) && (k == i)) (has c.empty-set.result k) (c.empty-set.ensures k)

pub loop-number-preserved : goal.loop-number-preserved
loop-number-preserved c = λ k.
    let n = c.loop-number.number in
    one_more (λ i. is_some (fact_at c.args.program.now.header c.args.program.now.methods c.args.method i) && (k == i)) n (has c.loop-number.set k) (has c.with_if-set.result k) (c.is_some-there.result && (k == n))
    (c.loop-number.invariant k) (ap (λ b. b && (k == n)) (c.is_some-there.ensures ∙ ap (λ o. is_some o) c.fact.ensures)) (c.with_if-set.ensures k)
