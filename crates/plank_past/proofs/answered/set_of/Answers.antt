use Rattle.std.proofs.Common.{◌≡◌, ◌∙◌, sym, ap, false, get_or, arith, length}
use Rattle.std.specs.Prelude.{◌&&◌, ◌||◌, ◌==◌, nat_lt}
use Rattle.plank_past.specs.Answered.{is_on}
use Rattle.plank_past.proofs.Numbers.{on_more, all_on, on_there}
use Rattle.plank_past.proofs.answered.set_of.Goals as goal

pub loop-number-preserved : goal.loop-number-preserved
loop-number-preserved c = λ k.
    c.with_if-set.ensures k ∙ ap (λ b. b || (get_or c.args.answers.now c.loop-number.number false && (k == c.loop-number.number))) (c.loop-number.invariant k)
    ∙ sym (on_more c.args.answers.now k c.loop-number.number (get_or c.args.answers.now c.loop-number.number false) (on_there c.args.answers.now c.loop-number.number (let below = c.loop-number-test.true in omega arith)))

pub returns : goal.returns
returns c = λ k.
    let same : c.loop-number.number ≡ length c.args.answers.now = (let ends = c.loop-number.auto.number-end in let past = c.loop-number-test.false in omega arith) in
    c.loop-number.invariant k ∙ ap (λ n. nat_lt k n && is_on c.args.answers.now k) same ∙ all_on c.args.answers.now k
