use Rattle.std.proofs.Common.{◌≡◌, [], ◌∙◌, ◌*◌, ap, arith}
use Rattle.plank_base.specs.declared.limits.TheConstants.{MARK_WORDS_PER_LOCATION}
use Rattle.plank_bits.specs.Words.{has}
use Rattle.plank_claim.specs.Claims.{listed_below}
use Rattle.plank_claim.proofs.Added.{none_listed, one_listed}
use Rattle.plank_shown.specs.Numbers.{picked}
use Rattle.plank_shown.proofs.Lists.{few_numbers}
use Rattle.plank_shown.proofs.numbers.listed.Goals as goal

pub loop-number-init : goal.loop-number-init
loop-number-init c = c.new-numbers.ensures.items ∙ none_listed (picked (has c.args.set.now)) []

pub loop-number-preserved : goal.loop-number-preserved
loop-number-preserved c =
    one_listed (picked (has c.args.set.now)) c.loop-number.number [] c.loop-number.numbers.items c.push.new.numbers.items c.picked.result c.loop-number.invariant c.picked.ensures c.in_ok-push.ensures

pub returns-clause-few : goal.returns-clause-few
returns-clause-few c =
    let near = c.loop-number.auto.number-end in
    let far = c.loop-number-test.false in
    let all : c.loop-number.number ≡ 64 * MARK_WORDS_PER_LOCATION = omega arith in
    few_numbers (has c.args.set.now) (64 * MARK_WORDS_PER_LOCATION) c.loop-number.numbers.items (c.loop-number.invariant ∙ ap (λ n. listed_below (picked (has c.args.set.now)) n) all)
