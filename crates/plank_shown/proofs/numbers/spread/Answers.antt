use Rattle.std.proofs.Common.{refl, get_or, ap, ◌∙◌, ◌*◌}
use Rattle.std.specs.Prelude.{◌||◌, ◌&&◌, ◌==◌, nat_lt}
use Rattle.plank_base.specs.declared.limits.TheConstants.{MARK_WORDS_PER_LOCATION}
use Rattle.plank_bits.specs.Words.{has}
use Rattle.plank_shown.specs.Numbers.{is_at}
use Rattle.plank_method.proofs.Growing.{none_more, one_more_put}
use Rattle.plank_shown.proofs.numbers.spread.Goals as goal

pub loop-place-init : goal.loop-place-init
loop-place-init c = λ k. none_more (is_at c.args.numbers.now (has c.args.places.now) k) (has c.args.set.now k)

pub loop-place-preserved : goal.loop-place-preserved
loop-place-preserved c = λ k.
    let i = c.loop-place.place in
    one_more_put (is_at c.args.numbers.now (has c.args.places.now) k) i (has c.args.set.now k) (has c.loop-place.all k) (has c.with_number-all.result k) (is_at c.args.numbers.now (has c.args.places.now) k i)
    (c.loop-place.invariant k) refl
    (c.with_number-all.ensures k ∙ ap (λ b. has c.loop-place.all k || (b && nat_lt (get_or c.args.numbers.now i 0) (64 * MARK_WORDS_PER_LOCATION) && (k == get_or c.args.numbers.now i 0))) c.has.ensures.value)
