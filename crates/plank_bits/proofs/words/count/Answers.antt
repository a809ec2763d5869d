-- One more word adds its bits.
use Rattle.std.proofs.Common.{sym, ap, ◌∙◌, arith, slice_index, count_ones, ◌+◌, ◌*◌}
use Rattle.std.proofs.lemmas.Nat.{ones-le}
use Rattle.plank_bits.specs.Words.{has}
use Rattle.plank_bits.proofs.SetLemmas.{count_below-none, count_below-le, count_below_word}
use Rattle.plank_bits.proofs.words.count.Goals as goal

pub loop-word-init : goal.loop-word-init
loop-word-init c = sym (count_below-none _)

pub overflow_add-total : goal.overflow_add-total
overflow_add-total c =
    let so_far = count_below-le (has c.args.words.now) (64 * c.loop-word.word-index) in
    let ones = ones-le 64 (slice_index c.args.words.now c.loop-word.word-index) (c.type_inv.words c.loop-word.word-index).fits in
    omega arith

pub loop-word-preserved : goal.loop-word-preserved
loop-word-preserved c =
    let word = count_below_word c.args.words.now c.loop-word.word-index (c.type_inv.words c.loop-word.word-index).fits in
    ap (λ n. n + count_ones (slice_index c.args.words.now c.loop-word.word-index)) c.loop-word.invariant ∙ sym word
