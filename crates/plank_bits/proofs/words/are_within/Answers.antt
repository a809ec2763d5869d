-- One set is within another exactly where each word is.
use Rattle.std.proofs.Common.{arith, below_more, refl}
use Rattle.std.proofs.lemmas.Bool.{false≢true}
use Rattle.plank_bits.proofs.SetLemmas.{within_from_words, within_at_word}
use Rattle.plank_bits.proofs.words.are_within.Goals as goal

pub returns-then-not-word_is_within : goal.returns-then-not-word_is_within
returns-then-not-word_is_within c = (
  λ e. absurd (false≢true e),
  λ h. c.if-not-word_is_within.ensures.1 (within_at_word _ _ c.loop-i.i (c.type_inv.words c.loop-i.i).fits h),
)

pub loop-i-preserved : goal.loop-i-preserved
loop-i-preserved c = below_more _ _ c.loop-i.invariant (c.if-not-word_is_within.ensures.0 refl)

pub returns : goal.returns
returns c =
    (λ e. within_from_words _ _ c.requires (λ q l. c.loop-i.invariant q (omega arith)), λ h. refl)
