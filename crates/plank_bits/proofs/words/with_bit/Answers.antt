-- The word with one more bit.
use Rattle.plank_bits.proofs.WordLemmas.{is_set-with}
use Rattle.plank_bits.proofs.words.with_bit.Goals as goal

pub returns : goal.returns
returns c = λ i. is_set-with c.args.word c.args.k i c.requires
