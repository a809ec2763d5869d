-- The test of a bit by a mask of one bit.
use Rattle.plank_bits.proofs.WordLemmas.{is_set-test}
use Rattle.plank_bits.proofs.words.bit_is_set.Goals as goal

pub returns : goal.returns
returns c = is_set-test c.args.word c.args.k c.requires
