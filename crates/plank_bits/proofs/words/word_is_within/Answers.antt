-- The test that no bit is missing.
use Rattle.std.proofs.Common.{arith}
use Rattle.plank_bits.proofs.WordLemmas.{without-is_within}
use Rattle.plank_bits.proofs.words.word_is_within.Goals as goal

pub returns : goal.returns
returns c = without-is_within c.args.word c.args.other (omega arith) (omega arith)
