-- The members of the words so far.
use Rattle.std.proofs.Common.{◌≡◌, ◌*◌}
use Rattle.plank_bits.specs.Words.{has, count_below}
use Rattle.plank_bits.proofs.words.count.Given as goal

abbrev pub invariant-loop-word : goal.invariant-loop-word
invariant-loop-word l = l.total ≡ count_below (has l.words) (64 * l.word-index)
