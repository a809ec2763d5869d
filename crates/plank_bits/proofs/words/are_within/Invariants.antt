-- Each word so far is within the other's.
use Rattle.std.proofs.Common.{ℕ, ◌<◌, get_or}
use Rattle.plank_bits.specs.Words.{is_set, IsWithin}
use Rattle.plank_bits.proofs.words.are_within.Given as goal

abbrev pub invariant-loop-i : goal.invariant-loop-i
invariant-loop-i l = (q : ℕ) → q < l.i → IsWithin (is_set (get_or l.words q 0)) (is_set (get_or l.other q 0))
