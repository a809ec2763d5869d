-- No member from the start to this word.
use Rattle.std.proofs.Common.{◌≡◌, ℕ, ◌*◌, ◌<◌, ◌≤◌, false}
use Rattle.plank_bits.specs.Words.{has}
use Rattle.plank_bits.proofs.words.next_from.Given as goal

abbrev pub invariant-loop-at : goal.invariant-loop-at
invariant-loop-at l = (k : ℕ) → l.i ≤ k → k < 64 * l.at → has l.words k ≡ false
