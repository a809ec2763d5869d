-- The words so far are subtracted.
use Rattle.std.proofs.Common.{◌&&◌, not}
use Rattle.plank_bits.proofs.SetLemmas.{AreCombinedBelow}
use Rattle.plank_bits.proofs.words.subtract.Given as goal

abbrev pub invariant-loop-i : goal.invariant-loop-i
invariant-loop-i l = AreCombinedBelow (λ x y. x && not y) l.initial.words l.other l.words l.i
