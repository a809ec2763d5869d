-- The words so far are met.
use Rattle.std.proofs.Common.{◌&&◌}
use Rattle.plank_bits.proofs.SetLemmas.{AreCombinedBelow}
use Rattle.plank_bits.proofs.words.intersect.Given as goal

abbrev pub invariant-loop-i : goal.invariant-loop-i
invariant-loop-i l = AreCombinedBelow ◌&&◌ l.initial.words l.other l.words l.i
