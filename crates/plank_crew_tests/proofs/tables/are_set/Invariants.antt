-- The marks so far are set.
use Rattle.plank_bits.specs.Words.{has}
use Rattle.plank_crew_tests.specs.Rules.{AreSet}
use Rattle.plank_crew_tests.proofs.tables.are_set.Given as goal

abbrev pub invariant-loop-mark : goal.invariant-loop-mark
invariant-loop-mark l = AreSet (has l.marks) l.from l.mark
