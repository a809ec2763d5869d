-- The rules so far are for so many methods and words.
use Rattle.std.proofs.Common.{◌≡◌}
use Rattle.plank_crew_tests.proofs.shapes.staircase.Given as goal

abbrev pub invariant-loop-mark : goal.invariant-loop-mark
invariant-loop-mark l = (l.table.methods ≡ 1) × (l.table.words ≡ 1)
