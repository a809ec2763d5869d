-- The marks keep their length.
use Rattle.std.proofs.Common.{◌≡◌, length}
use Rattle.plank_crew_tests.proofs.crews.round.Given as goal

abbrev pub invariant-loop-m : goal.invariant-loop-m
invariant-loop-m g l = length l.marks ≡ g.F.Forcing.word_count l.forcing
