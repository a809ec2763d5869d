-- The marks keep their length.
use Rattle.std.proofs.Common.{◌≡◌, length}
use Rattle.plank_crew_tests.proofs.crews.rounds.Given as goal

abbrev pub invariant-loop-turn : goal.invariant-loop-turn
invariant-loop-turn g l = length l.marks ≡ g.F.Forcing.word_count l.forcing
