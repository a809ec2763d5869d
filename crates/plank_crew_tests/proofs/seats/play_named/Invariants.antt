-- The ledger is the blank's own.
use Rattle.plank_crew_tests.proofs.seats.play_named.Given as goal

abbrev pub ghosts-play_both : goal.ghosts-play_both
ghosts-play_both g a = record { name = a.blank.name; parts = a.blank.parts }
