-- The ledger is the blank's own.
use Rattle.plank_crew_tests.proofs.crews.rounds_of.Given as goal

abbrev pub ghosts-rounds_counted : goal.ghosts-rounds_counted
ghosts-rounds_counted g a = record { name = a.blank.name; parts = a.blank.parts }
