-- The ledger is the blank's own.
use Rattle.plank_crew_tests.proofs.pairs.post_own.Given as goal

abbrev pub ghosts-post_counted : goal.ghosts-post_counted
ghosts-post_counted g a = record { name = a.blank.name; parts = a.blank.parts }
