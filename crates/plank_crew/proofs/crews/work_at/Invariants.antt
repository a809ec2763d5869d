-- The ledger is the blank's own.
use Rattle.plank_crew.proofs.crews.work_at.Given as goal

abbrev pub ghosts-work_counted : goal.ghosts-work_counted
ghosts-work_counted g a = record { name = a.blank.name; parts = a.blank.parts }
