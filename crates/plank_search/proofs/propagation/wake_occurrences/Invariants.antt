-- The values so far follow from those at the start.
use Rattle.plank_search.specs.Meanings.{MeetsClauses}
use Rattle.plank_search.specs.Assignments.{Narrows}
use Rattle.plank_search.proofs.propagation.wake_occurrences.Given as goal

abbrev pub invariant-loop : goal.invariant-loop
invariant-loop l = Narrows (MeetsClauses l.clauses) l.initial.values l.values
