-- The values so far follow from those at the start.
use Rattle.plank_search.specs.Meanings.{MeetsClauses}
use Rattle.plank_search.specs.Assignments.{Narrows}
use Rattle.plank_search.proofs.propagation.look_at_clauses.Given as goal

abbrev pub invariant-loop-clause : goal.invariant-loop-clause
invariant-loop-clause l = Narrows (MeetsClauses l.clauses) l.initial.values l.values
