-- The values so far follow from those at the start.
use Rattle.plank_search.specs.Meanings.{Meets}
use Rattle.plank_search.specs.Assignments.{Narrows}
use Rattle.plank_search.proofs.propagation.propagate_clauses.Given as goal

abbrev pub invariant-loop : goal.invariant-loop
invariant-loop g l = Narrows (Meets (g.R.Rules.meaning l.rules) (g.R.Rules.constraint_count l.rules) l.clauses) l.initial.values l.values
