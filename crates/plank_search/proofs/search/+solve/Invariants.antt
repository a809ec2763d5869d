-- The values so far follow from those at the start; each decision leaves fewer parts open.
use Rattle.plank_search.specs.Assignments.{Narrows, open_count}
use Rattle.plank_search.specs.Meanings.{Meets}
use Rattle.plank_search.proofs.search.+solve.Given as goal

abbrev pub invariant-decisions : goal.invariant-decisions
invariant-decisions g l = Narrows (Meets (g.R.Rules.meaning l.rules) (g.R.Rules.constraint_count l.rules) l.clauses) l.initial.values l.values

abbrev pub decreases-decisions : goal.decreases-decisions
decreases-decisions g l = open_count l.values

abbrev pub decreases-solve : goal.decreases-solve
decreases-solve g l = open_count l.values.now
