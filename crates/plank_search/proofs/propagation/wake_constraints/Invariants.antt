-- The values so far follow from those at the start.
use Rattle.plank_search.specs.Meanings.{MeetsRules}
use Rattle.plank_search.specs.Assignments.{Narrows}
use Rattle.plank_search.proofs.propagation.wake_constraints.Given as goal

abbrev pub invariant-loop : goal.invariant-loop
invariant-loop g l = Narrows (MeetsRules (g.R.Rules.meaning l.rules) (g.R.Rules.constraint_count l.rules)) l.initial.values l.values
