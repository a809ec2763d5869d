-- The values so far follow from those at the start.
use Rattle.plank_search.specs.Assignments.{Narrows}
use Rattle.plank_search.specs.Meanings.{MeetsRules}
use Rattle.plank_search.specs.ExampleOrder.{order_row}
use Rattle.plank_search.proofs.tests.StrictOrderRules.apply.Given as goal

abbrev pub invariant-loop-term : goal.invariant-loop-term
invariant-loop-term l = Narrows (MeetsRules (λ row full. order_row row full) 1728) l.initial.values l.values
