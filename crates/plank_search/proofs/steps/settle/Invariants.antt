-- The values so far follow from those at the start; each turn leaves fewer parts open.
use Rattle.std.proofs.Common.{◌≡◌, true}
use Rattle.plank_search.specs.Assignments.{Narrows, open_count}
use Rattle.plank_search.proofs.steps.settle.Given as goal

abbrev pub invariant-turns : goal.invariant-turns
invariant-turns g l = Narrows (λ full. g.R.Rules.meaning l.rules l.constraint full ≡ true) l.initial.values l.values

abbrev pub decreases-turns : goal.decreases-turns
decreases-turns g l = open_count l.values
