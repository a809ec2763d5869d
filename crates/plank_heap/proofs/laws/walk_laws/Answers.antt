-- The laws of walks, each from its lemma.
use Rattle.plank_base.proofs.PathCounts.{meets_decides, end_decides, endless_decides}
use Rattle.plank_heap.proofs.Walking.{walk_undefined, contains_decides}
use Rattle.plank_heap.proofs.laws.walk_laws.Goals as goal

pub returns-clause-visits : goal.returns-clause-visits
returns-clause-visits c = λ h heap j x. meets_decides heap.root.0 x (walk_undefined h heap j)

pub returns-clause-ends : goal.returns-clause-ends
returns-clause-ends c = λ h heap j y. end_decides heap.root.0 y (walk_undefined h heap j)

pub returns-clause-never : goal.returns-clause-never
returns-clause-never c = λ h heap j. endless_decides heap.root.0 (walk_undefined h heap j)

pub returns-clause-set : goal.returns-clause-set
returns-clause-set c = λ h heap j. contains_decides h heap j
