-- The laws of the start heap, each from its lemma.
use Rattle.plank_heap.proofs.Starts.{start_closed, start_value, start_walk_end, start_contains}
use Rattle.plank_heap.proofs.laws.start_laws.Goals as goal

pub returns-clause-closed : goal.returns-clause-closed
returns-clause-closed c = λ h lawful. start_closed h lawful

pub returns-clause-condition : goal.returns-clause-condition
returns-clause-condition c = λ h lawful i j x node visited d read. start_value h lawful i j x node visited d read

pub returns-clause-end : goal.returns-clause-end
returns-clause-end c = λ h lawful i j. start_walk_end h lawful i j

pub returns-clause-set : goal.returns-clause-set
returns-clause-set c = λ h lawful i j. start_contains h lawful i j
