-- The laws of the order of keys, each from its lemma.
use Rattle.plank_base.proofs.KeyOrder.{total_keys, transitive_keys, min_at_most, at_most_max, same_numbers}
use Rattle.plank_base.proofs.laws.key_laws.Goals as goal

pub returns-clause-total : goal.returns-clause-total
returns-clause-total c = λ a b. total_keys a b

pub returns-clause-transitive : goal.returns-clause-transitive
returns-clause-transitive c = λ x y z p q. transitive_keys x y z p q

pub returns-clause-ends : goal.returns-clause-ends
returns-clause-ends c = λ a. (min_at_most a, at_most_max a)

pub returns-clause-numbers : goal.returns-clause-numbers
returns-clause-numbers c = λ x y p q. same_numbers x y p q
