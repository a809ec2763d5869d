-- The laws of paths below a bound, each from its lemma.
use Rattle.plank_base.proofs.PathCounts.{endless_below, endless_from_undefined, meets_decides, end_decides, endless_decides}
use Rattle.plank_base.proofs.laws.bounded_path_laws.Goals as goal

pub returns-clause-endless : goal.returns-clause-endless
returns-clause-endless c = λ f n a d w h e. endless_below w h e

pub returns-clause-endless_past : goal.returns-clause-endless_past
returns-clause-endless_past c = λ f n a d u e. endless_from_undefined u e

pub returns-clause-met : goal.returns-clause-met
returns-clause-met c = λ f n a b u. meets_decides a b u

pub returns-clause-ends : goal.returns-clause-ends
returns-clause-ends c = λ f n a b u. end_decides a b u

pub returns-clause-no_end : goal.returns-clause-no_end
returns-clause-no_end c = λ f n a u. endless_decides a u
