use Rattle.plank_search.proofs.Deciding.{decision_failed}
use Rattle.plank_search.proofs.Narrowing.{Narrows-then}
use Rattle.plank_search.proofs.search.+solve.Goals as goal

pub decisions-preserved : goal.decisions-preserved
decisions-preserved g t c =
    decision_failed _ c.args.values.now c.propagate.new.values c.decide.new.values c.put.new.self c.solve.new.values c.in_ok-saved.saved.items c.take_back.new.values
    c.in-Needs.part c.is_goal-value.result
    (Narrows-then c.decisions.invariant c.decisions-test.ensures) (rw c.in-Needs.is at c.in_ok-decide.ensures) c.put.ensures.written
    (rw c.if-branch.false at c.in_ok-solve.ensures) c.in_ok-saved.ensures c.take_back.ensures
