-- The literals of the goals so far.
use Rattle.std.proofs.Common.{◌≡◌, take}
use Rattle.plank_search.specs.Meanings.{goal_clause}
use Rattle.plank_search.proofs.clauses.goal_literals.Given as goal

abbrev pub invariant-loop-goal : goal.invariant-loop-goal
invariant-loop-goal l = l.literals.items ≡ goal_clause (take l.goal-index l.goals)
