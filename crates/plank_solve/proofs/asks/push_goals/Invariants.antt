use Rattle.std.proofs.Common.{◌≡◌, ◌++◌}
use Rattle.plank_lawful.specs.Lists.{joined}
use Rattle.plank_solve.specs.Lists.{reaches_at}
use Rattle.plank_solve.proofs.asks.push_goals.Given as goal

-- the asks so far
abbrev pub invariant-loop-number : goal.invariant-loop-number
invariant-loop-number l = l.asks.items ≡ l.fn.asks.items ++ joined (reaches_at l.first l.goals) l.number
