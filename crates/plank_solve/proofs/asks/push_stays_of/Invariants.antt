use Rattle.std.proofs.Common.{◌≡◌, ◌++◌}
use Rattle.plank_lawful.specs.Lists.{joined}
use Rattle.plank_solve.specs.Lists.{stays_at}
use Rattle.plank_solve.proofs.asks.push_stays_of.Given as goal

-- the asks so far
abbrev pub invariant-loop-out : goal.invariant-loop-out
invariant-loop-out l = l.asks.items ≡ l.fn.asks.items ++ joined (stays_at l.name) l.out
