use Rattle.std.proofs.Common.{◌≡◌, ◌++◌}
use Rattle.plank_lawful.specs.Lists.{joined}
use Rattle.plank_solve.specs.Lists.{stays_of}
use Rattle.plank_solve.proofs.asks.push_stays.Given as goal

-- the asks so far
abbrev pub invariant-loop-name : goal.invariant-loop-name
invariant-loop-name l = l.asks.items ≡ l.fn.asks.items ++ joined (stays_of l.names) l.name
