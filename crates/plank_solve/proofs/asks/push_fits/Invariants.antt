use Rattle.std.proofs.Common.{◌≡◌, ◌++◌}
use Rattle.plank_lawful.specs.Lists.{joined}
use Rattle.plank_solve.specs.Lists.{fits_at}
use Rattle.plank_solve.proofs.asks.push_fits.Given as goal

-- the asks so far
abbrev pub invariant-loop-name : goal.invariant-loop-name
invariant-loop-name l = l.asks.items ≡ l.fn.asks.items ++ joined fits_at l.name
