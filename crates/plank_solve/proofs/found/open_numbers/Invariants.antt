use Rattle.std.proofs.Common.{◌≡◌}
use Rattle.plank_lawful.specs.Lists.{joined}
use Rattle.plank_solve.specs.Rulings.{open_at}
use Rattle.plank_solve.proofs.found.open_numbers.Given as goal

-- the numbers so far
abbrev pub invariant-loop-number : goal.invariant-loop-number
invariant-loop-number l = l.left.items ≡ joined (open_at l.first l.reached) l.number
