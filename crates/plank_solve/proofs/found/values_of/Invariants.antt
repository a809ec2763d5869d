use Rattle.std.proofs.Common.{◌≡◌, ◌++◌, map, drop, Some}
use Rattle.plank_solve.proofs.found.values_of.Given as goal

-- the values so far and those of what is left are all
abbrev pub invariant-loop-value : goal.invariant-loop-value
invariant-loop-value l = l.given.items ++ map Some (drop l.value-index l.found) ≡ map Some l.found
