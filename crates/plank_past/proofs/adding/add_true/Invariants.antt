use Rattle.std.proofs.Common.{◌≡◌, ◌++◌, map, drop}
use Rattle.plank_past.specs.Adding.{own_claim}
use Rattle.plank_past.proofs.adding.add_true.Given as goal

-- the claims so far and those of what is left make all
abbrev pub invariant-loop-literal : goal.invariant-loop-literal
invariant-loop-literal l = l.claims.items ++ map own_claim (drop l.literal-index l.literals) ≡ l.initial.claims.items ++ map own_claim l.literals
