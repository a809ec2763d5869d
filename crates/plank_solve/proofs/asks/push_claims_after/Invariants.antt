use Rattle.std.proofs.Common.{◌≡◌, ◌++◌, map, drop}
use Rattle.plank_solve.specs.declared.asks.Ask.{Ask}
use Rattle.plank_solve.proofs.asks.push_claims_after.Given as goal

-- the asks so far and those of what is left are all
abbrev pub invariant-loop-claim : goal.invariant-loop-claim
invariant-loop-claim l = l.asks.items ++ map Ask.After (drop l.claim-index l.claims) ≡ l.fn.asks.items ++ map Ask.After l.claims
