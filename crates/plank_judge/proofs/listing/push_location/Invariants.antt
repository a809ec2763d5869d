use Rattle.std.specs.Prelude.{◌≡◌, ◌++◌, map, take}
use Rattle.plank_fact.specs.ObligationList.{obligation_at}
use Rattle.plank_judge.proofs.listing.push_location.Given as goal

abbrev pub invariant-loop-demand : goal.invariant-loop-demand
invariant-loop-demand l = l.list.items ≡ l.initial.list.items ++ map (obligation_at l.method l.number l.location) (take l.demand-index l.demand-items)
