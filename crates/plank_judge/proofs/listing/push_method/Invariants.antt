use Rattle.std.specs.Prelude.{◌≡◌, ◌++◌, drop}
use Rattle.plank_fact.specs.ObligationList.{of_locations}
use Rattle.plank_judge.proofs.listing.push_method.Given as goal

abbrev pub invariant-loop-at : goal.invariant-loop-at
invariant-loop-at l =
    l.list.items ++ of_locations l.fn.method.kind l.number l.at (drop l.at l.fn.method.locations) ≡ l.initial.list.items ++ of_locations l.fn.method.kind l.number 0 l.fn.method.locations
