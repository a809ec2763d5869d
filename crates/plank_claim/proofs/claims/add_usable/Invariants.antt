-- The claims of the names so far are added.
use Rattle.std.specs.Prelude.{◌≡◌, ◌++◌}
use Rattle.plank_claim.specs.Claims.{listed_below}
use Rattle.plank_claim.proofs.Added.{usable_at}
use Rattle.plank_claim.proofs.claims.add_usable.Given as goal

abbrev pub invariant-loop-name : goal.invariant-loop-name
invariant-loop-name l = l.claims.items ≡ l.initial.claims.items ++ listed_below usable_at l.name
