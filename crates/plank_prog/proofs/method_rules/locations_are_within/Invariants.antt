use Rattle.std.proofs.Common.{◌≡◌, drop}
use Rattle.std.specs.Prelude.{nat_le, sum_by}
use Rattle.plank_prog.specs.Methods.{location_count}
use Rattle.plank_prog.proofs.method_rules.locations_are_within.Given as goal

abbrev pub invariant-loop-method : goal.invariant-loop-method
invariant-loop-method l =
    nat_le (sum_by location_count (drop l.method-index l.methods)) l.left ≡ nat_le (sum_by location_count l.methods) l.limit
