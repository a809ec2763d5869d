use Rattle.std.proofs.Common.{◌≡◌, ◌+◌, drop}
use Rattle.std.specs.Prelude.{sum_by}
use Rattle.plank_prog.specs.Methods.{site_count}
use Rattle.plank_type.specs.Limits.{told}
use Rattle.plank_type.proofs.lowering.sites_excess.Given as goal

-- the sites so far and those of the methods that are left make the whole
abbrev pub invariant-loop-method : goal.invariant-loop-method
invariant-loop-method l = told (l.count + sum_by site_count (drop l.method-index l.methods)) ≡ told (sum_by site_count l.methods)
