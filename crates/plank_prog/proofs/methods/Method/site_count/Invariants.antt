use Rattle.std.proofs.Common.{◌≡◌, ◌≤◌, take}
use Rattle.std.specs.Prelude.{count_by}
use Rattle.plank_prog.specs.Methods.{is_site}
use Rattle.plank_prog.proofs.methods.Method.site_count.Given as goal

abbrev pub invariant-loop-location : goal.invariant-loop-location
invariant-loop-location l = record {
  few : l.count ≤ l.location-index;
  count : l.count ≡ count_by (λ x. is_site x.action) (take l.location-index l.location-items);
}
