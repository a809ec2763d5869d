use Rattle.std.proofs.Common.{◌≡◌, ◌≤◌, ◌+◌, drop}
use Rattle.std.specs.Prelude.{sum_by}
use Rattle.plank_type.specs.Limits.{told, text_size}
use Rattle.plank_type.specs.Methods.{method_size}
use Rattle.plank_type.proofs.limits.text_size.Given as goal

-- the size so far and that of the methods that are left make the whole
abbrev pub invariant-loop-method : goal.invariant-loop-method
invariant-loop-method l = record {
  whole : told (l.size + sum_by method_size (drop l.method-index l.method-items)) ≡ told (text_size l.text);
  fits : l.size ≤ 4294967295;
}
