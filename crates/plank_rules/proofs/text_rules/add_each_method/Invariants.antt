use Rattle.std.proofs.Common.{◌≡◌, drop}
use Rattle.std.specs.List.{flat_map}
use Rattle.plank_rules.specs.MethodRules.{method_rules}
use Rattle.plank_rules.specs.Faults.{after}
use Rattle.plank_rules.proofs.text_rules.add_each_method.Given as goal

-- the broken rules so far, with those of the parts that are left, are those of all parts
abbrev pub invariant-loop-method : goal.invariant-loop-method
invariant-loop-method l =
    after l.found.first (flat_map (method_rules l.header) (drop l.method-index l.methods))
    ≡ after l.fn.found.first (flat_map (method_rules l.header) l.methods)
