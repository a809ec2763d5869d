use Rattle.std.proofs.Common.{◌≡◌, ◌++◌, drop, map}
use Rattle.plank_rules.specs.BrokenRules.{method_occurrence}
use Rattle.plank_rules.proofs.text_rules.push_methods.Given as goal

-- the names so far, with those of the parts that are left, are those of all parts
abbrev pub invariant-loop-method : goal.invariant-loop-method
invariant-loop-method l =
    l.names.items ++ map method_occurrence (drop l.method-index l.methods) ≡ l.fn.names.items ++ map method_occurrence l.methods
