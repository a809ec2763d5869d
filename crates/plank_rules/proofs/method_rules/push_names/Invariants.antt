use Rattle.std.proofs.Common.{◌≡◌, ◌++◌, drop, map}
use Rattle.plank_rules.specs.Occurrences.{occurrence}
use Rattle.plank_rules.proofs.method_rules.push_names.Given as goal

-- the names so far, with those of the parts that are left, are those of all parts
abbrev pub invariant-loop-name : goal.invariant-loop-name
invariant-loop-name l =
    l.variables.items ++ map occurrence (drop l.name-index l.names) ≡ l.fn.variables.items ++ map occurrence l.names
