use Rattle.std.proofs.Common.{◌≡◌, ◌++◌, drop}
use Rattle.std.specs.List.{flat_map}
use Rattle.plank_rules.specs.StatementRules.{bind_names}
use Rattle.plank_rules.proofs.block_names.push_binds.Given as goal

-- the names so far, with those of the parts that are left, are those of all parts
abbrev pub invariant-loop-bind : goal.invariant-loop-bind
invariant-loop-bind l =
    l.names.items ++ flat_map bind_names (drop l.bind-index l.binds) ≡ l.fn.names.items ++ flat_map bind_names l.binds
