use Rattle.std.proofs.Common.{◌≡◌, ◌++◌, drop}
use Rattle.std.specs.List.{flat_map}
use Rattle.plank_rules.specs.StatementRules.{write_names}
use Rattle.plank_rules.proofs.block_names.push_writes.Given as goal

-- the names so far, with those of the parts that are left, are those of all parts
abbrev pub invariant-loop-write : goal.invariant-loop-write
invariant-loop-write l =
    l.names.items ++ flat_map write_names (drop l.write-index l.writes) ≡ l.fn.names.items ++ flat_map write_names l.writes
