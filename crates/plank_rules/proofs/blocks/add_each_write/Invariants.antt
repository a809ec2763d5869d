use Rattle.std.proofs.Common.{◌≡◌, drop}
use Rattle.std.specs.List.{flat_map}
use Rattle.plank_rules.specs.StatementRules.{write_rules}
use Rattle.plank_rules.specs.Faults.{after}
use Rattle.plank_rules.proofs.blocks.add_each_write.Given as goal

-- the broken rules so far, with those of the parts that are left, are those of all parts
abbrev pub invariant-loop-write : goal.invariant-loop-write
invariant-loop-write l =
    after l.found.first (flat_map (write_rules l.header l.scope) (drop l.write-index l.writes))
    ≡ after l.fn.found.first (flat_map (write_rules l.header l.scope) l.writes)
