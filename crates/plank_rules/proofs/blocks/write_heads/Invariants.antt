use Rattle.std.proofs.Common.{◌≡◌, ◌++◌, drop}
use Rattle.std.specs.List.{flat_map}
use Rattle.plank_rules.specs.StatementRules.{write_heads}
use Rattle.plank_rules.proofs.blocks.write_heads.Given as goal

-- the names so far, with those of the parts that are left, are those of all parts
abbrev pub invariant-loop-write : goal.invariant-loop-write
invariant-loop-write l =
    l.heads.items ++ flat_map (write_heads l.header l.scope) (drop l.write-index l.writes) ≡ flat_map (write_heads l.header l.scope) l.writes
