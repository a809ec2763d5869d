use Rattle.std.proofs.Common.{◌≡◌, ◌++◌, drop, map}
use Rattle.plank_rules.specs.StatementRules.{written_field}
use Rattle.plank_rules.proofs.blocks.written_fields.Given as goal

-- the names so far, with those of the parts that are left, are those of all parts
abbrev pub invariant-loop-write : goal.invariant-loop-write
invariant-loop-write l =
    l.fields.items ++ map written_field (drop l.write-index l.writes) ≡ map written_field l.writes
