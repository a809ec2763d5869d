use Rattle.std.proofs.Common.{◌≡◌, ◌++◌, drop}
use Rattle.plank_type.specs.Operands.{writes_of}
use Rattle.plank_type.proofs.operands.writes_of.Given as goal

-- the writes so far and those that are left are all writes
abbrev pub invariant-loop-write : goal.invariant-loop-write
invariant-loop-write l =
    l.out.items ++ writes_of l.names l.variables (drop l.write-index l.writes) ≡ writes_of l.names l.variables l.writes
