use Rattle.std.proofs.Common.{◌≡◌, ◌++◌, drop}
use Rattle.plank_type.specs.Operands.{binds_of}
use Rattle.plank_type.proofs.operands.binds_of.Given as goal

-- the binds so far and those that are left are all binds
abbrev pub invariant-loop-bind : goal.invariant-loop-bind
invariant-loop-bind l =
    l.out.items ++ binds_of l.names l.variables (drop l.bind-index l.binds) ≡ binds_of l.names l.variables l.binds
