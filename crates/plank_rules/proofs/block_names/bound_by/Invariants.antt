use Rattle.std.proofs.Common.{◌≡◌, drop}
use Rattle.plank_rules.specs.StatementRules.{bound_by, bound_after}
use Rattle.plank_rules.proofs.block_names.bound_by.Given as goal

-- the names so far, with those of the parts that are left, are those of all parts
abbrev pub invariant-loop-bind : goal.invariant-loop-bind
invariant-loop-bind l =
    bound_after l.scope l.bound (drop l.bind-index l.binds) ≡ bound_by l.scope l.binds
