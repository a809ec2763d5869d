use Rattle.std.proofs.Common.{◌≡◌, drop}
use Rattle.plank_type.specs.Limits.{first_given, variables_excess}
use Rattle.plank_type.proofs.limits.first_variables_excess.Given as goal

-- the methods so far are within the limit
abbrev pub invariant-loop-method : goal.invariant-loop-method
invariant-loop-method l =
    first_given (variables_excess l.limit) (drop l.method-index l.methods) ≡ first_given (variables_excess l.limit) l.methods
