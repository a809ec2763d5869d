use Rattle.std.proofs.Common.{◌≡◌, drop}
use Rattle.plank_type.specs.Limits.{first_given, method_facts_excess}
use Rattle.plank_type.proofs.lowering.Lowered.first_facts_excess.Given as goal

-- the methods so far are within the limit
abbrev pub invariant-loop-method : goal.invariant-loop-method
invariant-loop-method l =
    first_given (method_facts_excess l.self.header) (drop l.method-index l.methods) ≡ first_given (method_facts_excess l.self.header) l.methods
