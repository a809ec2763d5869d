use Rattle.std.proofs.Common.{◌≡◌, drop}
use Rattle.plank_type.specs.Limits.{first_given, facts_excess}
use Rattle.plank_type.proofs.lowering.Lowered.method_facts_excess.Given as goal

-- the locations so far are within the limit
abbrev pub invariant-loop-location : goal.invariant-loop-location
invariant-loop-location l =
    first_given (λ at. facts_excess l.self.header at.action) (drop l.location-index l.location-items)
    ≡ first_given (λ at. facts_excess l.self.header at.action) l.method.locations
