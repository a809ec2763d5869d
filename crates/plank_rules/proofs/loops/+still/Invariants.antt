use Rattle.std.proofs.Common.{◌≡◌, drop, map}
use Rattle.std.specs.List.{flat_map}
use Rattle.plank_rules.specs.Loops.{body_still, still}
use Rattle.plank_rules.specs.Faults.{after}
use Rattle.plank_rules.proofs.loops.+still.Given as goal

-- the loops so far, with those of the statements that are left, are those of the whole body
abbrev pub invariant-add_still_in_body-loop-statement : goal.invariant-add_still_in_body-loop-statement
invariant-add_still_in_body-loop-statement l =
    after l.found.first (flat_map (λ s. s.loops) (map still (drop l.statement-index l.statement-items)))
    ≡ after l.fn.found.first ((body_still l.fn.body).loops)
