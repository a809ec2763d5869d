use Rattle.std.proofs.Common.{◌≡◌, drop, map}
use Rattle.std.specs.List.{flat_map}
use Rattle.plank_rules.specs.Loops.{body_stray, stray}
use Rattle.plank_rules.specs.Faults.{after}
use Rattle.plank_rules.proofs.loops.+stray.Given as goal

-- the broken rules so far, with those of the statements that are left, are those of the whole body
abbrev pub invariant-add_body_stray-loop-statement : goal.invariant-add_body_stray-loop-statement
invariant-add_body_stray-loop-statement l =
    after l.found.first (flat_map (λ rules. rules) (map stray (drop l.statement-index l.statement-items)))
    ≡ after l.fn.found.first (body_stray l.fn.body)
