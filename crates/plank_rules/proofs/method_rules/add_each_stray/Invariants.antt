use Rattle.std.proofs.Common.{◌≡◌, drop}
use Rattle.std.specs.List.{flat_map}
use Rattle.plank_rules.specs.Loops.{stray}
use Rattle.plank_rules.specs.Faults.{after}
use Rattle.plank_rules.proofs.method_rules.add_each_stray.Given as goal

-- the broken rules so far, with those of the parts that are left, are those of all parts
abbrev pub invariant-loop-statement : goal.invariant-loop-statement
invariant-loop-statement l =
    after l.found.first (flat_map stray (drop l.statement-index l.statements))
    ≡ after l.fn.found.first (flat_map stray l.statements)
