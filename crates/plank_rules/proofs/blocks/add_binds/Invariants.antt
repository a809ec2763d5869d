use Rattle.std.proofs.Common.{◌≡◌, drop}
use Rattle.std.specs.List.{flat_map}
use Rattle.plank_rules.specs.StatementRules.{bind_rules}
use Rattle.plank_rules.specs.Faults.{after}
use Rattle.plank_rules.proofs.blocks.add_binds.Given as goal

-- the broken rules so far, with those of the parts that are left, are those of all parts
abbrev pub invariant-loop-bind : goal.invariant-loop-bind
invariant-loop-bind l =
    after l.found.first (flat_map (bind_rules l.header l.scope) (drop l.bind-index l.binds))
    ≡ after l.fn.found.first (flat_map (bind_rules l.header l.scope) l.binds)
