use Rattle.std.proofs.Common.{◌≡◌, drop}
use Rattle.std.specs.List.{flat_map}
use Rattle.plank_rules.specs.StatementRules.{node_rules}
use Rattle.plank_rules.specs.Faults.{after}
use Rattle.plank_rules.proofs.blocks.add_each_node.Given as goal

-- the broken rules so far, with those of the parts that are left, are those of all parts
abbrev pub invariant-loop-reference : goal.invariant-loop-reference
invariant-loop-reference l =
    after l.found.first (flat_map (node_rules l.scope) (drop l.reference-index l.references))
    ≡ after l.fn.found.first (flat_map (node_rules l.scope) l.references)
