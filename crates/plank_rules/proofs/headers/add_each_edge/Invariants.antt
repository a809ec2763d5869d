use Rattle.std.proofs.Common.{◌≡◌, drop}
use Rattle.std.specs.List.{flat_map}
use Rattle.plank_rules.specs.Headers.{edge_rules}
use Rattle.plank_rules.specs.Faults.{after}
use Rattle.plank_rules.proofs.headers.add_each_edge.Given as goal

-- the broken rules so far, with those of the parts that are left, are those of all parts
abbrev pub invariant-loop-edge : goal.invariant-loop-edge
invariant-loop-edge l =
    after l.found.first (flat_map (edge_rules l.header l.scope) (drop l.edge-index l.edges))
    ≡ after l.fn.found.first (flat_map (edge_rules l.header l.scope) l.edges)
