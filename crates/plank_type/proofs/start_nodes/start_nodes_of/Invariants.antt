use Rattle.std.proofs.Common.{◌≡◌, ◌++◌, map, drop}
use Rattle.plank_type.specs.Headers.{start_node_of}
use Rattle.plank_type.proofs.start_nodes.start_nodes_of.Given as goal

-- the nodes so far and those of the lines that are left are all nodes
abbrev pub invariant-loop-line : goal.invariant-loop-line
invariant-loop-line l =
    l.nodes.items ++ map (start_node_of l.names) (drop l.line-index l.lines) ≡ map (start_node_of l.names) l.lines
