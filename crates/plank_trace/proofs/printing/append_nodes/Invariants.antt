-- What is written and what is to come.
use Rattle.std.proofs.Common.{◌≡◌, ◌++◌, drop}
use Rattle.plank_trace.specs.Texts.{nodes_text}
use Rattle.plank_trace.proofs.printing.append_nodes.Given as goal

abbrev pub invariant-loop-node : goal.invariant-loop-node
invariant-loop-node l =
    l.out.items ++ nodes_text (drop l.node-index l.nodes) ≡ l.initial.out.items ++ nodes_text l.nodes
