use Rattle.std.proofs.Common.{◌≡◌, drop}
use Rattle.plank_type.specs.Headers.{start_pointer}
use Rattle.plank_type.proofs.start_nodes.start_pointer.Given as goal

-- the items so far do not give the field
abbrev pub invariant-loop-item : goal.invariant-loop-item
invariant-loop-item l =
    start_pointer l.names.nodes (drop l.item-index l.items) l.pointer ≡ start_pointer l.names.nodes l.items l.pointer
