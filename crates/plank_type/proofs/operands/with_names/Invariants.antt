use Rattle.std.proofs.Common.{◌≡◌, ◌++◌, ◌∷◌, map, drop}
use Rattle.plank_type.specs.Operands.{reference_of}
use Rattle.plank_type.proofs.operands.with_names.Given as goal

-- the names so far and those that are left are all names
abbrev pub invariant-loop-node : goal.invariant-loop-node
invariant-loop-node l =
    l.names.items ++ map (reference_of l.variables) (drop l.node-index l.node-items)
    ≡ reference_of l.variables l.with.first ∷ map (reference_of l.variables) l.with.others
