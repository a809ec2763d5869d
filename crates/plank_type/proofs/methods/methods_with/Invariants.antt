use Rattle.std.proofs.Common.{◌≡◌, ◌++◌, ◌∷◌, map, drop}
use Rattle.plank_type.specs.Methods.{method_of}
use Rattle.plank_type.proofs.methods.methods_with.Given as goal

-- the methods so far and those that are left are all methods
abbrev pub invariant-loop-method : goal.invariant-loop-method
invariant-loop-method l =
    l.made.items ++ map (method_of l.names) (drop l.method-index l.method-items)
    ≡ method_of l.names l.methods.first ∷ map (method_of l.names) l.methods.others
