use Rattle.std.proofs.Common.{◌≡◌, ◌++◌, drop, map}
use Rattle.plank_rules.specs.Headers.{pointer_occurrence}
use Rattle.plank_rules.proofs.text_rules.push_pointers.Given as goal

-- the names so far, with those of the parts that are left, are those of all parts
abbrev pub invariant-loop-pointer : goal.invariant-loop-pointer
invariant-loop-pointer l =
    l.names.items ++ map pointer_occurrence (drop l.pointer-index l.pointers) ≡ l.fn.names.items ++ map pointer_occurrence l.pointers
