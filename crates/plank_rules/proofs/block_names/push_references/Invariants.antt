use Rattle.std.proofs.Common.{◌≡◌, ◌++◌, drop, map}
use Rattle.plank_rules.specs.Occurrences.{reference_occurrence}
use Rattle.plank_rules.proofs.block_names.push_references.Given as goal

-- the names so far, with those of the parts that are left, are those of all parts
abbrev pub invariant-loop-reference : goal.invariant-loop-reference
invariant-loop-reference l =
    l.names.items ++ map reference_occurrence (drop l.reference-index l.references) ≡ l.fn.names.items ++ map reference_occurrence l.references
