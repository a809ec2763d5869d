use Rattle.std.proofs.Common.{◌≡◌, ◌++◌, drop, map}
use Rattle.plank_rules.specs.Headers.{item_occurrence}
use Rattle.plank_rules.proofs.headers.item_fields.Given as goal

-- the names so far, with those of the parts that are left, are those of all parts
abbrev pub invariant-loop-item : goal.invariant-loop-item
invariant-loop-item l =
    l.fields.items ++ map item_occurrence (drop l.item-index l.items) ≡ map item_occurrence l.items
