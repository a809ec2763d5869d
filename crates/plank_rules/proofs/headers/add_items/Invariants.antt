use Rattle.std.proofs.Common.{◌≡◌, drop}
use Rattle.std.specs.List.{flat_map}
use Rattle.plank_rules.specs.Headers.{item_rules}
use Rattle.plank_rules.specs.Faults.{after}
use Rattle.plank_rules.proofs.headers.add_items.Given as goal

-- the broken rules so far, with those of the parts that are left, are those of all parts
abbrev pub invariant-loop-item : goal.invariant-loop-item
invariant-loop-item l =
    after l.found.first (flat_map (item_rules l.header l.starts) (drop l.item-index l.items))
    ≡ after l.fn.found.first (flat_map (item_rules l.header l.starts) l.items)
