use Rattle.std.proofs.Common.{◌≡◌, drop}
use Rattle.std.specs.List.{flat_map}
use Rattle.plank_rules.specs.Headers.{second_root}
use Rattle.plank_rules.specs.Faults.{after}
use Rattle.plank_rules.proofs.headers.add_second_roots.Given as goal

-- the broken rules so far, with those of the parts that are left, are those of all parts
abbrev pub invariant-loop-root : goal.invariant-loop-root
invariant-loop-root l =
    after l.found.first (flat_map second_root (drop l.root-index l.roots))
    ≡ after l.fn.found.first (flat_map second_root l.roots)
