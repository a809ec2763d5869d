use Rattle.std.proofs.Common.{◌≡◌, drop}
use Rattle.std.specs.List.{flat_map}
use Rattle.plank_rules.specs.Headers.{keep_rules}
use Rattle.plank_rules.specs.Faults.{after}
use Rattle.plank_rules.proofs.headers.add_each_keep.Given as goal

-- the broken rules so far, with those of the parts that are left, are those of all parts
abbrev pub invariant-loop-keep : goal.invariant-loop-keep
invariant-loop-keep l =
    after l.found.first (flat_map (keep_rules l.header l.scope) (drop l.keep-index l.keeps))
    ≡ after l.fn.found.first (flat_map (keep_rules l.header l.scope) l.keeps)
