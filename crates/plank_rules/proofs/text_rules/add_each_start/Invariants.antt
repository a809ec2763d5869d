use Rattle.std.proofs.Common.{◌≡◌, drop}
use Rattle.std.specs.List.{flat_map}
use Rattle.plank_rules.specs.Headers.{start_rules}
use Rattle.plank_rules.specs.Faults.{after}
use Rattle.plank_rules.proofs.text_rules.add_each_start.Given as goal

-- the broken rules so far, with those of the parts that are left, are those of all parts
abbrev pub invariant-loop-line : goal.invariant-loop-line
invariant-loop-line l =
    after l.found.first (flat_map (start_rules l.header l.starts) (drop l.line-index l.lines))
    ≡ after l.fn.found.first (flat_map (start_rules l.header l.starts) l.lines)
