use Rattle.std.proofs.Common.{◌≡◌, drop}
use Rattle.std.specs.List.{flat_map}
use Rattle.plank_rules.specs.StatementRules.{test_line_rules}
use Rattle.plank_rules.specs.Faults.{after}
use Rattle.plank_rules.proofs.blocks.add_test_lines.Given as goal

-- the broken rules so far, with those of the parts that are left, are those of all parts
abbrev pub invariant-loop-line : goal.invariant-loop-line
invariant-loop-line l =
    after l.found.first (flat_map (test_line_rules l.header l.scope) (drop l.line-index l.lines))
    ≡ after l.fn.found.first (flat_map (test_line_rules l.header l.scope) l.lines)
