use Rattle.std.proofs.Common.{◌≡◌, ◌++◌, drop}
use Rattle.std.specs.List.{flat_map}
use Rattle.plank_rules.specs.StatementRules.{test_line_names}
use Rattle.plank_rules.proofs.block_names.push_tests.Given as goal

-- the names so far, with those of the parts that are left, are those of all parts
abbrev pub invariant-loop-line : goal.invariant-loop-line
invariant-loop-line l =
    l.names.items ++ flat_map test_line_names (drop l.line-index l.lines) ≡ l.fn.names.items ++ flat_map test_line_names l.lines
