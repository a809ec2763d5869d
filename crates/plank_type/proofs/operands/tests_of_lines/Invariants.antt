use Rattle.std.proofs.Common.{◌≡◌, ◌++◌, map, drop}
use Rattle.plank_type.specs.Operands.{test_of}
use Rattle.plank_type.proofs.operands.tests_of_lines.Given as goal

-- the tests so far and those of the lines that are left are all tests
abbrev pub invariant-loop-line : goal.invariant-loop-line
invariant-loop-line l =
    l.tests.items ++ map (λ line. test_of l.names l.variables line.test) (drop l.line-index l.lines)
    ≡ map (λ line. test_of l.names l.variables line.test) l.lines
