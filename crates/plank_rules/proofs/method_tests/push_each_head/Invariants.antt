use Rattle.std.proofs.Common.{◌≡◌, ◌++◌, drop}
use Rattle.std.specs.List.{flat_map}
use Rattle.plank_rules.specs.StatementRules.{test_heads}
use Rattle.plank_rules.proofs.method_tests.push_each_head.Given as goal

-- the names so far, with those of the parts that are left, are those of all parts
abbrev pub invariant-loop-test : goal.invariant-loop-test
invariant-loop-test l =
    l.heads.items ++ flat_map (test_heads l.header l.scope) (drop l.test-index l.tests) ≡ l.fn.heads.items ++ flat_map (test_heads l.header l.scope) l.tests
