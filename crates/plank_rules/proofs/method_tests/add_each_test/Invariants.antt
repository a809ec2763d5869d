use Rattle.std.proofs.Common.{◌≡◌, drop}
use Rattle.std.specs.List.{flat_map}
use Rattle.plank_rules.specs.StatementRules.{test_rules}
use Rattle.plank_rules.specs.Faults.{after}
use Rattle.plank_rules.proofs.method_tests.add_each_test.Given as goal

-- the broken rules so far, with those of the parts that are left, are those of all parts
abbrev pub invariant-loop-test : goal.invariant-loop-test
invariant-loop-test l =
    after l.found.first (flat_map (test_rules l.header l.scope) (drop l.test-index l.tests))
    ≡ after l.fn.found.first (flat_map (test_rules l.header l.scope) l.tests)
