use Rattle.std.proofs.Common.{◌≡◌, ◌++◌, ◌∷◌, map, drop}
use Rattle.plank_type.specs.Operands.{test_of}
use Rattle.plank_type.proofs.steps.tests_of.Given as goal

-- the tests so far and those that are left are all tests
abbrev pub invariant-loop-test : goal.invariant-loop-test
invariant-loop-test l =
    l.out.items ++ map (test_of l.setting.names.now l.setting.variables.now) (drop l.test-index l.test-items)
    ≡ test_of l.setting.names.now l.setting.variables.now l.tests.first
    ∷ map (test_of l.setting.names.now l.setting.variables.now) l.tests.others
