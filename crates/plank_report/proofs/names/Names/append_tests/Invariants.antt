-- What is written and what is to come.
use Rattle.std.proofs.Common.{◌≡◌, ◌++◌, drop}
use Rattle.std.specs.List.{flat_map}
use Rattle.plank_report.specs.Steps.{test_line}
use Rattle.plank_report.proofs.names.Names.append_tests.Given as goal

abbrev pub invariant-loop-test : goal.invariant-loop-test
invariant-loop-test l =
    l.out.items ++ flat_map (test_line l.self.header.now l.self.method.now) (drop l.test-index l.tests)
    ≡ l.initial.out.items ++ flat_map (test_line l.self.header.now l.self.method.now) l.tests
