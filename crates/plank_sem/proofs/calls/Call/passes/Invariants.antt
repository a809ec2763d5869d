use Rattle.std.proofs.Common.{◌≡◌, drop}
use Rattle.plank_sem.specs.Reads.{tests_value}
use Rattle.plank_sem.proofs.calls.Call.passes.Given as goal

abbrev pub invariant-loop-test : goal.invariant-loop-test
invariant-loop-test l =
    tests_value l.heap l.thread l.self l.tests ≡ tests_value l.heap l.thread l.self (drop l.test-index l.tests)
