use Rattle.std.proofs.Common.{◌≡◌, ◌++◌, drop}
use Rattle.plank_ast.specs.Spelled.{kinds}
use Rattle.plank_ast.specs.Spelling.{more_test_tokens}
use Rattle.plank_ast.proofs.statement_spelling.add_more_tests.Given as goal

-- the tokens so far, with those of the parts that are left, are those of all parts
abbrev pub invariant-loop-test : goal.invariant-loop-test
invariant-loop-test l =
    kinds l.out.items ++ more_test_tokens (drop l.test-index l.tests) ≡ kinds l.fn.out.items ++ more_test_tokens l.tests
