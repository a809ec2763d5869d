use Rattle.std.proofs.Common.{◌≡◌, ◌++◌}
use Rattle.plank_ast.specs.Layout.{blanks}
use Rattle.plank_ast.proofs.layout.append_indent.Given as goal

abbrev pub invariant-loop-level : goal.invariant-loop-level
invariant-loop-level l = l.out.items ≡ l.fn.out.items ++ blanks l._level
