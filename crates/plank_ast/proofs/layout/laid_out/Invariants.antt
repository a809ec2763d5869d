use Rattle.std.proofs.Common.{◌≡◌, ◌++◌, ◌≤◌, ◌+◌, drop}
use Rattle.plank_ast.specs.Spelled.{kind_of, kinds}
use Rattle.plank_ast.specs.Layout.{layout, layout_after}
use Rattle.plank_ast.proofs.layout.laid_out.Given as goal

abbrev pub invariant-loop-next : goal.invariant-loop-next
invariant-loop-next l = record {
  shallow : l.depth ≤ l.next-index + 1;
  told : l.out.items ++ layout_after l.depth (kind_of l.last) (kinds (drop l.next-index l.rest)) ≡ layout (kinds l.fn.tokens);
}
