use Rattle.std.proofs.Common.{◌≡◌, ◌++◌, drop}
use Rattle.std.specs.List.{flat_map}
use Rattle.plank_ast.specs.Spelled.{kinds}
use Rattle.plank_ast.specs.Spelling.{root_tokens}
use Rattle.plank_ast.proofs.header_spelling.add_roots.Given as goal

-- the tokens so far, with those of the parts that are left, are those of all parts
abbrev pub invariant-loop-root : goal.invariant-loop-root
invariant-loop-root l =
    kinds l.out.items ++ flat_map root_tokens (drop l.root-index l.roots) ≡ kinds l.fn.out.items ++ flat_map root_tokens l.roots
