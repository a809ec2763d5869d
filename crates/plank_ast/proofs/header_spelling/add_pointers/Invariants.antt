use Rattle.std.proofs.Common.{◌≡◌, ◌++◌, drop}
use Rattle.std.specs.List.{flat_map}
use Rattle.plank_ast.specs.Spelled.{kinds}
use Rattle.plank_ast.specs.Spelling.{pointer_tokens}
use Rattle.plank_ast.proofs.header_spelling.add_pointers.Given as goal

-- the tokens so far, with those of the parts that are left, are those of all parts
abbrev pub invariant-loop-pointer : goal.invariant-loop-pointer
invariant-loop-pointer l =
    kinds l.out.items ++ flat_map pointer_tokens (drop l.pointer-index l.pointers) ≡ kinds l.fn.out.items ++ flat_map pointer_tokens l.pointers
