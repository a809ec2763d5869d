use Rattle.std.proofs.Common.{◌≡◌, ◌++◌, drop}
use Rattle.std.specs.List.{flat_map}
use Rattle.plank_ast.specs.Spelled.{kinds}
use Rattle.plank_ast.specs.Spelling.{method_tokens}
use Rattle.plank_ast.proofs.text_spelling.add_more_methods.Given as goal

-- the tokens so far, with those of the parts that are left, are those of all parts
abbrev pub invariant-loop-method : goal.invariant-loop-method
invariant-loop-method l =
    kinds l.out.items ++ flat_map method_tokens (drop l.method-index l.methods) ≡ kinds l.fn.out.items ++ flat_map method_tokens l.methods
