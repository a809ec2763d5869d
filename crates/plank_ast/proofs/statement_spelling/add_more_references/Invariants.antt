use Rattle.std.proofs.Common.{◌≡◌, ◌++◌, drop}
use Rattle.plank_ast.specs.Spelled.{kinds}
use Rattle.plank_ast.specs.Spelling.{more_reference_tokens}
use Rattle.plank_ast.proofs.statement_spelling.add_more_references.Given as goal

-- the tokens so far, with those of the parts that are left, are those of all parts
abbrev pub invariant-loop-reference : goal.invariant-loop-reference
invariant-loop-reference l =
    kinds l.out.items ++ more_reference_tokens (drop l.reference-index l.references) ≡ kinds l.fn.out.items ++ more_reference_tokens l.references
