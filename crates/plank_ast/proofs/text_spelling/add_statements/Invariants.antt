use Rattle.std.proofs.Common.{◌≡◌, ◌++◌, drop}
use Rattle.std.specs.List.{flat_map}
use Rattle.plank_ast.specs.Spelled.{kinds}
use Rattle.plank_ast.specs.Spelling.{statement_tokens}
use Rattle.plank_ast.proofs.text_spelling.add_statements.Given as goal

-- the tokens so far, with those of the parts that are left, are those of all parts
abbrev pub invariant-loop-statement : goal.invariant-loop-statement
invariant-loop-statement l =
    kinds l.out.items ++ flat_map statement_tokens (drop l.statement-index l.statements) ≡ kinds l.fn.out.items ++ flat_map statement_tokens l.statements
