use Rattle.std.proofs.Common.{◌≡◌, ◌++◌, drop, map}
use Rattle.std.specs.List.{flat_map}
use Rattle.plank_lex.specs.declared.symbols.Symbol.TheVariants as symbol
use Rattle.plank_ast.specs.Spelled.{kinds}
use Rattle.plank_ast.specs.Spelling.{mark, body_tokens, statement_tokens}
use Rattle.plank_ast.proofs.statement_spelling.+statements.Given as goal

-- the tokens so far, with those of the statements that are left and the brace, are those of the whole body
abbrev pub invariant-add_body-loop-statement : goal.invariant-add_body-loop-statement
invariant-add_body-loop-statement l =
    (kinds l.out.items ++ flat_map (λ tokens. tokens) (map statement_tokens (drop l.statement-index l.statement-items))) ++ mark symbol.CloseBrace
    ≡ kinds l.fn.out.items ++ body_tokens l.fn.body
