use Rattle.std.proofs.Common.{◌≡◌, ◌++◌, drop, map}
use Rattle.plank_lex.specs.declared.symbols.Symbol.TheVariants as symbol
use Rattle.plank_lex.specs.declared.tokens.TokenKind.TheVariants as kind
use Rattle.plank_ast.specs.Spelled.{kinds}
use Rattle.plank_ast.specs.Spelling.{each_after, condition_tokens, conjunction_tokens, literal_tokens}
use Rattle.plank_ast.proofs.condition_spelling.+conditions.Given as goal

-- the tokens so far, with those of the conjunctions that are left, are those of the whole condition
abbrev pub invariant-add_condition-loop-conjunction : goal.invariant-add_condition-loop-conjunction
invariant-add_condition-loop-conjunction l =
    kinds l.out.items ++ each_after (kind.Symbol symbol.Or) (λ tokens. tokens) (map conjunction_tokens (drop l.conjunction-index l.conjunction-items))
    ≡ kinds l.fn.out.items ++ condition_tokens l.fn.condition

abbrev pub invariant-add_conjunction-loop-literal : goal.invariant-add_conjunction-loop-literal
invariant-add_conjunction-loop-literal l =
    kinds l.out.items ++ each_after (kind.Symbol symbol.And) (λ tokens. tokens) (map literal_tokens (drop l.literal-index l.literal-items))
    ≡ kinds l.fn.out.items ++ conjunction_tokens l.fn.conjunction
