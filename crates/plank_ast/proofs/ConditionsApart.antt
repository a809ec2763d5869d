-- No condition has `!` before `=` or `==`: a name follows each `!`.
use Rattle.std.proofs.Common.{◌≡◌, List, [], ◌∷◌, ◌++◌, map, false, refl, sym, subst}
use Rattle.plank_lex.specs.declared.symbols.Symbol.TheVariants as symbol
use Rattle.plank_lex.specs.declared.words.Reserved.TheVariants as word
use Rattle.plank_lex.specs.declared.tokens.TokenKind.TheVariants as kind
use Rattle.plank_ast.specs.declared.names.Name.{Name}
use Rattle.plank_ast.specs.declared.names.Reference.{Reference}
use Rattle.plank_ast.specs.declared.names.Field.{Field}
use Rattle.plank_ast.specs.declared.conditions.Comparison.{Comparison}
use Rattle.plank_ast.specs.declared.conditions.Operand.{Operand}
use Rattle.plank_ast.specs.declared.conditions.AtomEnd.{AtomEnd}
use Rattle.plank_ast.specs.declared.conditions.Atom.{Atom}
use Rattle.plank_ast.specs.declared.conditions.Condition.{Condition}
use Rattle.plank_ast.specs.declared.conditions.Conjunction.{Conjunction}
use Rattle.plank_ast.specs.declared.conditions.Literal.{Literal}
use Rattle.plank_ast.specs.declared.conditions.Literal.TheOpen.{Literal-F, Condition-F, Conjunction-F}
use Rattle.plank_ast.specs.declared.conditions.Literal.TheViews.{roll-Literal, roll-Condition, roll-Conjunction}
use Rattle.plank_ast.specs.declared.conditions.Literal.TheFolds.{map-Literal, map-Condition, map-Conjunction, fold-roll-Literal, fold-roll-Condition, fold-roll-Conjunction, ind-Condition}
use Rattle.plank_ast.specs.Spelling.{Spelling, name_tokens, reference_tokens, field_tokens, comparison_symbol, operand_tokens, atom_end_tokens, atom_tokens, literal_step, condition_step, conjunction_step, literal_tokens, condition_tokens, conjunction_tokens, mark, each_after}
use Rattle.plank_ast.proofs.Apart.{Apart, is_not, none, one, sign, reserved, both, perhaps}

pub name_apart : (n : Name) → Apart (name_tokens n)
name_apart n = one (kind.Name n.label) refl

pub reference_apart : (r : Reference) → Apart (reference_tokens r)
reference_apart (Reference.Root place) = reserved word.Root
reference_apart (Reference.Name name) = name_apart name

field_apart : (f : Field) → Apart (field_tokens f)
field_apart (Field.Name name) = name_apart name
field_apart (Field.Key place) = reserved word.Key

operand_apart : (o : Operand) → Apart (operand_tokens o)
operand_apart (Operand.Node node field) =
    both (reference_apart node) (perhaps (λ f. mark symbol.Dot ++ field_tokens f) (λ f. both (sign symbol.Dot refl) (field_apart f)) field)
operand_apart (Operand.Min place) = reserved word.Min
operand_apart (Operand.Max place) = reserved word.Max
operand_apart (Operand.Null place) = reserved word.Null

comparison_apart : (c : Comparison) → is_not (kind.Symbol (comparison_symbol c)) ≡ false
comparison_apart Comparison.Equal = refl
comparison_apart Comparison.NotEqual = refl
comparison_apart Comparison.Less = refl
comparison_apart Comparison.AtMost = refl

end_apart : (e : AtomEnd) → Apart (atom_end_tokens e)
end_apart AtomEnd.Nothing = none
end_apart (AtomEnd.Compared comparison place operand) = both (sign (comparison_symbol comparison) (comparison_apart comparison)) (operand_apart operand)
end_apart (AtomEnd.In place node) = both (reserved word.In) (name_apart node)

pub atom_apart : (a : Atom) → Apart (atom_tokens a)
atom_apart a = both (operand_apart a.operand) (end_apart a.end)

-- ---- by induction over conditions

abbrev LiteralApart : Literal → Type 0
LiteralApart l = Apart (literal_tokens l)

abbrev ConditionApart : Condition → Type 0
ConditionApart c = Apart (condition_tokens c)

abbrev ConjunctionApart : Conjunction → Type 0
ConjunctionApart c = Apart (conjunction_tokens c)

-- a part with its proof
abbrev ProvedLiteral : Type 0
ProvedLiteral = (l : Literal) × LiteralApart l

abbrev ProvedCondition : Type 0
ProvedCondition = (c : Condition) × ConditionApart c

abbrev ProvedConjunction : Type 0
ProvedConjunction = (c : Conjunction) × ConjunctionApart c

literals_apart : (ls : List ProvedLiteral) → Apart (each_after (kind.Symbol symbol.And) (λ tokens. tokens) (map literal_tokens (map (λ e. e.0) ls)))
literals_apart [] = none
literals_apart (e ∷ ls) = both (both (sign symbol.And refl) e.1) (literals_apart ls)

conjunctions_apart : (cs : List ProvedConjunction) → Apart (each_after (kind.Symbol symbol.Or) (λ tokens. tokens) (map conjunction_tokens (map (λ e. e.0) cs)))
conjunctions_apart [] = none
conjunctions_apart (e ∷ cs) = both (both (sign symbol.Or refl) e.1) (conjunctions_apart cs)

abbrev plain_literal : Literal-F ProvedLiteral ProvedCondition ProvedConjunction → Literal-F Literal Condition Conjunction
plain_literal y = map-Literal ProvedLiteral ProvedCondition ProvedConjunction Literal Condition Conjunction (λ e. e.0) (λ e. e.0) (λ e. e.0) y

literal_layer : (y : Literal-F ProvedLiteral ProvedCondition ProvedConjunction) → Apart (literal_step (map-Literal Literal Condition Conjunction Spelling Spelling Spelling literal_tokens condition_tokens conjunction_tokens (plain_literal y)))
literal_layer (Literal-F.True place) = reserved word.True
literal_layer (Literal-F.False place) = reserved word.False
literal_layer (Literal-F.Group place inner) = both (both (sign symbol.OpenParenthesis refl) inner.1) (sign symbol.CloseParenthesis refl)
literal_layer (Literal-F.Not place node field) = record { before = λ rest h. h }
literal_layer (Literal-F.Atom atom) = atom_apart atom

abbrev plain_condition : Condition-F ProvedLiteral ProvedCondition ProvedConjunction → Condition-F Literal Condition Conjunction
plain_condition y = map-Condition ProvedLiteral ProvedCondition ProvedConjunction Literal Condition Conjunction (λ e. e.0) (λ e. e.0) (λ e. e.0) y

abbrev plain_conjunction : Conjunction-F ProvedLiteral ProvedCondition ProvedConjunction → Conjunction-F Literal Condition Conjunction
plain_conjunction y = map-Conjunction ProvedLiteral ProvedCondition ProvedConjunction Literal Condition Conjunction (λ e. e.0) (λ e. e.0) (λ e. e.0) y

pub condition_apart : (c : Condition) → Apart (condition_tokens c)
condition_apart = ind-Condition LiteralApart ConditionApart ConjunctionApart
    (λ x y is. subst (λ (z : Literal-F Literal Condition Conjunction). LiteralApart (roll-Literal z)) is
    (subst (λ (ks : Spelling). Apart ks) (sym (fold-roll-Literal Spelling Spelling Spelling literal_step condition_step conjunction_step (plain_literal y))) (literal_layer y)))
    (λ x y is. subst (λ (z : Condition-F Literal Condition Conjunction). ConditionApart (roll-Condition z)) is
    (subst (λ (ks : Spelling). Apart ks) (sym (fold-roll-Condition Spelling Spelling Spelling literal_step condition_step conjunction_step (plain_condition y))) (both y.first.1 (conjunctions_apart y.others))))
    (λ x y is. subst (λ (z : Conjunction-F Literal Condition Conjunction). ConjunctionApart (roll-Conjunction z)) is
    (subst (λ (ks : Spelling). Apart ks) (sym (fold-roll-Conjunction Spelling Spelling Spelling literal_step condition_step conjunction_step (plain_conjunction y))) (both y.first.1 (literals_apart y.others))))
