-- The readers of conditions follow the grammar.
use Rattle.std.proofs.Common.{◌≡◌, ℕ, zero, suc, List, [], ◌∷◌, ◌++◌, map, refl, ap, sym, ◌∙◌}
use Rattle.plank_base.specs.declared.places.Place.{Place}
use Rattle.plank_lex.specs.Tokens.{kinds_of}
use Rattle.plank_lex.specs.declared.symbols.Symbol.TheVariants as symbol
use Rattle.plank_lex.specs.declared.words.Reserved.TheVariants as word
use Rattle.plank_lex.specs.declared.tokens.Token.{Token}
use Rattle.plank_lex.specs.declared.tokens.TokenKind.{TokenKind}
use Rattle.plank_lex.specs.declared.tokens.TokenKind.TheVariants as kind
use Rattle.plank_ast.specs.declared.conditions.Condition.{Condition}
use Rattle.plank_ast.specs.declared.conditions.Conjunction.{Conjunction}
use Rattle.plank_ast.specs.declared.conditions.Literal.{Literal}
use Rattle.plank_ast.specs.declared.conditions.Literal.TheVariants as literals
use Rattle.plank_ast.specs.declared.conditions.Literal.TheOpen.{Literal-F}
use Rattle.plank_ast.specs.declared.conditions.Literal.TheViews.{roll-Literal, roll-Condition, roll-Conjunction}
use Rattle.plank_ast.specs.declared.conditions.Literal.TheFolds.{map-Literal, fold-roll-Literal, fold-roll-Condition, fold-roll-Conjunction}
use Rattle.plank_ast.specs.Spelling.{Spelling, each_after, literal_step, condition_step, conjunction_step, literal_tokens, conjunction_tokens, condition_tokens}
use Rattle.plank_parse.specs.Readers.{Reader, ◌<$>◌, blocked}
use Rattle.plank_parse.specs.Conditions.{atom, negation, literal_by, literal_over, conjunction_over, condition_over, grouped, group, condition}
use Rattle.plank_parse.proofs.Grammars.{symbol_class, reads, halted}
use Rattle.plank_parse.proofs.TextGrammar.{rules, atom_g, negation_g, group_g, literal_g, conjunction_g, condition_g, operand_g, node_operand_g, reference_g}
use Rattle.plank_parse.proofs.Follows.{Follow, Follows, Says, step, finish, symbol_test, symbol_law, name_law, take_one, many_law, behind_law, blocked_law, dispatch}
use Rattle.plank_parse.proofs.AtomRules.{token, atom_law}

-- ---- how conditions are spelled

literal_spelled : (y : Literal-F Literal Condition Conjunction) → literal_tokens (roll-Literal y) ≡ literal_step (map-Literal Literal Condition Conjunction Spelling Spelling Spelling literal_tokens condition_tokens conjunction_tokens y)
literal_spelled y = fold-roll-Literal Spelling Spelling Spelling literal_step condition_step conjunction_step y

after_each : {A : Type 0} (k : TokenKind) (spelled : A → Spelling) (parts : List A) → each_after k (λ tokens. tokens) (map spelled parts) ≡ each_after k spelled parts
after_each k spelled [] = refl
after_each k spelled (part ∷ parts) = ap (λ (ks : Spelling). (k ∷ spelled part) ++ ks) (after_each k spelled parts)

conjunction_spelled : (first : Literal) (others : List Literal) → conjunction_tokens (roll-Conjunction (record { first = first; others = others })) ≡ literal_tokens first ++ each_after (kind.Symbol symbol.And) literal_tokens others
conjunction_spelled first others =
    fold-roll-Conjunction Spelling Spelling Spelling literal_step condition_step conjunction_step (record { first = first; others = others })
    ∙ ap (λ (ks : Spelling). literal_tokens first ++ ks) (after_each (kind.Symbol symbol.And) literal_tokens others)

condition_spelled : (first : Conjunction) (others : List Conjunction) → condition_tokens (roll-Condition (record { first = first; others = others })) ≡ conjunction_tokens first ++ each_after (kind.Symbol symbol.Or) conjunction_tokens others
condition_spelled first others =
    fold-roll-Condition Spelling Spelling Spelling literal_step condition_step conjunction_step (record { first = first; others = others })
    ∙ ap (λ (ks : Spelling). conjunction_tokens first ++ ks) (after_each (kind.Symbol symbol.Or) conjunction_tokens others)

-- ---- literals

negation_law : (l : ℕ) → Follows (reads rules l negation_g) negation (Says literal_tokens)
unfolding negation negation_g
negation_law l =
    step _ _ _ _ _ _ (symbol_law symbol.Not) (λ place. step _ _ _ _ _ _ name_law (λ node. step _ _ _ _ _ _ (symbol_law symbol.Dot) (λ dot.
    finish _ _ (literals.Not place node) _ _ name_law (λ field. sym (ap literal_tokens (sym (literals.rolls-Not place node field)) ∙ literal_spelled (Literal-F.Not place node field))))))

atom_literal : (l : ℕ) → Follows (reads rules l atom_g) (literals.Atom <$> atom) (Says literal_tokens)
atom_literal l = finish _ _ literals.Atom _ _ (atom_law l) (λ a. sym (ap literal_tokens (sym (literals.rolls-Atom a)) ∙ literal_spelled (Literal-F.Atom a)))

atom_none : (l : ℕ) → reads rules l literal_g [] ≡ halted []
unfolding literal_g group_g negation_g atom_g operand_g node_operand_g reference_g
atom_none l = refl

literal_arm : (l : ℕ) (inner : Reader Literal) → Follows (reads rules l group_g) inner (Says literal_tokens) → (k : TokenKind) (p : Place) (n : ℕ) (ts : List Token) → Follow (reads rules l literal_g (k ∷ kinds_of ts)) (Says literal_tokens) (token k p n ∷ ts) (literal_by inner k (token k p n ∷ ts))
unfolding literal_g group_g negation_g
literal_arm l inner f (kind.Reserved word.True) p n ts = take_one _ _ _ _ _ (sym (ap literal_tokens (sym (literals.rolls-True p)) ∙ literal_spelled (Literal-F.True p))) refl
literal_arm l inner f (kind.Reserved word.False) p n ts = take_one _ _ _ _ _ (sym (ap literal_tokens (sym (literals.rolls-False p)) ∙ literal_spelled (Literal-F.False p))) refl
literal_arm l inner f (kind.Symbol symbol.OpenParenthesis) p n ts = f.at (token (kind.Symbol symbol.OpenParenthesis) p n ∷ ts)
literal_arm l inner f (kind.Symbol symbol.Not) p n ts = (negation_law l).at (token (kind.Symbol symbol.Not) p n ∷ ts)
literal_arm l inner f k p n ts = (atom_literal l).at (token k p n ∷ ts)

literal_over_law : (l : ℕ) (inner : Reader Literal) → Follows (reads rules l group_g) inner (Says literal_tokens) → Follows (reads rules l literal_g) (literal_over inner) (Says literal_tokens)
unfolding literal_over
literal_over_law l inner f = dispatch _ (literal_by inner) _ (atom_none l) (literal_arm l inner f)

-- ---- conditions

conjunction_over_law : (l : ℕ) (inner : Reader Literal) → Follows (reads rules l group_g) inner (Says literal_tokens) → Follows (reads rules l conjunction_g) (conjunction_over inner) (Says conjunction_tokens)
unfolding conjunction_over conjunction_g
conjunction_over_law l inner f =
    step _ _ _ _ _ _ (literal_over_law l inner f) (λ first.
    finish _ _ (λ others. roll-Conjunction (record { first = first; others = others })) _ _
    (many_law _ _ (symbol_class symbol.And ∷ []) _ _ (symbol_test symbol.And) (behind_law _ _ (kind.Symbol symbol.And) _ _ (symbol_law symbol.And) (literal_over_law l inner f)))
    (λ others. sym (conjunction_spelled first others)))

pub condition_over_law : (l : ℕ) (inner : Reader Literal) → Follows (reads rules l group_g) inner (Says literal_tokens) → Follows (reads rules l condition_g) (condition_over inner) (Says condition_tokens)
unfolding condition_over condition_g
condition_over_law l inner f =
    step _ _ _ _ _ _ (conjunction_over_law l inner f) (λ first.
    finish _ _ (λ others. roll-Condition (record { first = first; others = others })) _ _
    (many_law _ _ (symbol_class symbol.Or ∷ []) _ _ (symbol_test symbol.Or) (behind_law _ _ (kind.Symbol symbol.Or) _ _ (symbol_law symbol.Or) (conjunction_over_law l inner f)))
    (λ others. sym (condition_spelled first others)))

-- ---- groups

blocked_group : Follows (reads rules zero group_g) (blocked symbol.OpenParenthesis) (Says literal_tokens)
unfolding group_g
blocked_group = blocked_law symbol.OpenParenthesis _

opened_group : (l : ℕ) → Follows (reads rules l group_g) (group l) (Says literal_tokens) → Follows (reads rules (suc l) group_g) (grouped (group l)) (Says literal_tokens)
unfolding group_g grouped rules
opened_group l f =
    step _ _ _ _ _ _ (symbol_law symbol.OpenParenthesis) (λ place. step _ _ _ _ _ _ (condition_over_law l (group l) f) (λ inner.
    finish _ _ (λ close. literals.Group place inner) _ _ (symbol_law symbol.CloseParenthesis) (λ close. sym (ap literal_tokens (sym (literals.rolls-Group place inner)) ∙ literal_spelled (Literal-F.Group place inner)))))

group_law : (l : ℕ) → Follows (reads rules l group_g) (group l) (Says literal_tokens)
unfolding group
group_law zero = blocked_group
group_law (suc l) = opened_group l (group_law l)

pub condition_law : (l : ℕ) → Follows (reads rules l condition_g) (condition l) (Says condition_tokens)
condition_law l = condition_over_law l (group l) (group_law l)
