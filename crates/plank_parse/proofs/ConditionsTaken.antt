-- The grammar takes every condition.
use Rattle.std.proofs.Common.{◌≡◌, ℕ, Bool, true, false, not, List, [], ◌∷◌, ◌++◌, map, Option, Some, None, refl, sym, subst}
use Rattle.std.specs.List.{flat_map}
use Rattle.std.specs.Option.{option_map_or}
use Rattle.plank_lex.specs.declared.symbols.Symbol.{Symbol}
use Rattle.plank_lex.specs.declared.symbols.Symbol.TheVariants as symbol
use Rattle.plank_lex.specs.declared.words.Reserved.{Reserved}
use Rattle.plank_lex.specs.declared.words.Reserved.TheVariants as word
use Rattle.plank_lex.specs.declared.tokens.TokenKind.{TokenKind}
use Rattle.plank_lex.specs.declared.tokens.TokenKind.TheVariants as kind
use Rattle.plank_ast.specs.declared.names.Name.{Name}
use Rattle.plank_ast.specs.declared.names.Reference.{Reference}
use Rattle.plank_ast.specs.declared.names.Field.{Field}
use Rattle.plank_ast.specs.declared.names.Truth.{Truth}
use Rattle.plank_ast.specs.declared.conditions.Comparison.{Comparison}
use Rattle.plank_ast.specs.declared.conditions.Operand.{Operand}
use Rattle.plank_ast.specs.declared.conditions.AtomEnd.{AtomEnd}
use Rattle.plank_ast.specs.declared.conditions.Atom.{Atom}
use Rattle.plank_ast.specs.declared.conditions.Condition.{Condition}
use Rattle.plank_ast.specs.declared.conditions.Conjunction.{Conjunction}
use Rattle.plank_ast.specs.declared.conditions.Literal.{Literal}
use Rattle.plank_ast.specs.declared.conditions.Literal.TheOpen.{Literal-F, Condition-F, Conjunction-F}
use Rattle.plank_ast.specs.declared.conditions.Literal.TheViews.{roll-Literal, roll-Condition, roll-Conjunction}
use Rattle.plank_ast.specs.declared.conditions.Literal.TheFolds.{map-Literal, map-Condition, map-Conjunction, fold-roll-Literal, fold-roll-Condition, fold-roll-Conjunction, ind-Condition}
use Rattle.plank_ast.specs.Spelling.{Spelling, mark, keyword, each_after, name_tokens, reference_tokens, field_tokens, truth_word, truth_tokens, dotted_tokens, operand_tokens, atom_end_tokens, atom_tokens, literal_step, condition_step, conjunction_step, literal_tokens, condition_tokens, conjunction_tokens}
use Rattle.plank_parse.proofs.Grammars.{Grammar, nothing, both, either, many, group, Inside, condition, class_of, nullable, firsts, goes_on, disjoint}
use Rattle.plank_parse.proofs.Taken.{Taken, taken_one, taken_nothing, taken_ahead, taken_both, taken_left, taken_right, Repeated, no_repeat, repeat, taken_many, taken_group}
use Rattle.plank_parse.proofs.TextGrammar.{rules, sign, reserved, a_name, perhaps, reference_g, field_g, truth_g, node_operand_g, operand_g, atom_end_g, atom_g, negation_g, group_g, literal_g, conjunction_g, condition_g}

-- ---- parts of every rule

-- in the grammar of texts
abbrev pub Takes : Grammar → Spelling → Type 0
Takes g ks = Taken rules g ks

pub sign_taken : (s : Symbol) → Takes (sign s) (mark s)
sign_taken s = taken_one rules (kind.Symbol s) (kind.Symbol s) refl

pub word_taken : (r : Reserved) → Takes (reserved r) (keyword r)
word_taken r = taken_one rules (kind.Reserved r) (kind.Reserved r) refl

pub name_taken : (n : Name) → Takes a_name (name_tokens n)
name_taken n = taken_one rules (kind.Name (97 ∷ [])) (kind.Name n.label) refl

pub then_taken : {g h : Grammar} {a b : Spelling} → disjoint (goes_on g) (firsts h) ≡ true → Takes g a → Takes h b → Takes (both g h) (a ++ b)
then_taken {g} {h} {a} {b} d ta tb = taken_both rules g h a b d ta tb

pub first_taken : {g h : Grammar} {a : Spelling} → not (nullable g) ≡ true → Takes g a → Takes (either g h) a
first_taken {g} {h} {a} n ta = taken_left rules g h a n ta

pub second_taken : {g h : Grammar} {b : Spelling} → disjoint (firsts g) (firsts h) ≡ true → Takes h b → Takes (either g h) b
second_taken {g} {h} {b} d tb = taken_right rules g h b d tb

no_first : (xs : List ℕ) → disjoint xs [] ≡ true
no_first [] = refl
no_first (x ∷ xs) = no_first xs

pub perhaps_taken : {A : Type 0} (g : Grammar) (f : A → Spelling) → not (nullable g) ≡ true → ((x : A) → Takes g (f x)) → (o : Option A) → Takes (perhaps g) (option_map_or f o [])
perhaps_taken g f n each None = taken_right rules g nothing [] (no_first (firsts g)) (taken_nothing rules)
perhaps_taken g f n each (Some x) = taken_left rules g nothing (f x) n (each x)

every_repeated : {A : Type 0} (g : Grammar) (f : A → Spelling) → not (nullable g) ≡ true → disjoint (goes_on g) (firsts g) ≡ true → ((x : A) → Takes g (f x)) → (xs : List A) → Repeated rules g (flat_map f xs)
every_repeated g f n d each [] = no_repeat rules g
every_repeated g f n d each (x ∷ xs) = repeat rules g (f x) (flat_map f xs) n d (each x) (every_repeated g f n d each xs)

pub every_taken : {A : Type 0} (g : Grammar) (f : A → Spelling) → not (nullable g) ≡ true → disjoint (goes_on g) (firsts g) ≡ true → ((x : A) → Takes g (f x)) → (xs : List A) → Takes (many g) (flat_map f xs)
every_taken g f n d each xs = taken_many rules g (flat_map f xs) (every_repeated g f n d each xs)

pub each_after_taken : {A : Type 0} (s : Symbol) (g : Grammar) (f : A → Spelling) → disjoint (goes_on (both (sign s) g)) (firsts (both (sign s) g)) ≡ true → ((x : A) → Takes g (f x)) → (xs : List A) → Takes (many (both (sign s) g)) (each_after (kind.Symbol s) f xs)
each_after_taken s g f d each xs = every_taken (both (sign s) g) (λ x. kind.Symbol s ∷ f x) refl d (λ x. then_taken refl (sign_taken s) (each x)) xs

pub group_taken : (opening : TokenKind) (n : Inside) (closing : TokenKind) (a : Spelling) → disjoint (goes_on (rules n)) (class_of closing ∷ []) ≡ true → Takes (rules n) a → Takes (group opening n closing) (opening ∷ (a ++ closing ∷ []))
group_taken opening n closing a d ta = taken_group rules opening n closing opening closing a refl refl d ta

-- ---- names and atoms

pub reference_taken : (r : Reference) → Takes reference_g (reference_tokens r)
unfolding reference_g
reference_taken (Reference.Root p) = first_taken refl (word_taken word.Root)
reference_taken (Reference.Name n) = second_taken refl (name_taken n)

field_taken : (f : Field) → Takes field_g (field_tokens f)
unfolding field_g
field_taken (Field.Key p) = first_taken refl (word_taken word.Key)
field_taken (Field.Name n) = second_taken refl (name_taken n)

truth_word_taken : (b : Bool) → Takes truth_g (keyword (truth_word b))
unfolding truth_g
truth_word_taken true = first_taken refl (word_taken word.True)
truth_word_taken false = second_taken refl (word_taken word.False)

pub truth_taken : (t : Truth) → Takes truth_g (truth_tokens t)
truth_taken t = truth_word_taken t.value

pub dotted_taken : {A : Type 0} (g : Grammar) (f : A → Spelling) → ((x : A) → Takes g (f x)) → (o : Option A) → Takes (perhaps (both (sign symbol.Dot) g)) (dotted_tokens f o)
dotted_taken g f each o = perhaps_taken (both (sign symbol.Dot) g) (λ x. mark symbol.Dot ++ f x) refl (λ x. then_taken refl (sign_taken symbol.Dot) (each x)) o

operand_taken : (o : Operand) → Takes operand_g (operand_tokens o)
unfolding operand_g node_operand_g reference_g field_g
operand_taken (Operand.Node node field) = second_taken refl (second_taken refl (second_taken refl (then_taken refl (reference_taken node) (dotted_taken field_g field_tokens field_taken field))))
operand_taken (Operand.Min p) = first_taken refl (word_taken word.Min)
operand_taken (Operand.Max p) = second_taken refl (first_taken refl (word_taken word.Max))
operand_taken (Operand.Null p) = second_taken refl (second_taken refl (first_taken refl (word_taken word.Null)))

atom_end_taken : (e : AtomEnd) → Takes atom_end_g (atom_end_tokens e)
unfolding atom_end_g
atom_end_taken AtomEnd.Nothing = second_taken refl (second_taken refl (second_taken refl (second_taken refl (second_taken refl (taken_ahead rules)))))
atom_end_taken (AtomEnd.Compared Comparison.Equal p o) = first_taken refl (then_taken refl (sign_taken symbol.Equal) (operand_taken o))
atom_end_taken (AtomEnd.Compared Comparison.NotEqual p o) = second_taken refl (first_taken refl (then_taken refl (sign_taken symbol.NotEqual) (operand_taken o)))
atom_end_taken (AtomEnd.Compared Comparison.Less p o) = second_taken refl (second_taken refl (first_taken refl (then_taken refl (sign_taken symbol.Less) (operand_taken o))))
atom_end_taken (AtomEnd.Compared Comparison.AtMost p o) = second_taken refl (second_taken refl (second_taken refl (first_taken refl (then_taken refl (sign_taken symbol.AtMost) (operand_taken o)))))
atom_end_taken (AtomEnd.In p n) = second_taken refl (second_taken refl (second_taken refl (second_taken refl (first_taken refl (then_taken refl (word_taken word.In) (name_taken n))))))

pub atom_taken : (a : Atom) → Takes atom_g (atom_tokens a)
unfolding reference_g field_g node_operand_g operand_g atom_end_g atom_g
atom_taken a = then_taken refl (operand_taken a.operand) (atom_end_taken a.end)

-- ---- by induction over conditions

abbrev LiteralTaken : Literal → Type 0
LiteralTaken l = Takes literal_g (literal_tokens l)

abbrev ConditionTaken : Condition → Type 0
ConditionTaken c = Takes condition_g (condition_tokens c)

abbrev ConjunctionTaken : Conjunction → Type 0
ConjunctionTaken c = Takes conjunction_g (conjunction_tokens c)

-- a part with its proof
abbrev ProvedLiteral : Type 0
ProvedLiteral = (l : Literal) × LiteralTaken l

abbrev ProvedCondition : Type 0
ProvedCondition = (c : Condition) × ConditionTaken c

abbrev ProvedConjunction : Type 0
ProvedConjunction = (c : Conjunction) × ConjunctionTaken c

and_apart : disjoint (goes_on (both (sign symbol.And) literal_g)) (firsts (both (sign symbol.And) literal_g)) ≡ true
unfolding reference_g field_g node_operand_g operand_g atom_end_g atom_g negation_g group_g literal_g conjunction_g condition_g
and_apart = refl

or_apart : disjoint (goes_on (both (sign symbol.Or) conjunction_g)) (firsts (both (sign symbol.Or) conjunction_g)) ≡ true
unfolding reference_g field_g node_operand_g operand_g atom_end_g atom_g negation_g group_g literal_g conjunction_g condition_g
or_apart = refl

literals_taken : (ls : List ProvedLiteral) → Repeated rules (both (sign symbol.And) literal_g) (each_after (kind.Symbol symbol.And) (λ tokens. tokens) (map literal_tokens (map (λ e. e.0) ls)))
literals_taken [] = no_repeat rules (both (sign symbol.And) literal_g)
literals_taken (e ∷ ls) = repeat rules (both (sign symbol.And) literal_g) (mark symbol.And ++ literal_tokens e.0) (each_after (kind.Symbol symbol.And) (λ tokens. tokens) (map literal_tokens (map (λ e. e.0) ls))) refl and_apart (then_taken refl (sign_taken symbol.And) e.1) (literals_taken ls)

conjunctions_taken : (cs : List ProvedConjunction) → Repeated rules (both (sign symbol.Or) conjunction_g) (each_after (kind.Symbol symbol.Or) (λ tokens. tokens) (map conjunction_tokens (map (λ e. e.0) cs)))
conjunctions_taken [] = no_repeat rules (both (sign symbol.Or) conjunction_g)
conjunctions_taken (e ∷ cs) = repeat rules (both (sign symbol.Or) conjunction_g) (mark symbol.Or ++ conjunction_tokens e.0) (each_after (kind.Symbol symbol.Or) (λ tokens. tokens) (map conjunction_tokens (map (λ e. e.0) cs))) refl or_apart (then_taken refl (sign_taken symbol.Or) e.1) (conjunctions_taken cs)

abbrev plain_literal : Literal-F ProvedLiteral ProvedCondition ProvedConjunction → Literal-F Literal Condition Conjunction
plain_literal y = map-Literal ProvedLiteral ProvedCondition ProvedConjunction Literal Condition Conjunction (λ e. e.0) (λ e. e.0) (λ e. e.0) y

literal_layer : (y : Literal-F ProvedLiteral ProvedCondition ProvedConjunction) → Takes literal_g (literal_step (map-Literal Literal Condition Conjunction Spelling Spelling Spelling literal_tokens condition_tokens conjunction_tokens (plain_literal y)))
unfolding reference_g field_g node_operand_g operand_g atom_end_g atom_g negation_g group_g literal_g conjunction_g condition_g rules
literal_layer (Literal-F.True place) = first_taken refl (word_taken word.True)
literal_layer (Literal-F.False place) = second_taken refl (first_taken refl (word_taken word.False))
literal_layer (Literal-F.Group place inner) = second_taken refl (second_taken refl (first_taken refl (group_taken (kind.Symbol symbol.OpenParenthesis) condition (kind.Symbol symbol.CloseParenthesis) (condition_tokens inner.0) refl inner.1)))
literal_layer (Literal-F.Not place node field) =
    second_taken refl (second_taken refl (second_taken refl (first_taken refl (then_taken refl (sign_taken symbol.Not) (then_taken refl (name_taken node) (then_taken refl (sign_taken symbol.Dot) (name_taken field)))))))
literal_layer (Literal-F.Atom atom) = second_taken refl (second_taken refl (second_taken refl (second_taken refl (atom_taken atom))))

abbrev plain_condition : Condition-F ProvedLiteral ProvedCondition ProvedConjunction → Condition-F Literal Condition Conjunction
plain_condition y = map-Condition ProvedLiteral ProvedCondition ProvedConjunction Literal Condition Conjunction (λ e. e.0) (λ e. e.0) (λ e. e.0) y

abbrev plain_conjunction : Conjunction-F ProvedLiteral ProvedCondition ProvedConjunction → Conjunction-F Literal Condition Conjunction
plain_conjunction y = map-Conjunction ProvedLiteral ProvedCondition ProvedConjunction Literal Condition Conjunction (λ e. e.0) (λ e. e.0) (λ e. e.0) y

conjunction_taken : (first : ProvedLiteral) (others : List ProvedLiteral) → Takes conjunction_g (literal_tokens first.0 ++ each_after (kind.Symbol symbol.And) (λ tokens. tokens) (map literal_tokens (map (λ e. e.0) others)))
unfolding reference_g field_g node_operand_g operand_g atom_end_g atom_g negation_g group_g literal_g conjunction_g condition_g
conjunction_taken first others = then_taken refl first.1 (taken_many rules _ _ (literals_taken others))

condition_parts_taken : (first : ProvedConjunction) (others : List ProvedConjunction) → Takes condition_g (conjunction_tokens first.0 ++ each_after (kind.Symbol symbol.Or) (λ tokens. tokens) (map conjunction_tokens (map (λ e. e.0) others)))
unfolding reference_g field_g node_operand_g operand_g atom_end_g atom_g negation_g group_g literal_g conjunction_g condition_g
condition_parts_taken first others = then_taken refl first.1 (taken_many rules _ _ (conjunctions_taken others))

pub condition_taken : (c : Condition) → Takes condition_g (condition_tokens c)
condition_taken = ind-Condition LiteralTaken ConditionTaken ConjunctionTaken
    (λ x y is. subst (λ (z : Literal-F Literal Condition Conjunction). LiteralTaken (roll-Literal z)) is
    (subst (λ (ks : Spelling). Takes literal_g ks) (sym (fold-roll-Literal Spelling Spelling Spelling literal_step condition_step conjunction_step (plain_literal y))) (literal_layer y)))
    (λ x y is. subst (λ (z : Condition-F Literal Condition Conjunction). ConditionTaken (roll-Condition z)) is
    (subst (λ (ks : Spelling). Takes condition_g ks) (sym (fold-roll-Condition Spelling Spelling Spelling literal_step condition_step conjunction_step (plain_condition y))) (condition_parts_taken y.first y.others)))
    (λ x y is. subst (λ (z : Conjunction-F Literal Condition Conjunction). ConjunctionTaken (roll-Conjunction z)) is
    (subst (λ (ks : Spelling). Takes conjunction_g ks) (sym (fold-roll-Conjunction Spelling Spelling Spelling literal_step condition_step conjunction_step (plain_conjunction y))) (conjunction_taken y.first y.others)))
