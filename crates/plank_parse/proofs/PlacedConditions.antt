-- The readers of names, atoms and conditions keep the places of their tokens.
use Rattle.std.proofs.Common.{◌≡◌, ℕ, zero, suc, true, false, List, [], ◌∷◌, map, refl, sym, ap, ◌∙◌}
use Rattle.plank_base.specs.declared.places.Place.{Place}
use Rattle.plank_lex.specs.declared.symbols.Symbol.TheVariants as symbols
use Rattle.plank_lex.specs.declared.words.Reserved.TheVariants as words
use Rattle.plank_lex.specs.declared.tokens.Token.{Token}
use Rattle.plank_lex.specs.declared.tokens.TokenKind.{TokenKind}
use Rattle.plank_lex.specs.declared.tokens.TokenKind.TheVariants as kind
use Rattle.plank_ast.specs.declared.names.Name.{Name}
use Rattle.plank_ast.specs.declared.names.Reference.{Reference}
use Rattle.plank_ast.specs.declared.names.Field.{Field}
use Rattle.plank_ast.specs.declared.names.Truth.{Truth}
use Rattle.plank_ast.specs.declared.conditions.Comparison.{Comparison}
use Rattle.plank_ast.specs.declared.conditions.Operand.{Operand}
use Rattle.plank_ast.specs.declared.conditions.AtomEnd.{AtomEnd}
use Rattle.plank_ast.specs.declared.conditions.Atom.{Atom}
use Rattle.plank_ast.specs.declared.conditions.Condition.{Condition}
use Rattle.plank_ast.specs.declared.conditions.Conjunction.{Conjunction}
use Rattle.plank_ast.specs.declared.conditions.Literal.{Literal}
use Rattle.plank_ast.specs.declared.conditions.Literal.TheVariants as literals
use Rattle.plank_ast.specs.declared.conditions.Literal.TheOpen.{Literal-F}
use Rattle.plank_ast.specs.declared.conditions.Literal.TheViews.{roll-Literal, roll-Condition, roll-Conjunction}
use Rattle.plank_ast.specs.declared.conditions.Literal.TheFolds.{map-Literal, fold-roll-Literal, fold-roll-Condition, fold-roll-Conjunction}
use Rattle.plank_parse.specs.Readers.{Reader, ◌<$>◌, name, is_kind}
use Rattle.plank_parse.specs.Conditions.{reference_by, reference, field_by, field, dotted, truth_by, truth, node_operand, operand_by, operand, compared, membership, atom_end_by, atom_end, atom, negation, literal_by, literal_over, conjunction_over, condition_over, grouped, group, condition}
use Rattle.plank_parse.specs.Placing.{Places, ◌⊕◌, at, bare, each_behind, name_places, reference_places, field_places, truth_places, dotted_places, operand_places, atom_end_places, atom_places, literal_layer, condition_layer, conjunction_layer, condition_places, conjunction_places, literal_places}
use Rattle.plank_parse.proofs.Standing.{join, moved, Finds, Keeps, At, step, finish, symbol_at, bare_symbol, name_at, token, dispatch, take_one, taken_at, pure_at, none, optional_at, many_at, behind_at, blocked_at}

-- ---- names

named_reference : Keeps (Reference.Name <$> name) (At reference_places)
named_reference = finish Reference.Name name_at (λ a front h. h)

reference_arm : (k : TokenKind) (p : Place) (n : ℕ) (ts : List Token) → Finds (At reference_places) (token k p n ∷ ts) (reference_by k (token k p n ∷ ts))
reference_arm (kind.Reserved words.Root) p n ts = take_one Reference.Root reference_places (token (kind.Reserved words.Root) p n) ts refl
reference_arm (kind.Symbol symbols.OpenBrace) p n ts = named_reference.of (token (kind.Symbol symbols.OpenBrace) p n ∷ ts)
reference_arm k p n ts = named_reference.of (token k p n ∷ ts)

pub reference_at : Keeps reference (At reference_places)
unfolding reference
reference_at = dispatch reference_by (At reference_places) reference_arm

named_field : Keeps (Field.Name <$> name) (At field_places)
named_field = finish Field.Name name_at (λ a front h. h)

field_arm : (k : TokenKind) (p : Place) (n : ℕ) (ts : List Token) → Finds (At field_places) (token k p n ∷ ts) (field_by k (token k p n ∷ ts))
field_arm (kind.Reserved words.Key) p n ts = take_one Field.Key field_places (token (kind.Reserved words.Key) p n) ts refl
field_arm (kind.Symbol symbols.OpenBrace) p n ts = named_field.of (token (kind.Symbol symbols.OpenBrace) p n ∷ ts)
field_arm k p n ts = named_field.of (token k p n ∷ ts)

pub field_at : Keeps field (At field_places)
unfolding field
field_at = dispatch field_by (At field_places) field_arm

pub dotted_at : {A : Type 0} {r : Reader A} {places : A → Places} → Keeps r (At places) → Keeps (dotted r) (At (dotted_places places))
dotted_at f = optional_at (kind.Symbol symbols.Dot) (behind_at (kind.Symbol symbols.Dot) f)

abbrev yes_at : Place → Truth
yes_at p = record { value = true; place = p }

abbrev no_at : Place → Truth
no_at p = record { value = false; place = p }

truth_arm : (k : TokenKind) (p : Place) (n : ℕ) (ts : List Token) → Finds (At truth_places) (token k p n ∷ ts) (truth_by k (token k p n ∷ ts))
truth_arm (kind.Reserved words.True) p n ts = take_one yes_at truth_places (token (kind.Reserved words.True) p n) ts refl
truth_arm (kind.Reserved words.False) p n ts = take_one no_at truth_places (token (kind.Reserved words.False) p n) ts refl
truth_arm (kind.Symbol symbols.OpenBrace) p n ts = tt
truth_arm k p n ts = tt

pub truth_at : Keeps truth (At truth_places)
unfolding truth
truth_at = dispatch truth_by (At truth_places) truth_arm

-- ---- atoms

node_operand_at : Keeps node_operand (At operand_places)
unfolding node_operand
node_operand_at = step reference_at (λ node a h. finish (Operand.Node node) (dotted_at field_at) (λ f b k. join h k))

operand_arm : (k : TokenKind) (p : Place) (n : ℕ) (ts : List Token) → Finds (At operand_places) (token k p n ∷ ts) (operand_by k (token k p n ∷ ts))
operand_arm (kind.Reserved words.Min) p n ts = take_one Operand.Min operand_places (token (kind.Reserved words.Min) p n) ts refl
operand_arm (kind.Reserved words.Max) p n ts = take_one Operand.Max operand_places (token (kind.Reserved words.Max) p n) ts refl
operand_arm (kind.Reserved words.Null) p n ts = take_one Operand.Null operand_places (token (kind.Reserved words.Null) p n) ts refl
operand_arm (kind.Symbol symbols.OpenBrace) p n ts = node_operand_at.of (token (kind.Symbol symbols.OpenBrace) p n ∷ ts)
operand_arm k p n ts = node_operand_at.of (token k p n ∷ ts)

pub operand_at : Keeps operand (At operand_places)
unfolding operand
operand_at = dispatch operand_by (At operand_places) operand_arm

compared_at : (c : Comparison) → Keeps (compared c) (At atom_end_places)
unfolding compared
compared_at c = step taken_at (λ place a h. finish (AtomEnd.Compared c place) operand_at (λ o b k. join h k))

membership_at : Keeps membership (At atom_end_places)
unfolding membership
membership_at = step taken_at (λ place a h. finish (AtomEnd.In place) name_at (λ o b k. join h k))

atom_end_arm : (k : TokenKind) (p : Place) (n : ℕ) (ts : List Token) → Finds (At atom_end_places) (token k p n ∷ ts) (atom_end_by k (token k p n ∷ ts))
atom_end_arm (kind.Symbol symbols.Equal) p n ts = (compared_at Comparison.Equal).of (token (kind.Symbol symbols.Equal) p n ∷ ts)
atom_end_arm (kind.Symbol symbols.NotEqual) p n ts = (compared_at Comparison.NotEqual).of (token (kind.Symbol symbols.NotEqual) p n ∷ ts)
atom_end_arm (kind.Symbol symbols.Less) p n ts = (compared_at Comparison.Less).of (token (kind.Symbol symbols.Less) p n ∷ ts)
atom_end_arm (kind.Symbol symbols.AtMost) p n ts = (compared_at Comparison.AtMost).of (token (kind.Symbol symbols.AtMost) p n ∷ ts)
atom_end_arm (kind.Reserved words.In) p n ts = membership_at.of (token (kind.Reserved words.In) p n ∷ ts)
atom_end_arm k p n ts = (pure_at AtomEnd.Nothing (At atom_end_places) none).of (token k p n ∷ ts)

pub atom_end_at : Keeps atom_end (At atom_end_places)
unfolding atom_end
atom_end_at = dispatch atom_end_by (At atom_end_places) atom_end_arm

abbrev atom_of : Operand → AtomEnd → Atom
atom_of operand end = record { operand = operand; end = end }

pub atom_at : Keeps atom (At atom_places)
unfolding atom
atom_at = step operand_at (λ o a h. finish (atom_of o) atom_end_at (λ e b k. join h k))

-- ---- the places of one layer

literal_kept : (y : Literal-F Literal Condition Conjunction) → literal_places (roll-Literal y) ≡ literal_layer (map-Literal Literal Condition Conjunction Places Places Places literal_places condition_places conjunction_places y)
literal_kept y = fold-roll-Literal Places Places Places literal_layer condition_layer conjunction_layer y

each_mapped : {A : Type 0} (places : A → Places) (parts : List A) → each_behind (λ ps. ps) (map places parts) ≡ each_behind places parts
each_mapped places [] = refl
each_mapped places (part ∷ parts) = ap (λ (ps : Places). (bare ⊕ places part) ⊕ ps) (each_mapped places parts)

conjunction_kept : (first : Literal) (others : List Literal) → conjunction_places (roll-Conjunction (record { first = first; others = others })) ≡ literal_places first ⊕ each_behind literal_places others
conjunction_kept first others =
    fold-roll-Conjunction Places Places Places literal_layer condition_layer conjunction_layer (record { first = first; others = others })
    ∙ ap (λ (ps : Places). literal_places first ⊕ ps) (each_mapped literal_places others)

condition_kept : (first : Conjunction) (others : List Conjunction) → condition_places (roll-Condition (record { first = first; others = others })) ≡ conjunction_places first ⊕ each_behind conjunction_places others
condition_kept first others =
    fold-roll-Condition Places Places Places literal_layer condition_layer conjunction_layer (record { first = first; others = others })
    ∙ ap (λ (ps : Places). conjunction_places first ⊕ ps) (each_mapped conjunction_places others)

true_kept : (p : Place) → literal_places (literals.True p) ≡ at p
true_kept p = ap literal_places (sym (literals.rolls-True p)) ∙ literal_kept (Literal-F.True p)

false_kept : (p : Place) → literal_places (literals.False p) ≡ at p
false_kept p = ap literal_places (sym (literals.rolls-False p)) ∙ literal_kept (Literal-F.False p)

not_kept : (p : Place) (node field : Name) → literal_places (literals.Not p node field) ≡ at p ⊕ name_places node ⊕ bare ⊕ name_places field
not_kept p node field = ap literal_places (sym (literals.rolls-Not p node field)) ∙ literal_kept (Literal-F.Not p node field)

group_kept : (p : Place) (inner : Condition) → literal_places (literals.Group p inner) ≡ at p ⊕ condition_places inner ⊕ bare
group_kept p inner = ap literal_places (sym (literals.rolls-Group p inner)) ∙ literal_kept (Literal-F.Group p inner)

atom_kept : (a : Atom) → literal_places (literals.Atom a) ≡ atom_places a
atom_kept a = ap literal_places (sym (literals.rolls-Atom a)) ∙ literal_kept (Literal-F.Atom a)

-- ---- conditions

negation_at : Keeps negation (At literal_places)
unfolding negation
negation_at = step (symbol_at symbols.Not) (λ place a h. step name_at (λ node b k. step (bare_symbol symbols.Dot) (λ dot d m.
    finish (literals.Not place node) name_at (λ field e n. moved (sym (not_kept place node field)) (join h (join k (join m n)))))))

atom_literal : Keeps (literals.Atom <$> atom) (At literal_places)
atom_literal = finish literals.Atom atom_at (λ a front h. moved (sym (atom_kept a)) h)

literal_arm : (inner : Reader Literal) → Keeps inner (At literal_places) → (k : TokenKind) (p : Place) (n : ℕ) (ts : List Token) → Finds (At literal_places) (token k p n ∷ ts) (literal_by inner k (token k p n ∷ ts))
literal_arm inner f (kind.Reserved words.True) p n ts = take_one literals.True literal_places (token (kind.Reserved words.True) p n) ts (true_kept p)
literal_arm inner f (kind.Reserved words.False) p n ts = take_one literals.False literal_places (token (kind.Reserved words.False) p n) ts (false_kept p)
literal_arm inner f (kind.Symbol symbols.OpenParenthesis) p n ts = f.of (token (kind.Symbol symbols.OpenParenthesis) p n ∷ ts)
literal_arm inner f (kind.Symbol symbols.Not) p n ts = negation_at.of (token (kind.Symbol symbols.Not) p n ∷ ts)
literal_arm inner f k p n ts = atom_literal.of (token k p n ∷ ts)

literal_over_at : (inner : Reader Literal) → Keeps inner (At literal_places) → Keeps (literal_over inner) (At literal_places)
unfolding literal_over
literal_over_at inner f = dispatch (literal_by inner) (At literal_places) (literal_arm inner f)

abbrev conjunction_of : Literal → List Literal → Conjunction
conjunction_of first others = roll-Conjunction (record { first = first; others = others })

abbrev condition_of : Conjunction → List Conjunction → Condition
condition_of first others = roll-Condition (record { first = first; others = others })

conjunction_over_at : (inner : Reader Literal) → Keeps inner (At literal_places) → Keeps (conjunction_over inner) (At conjunction_places)
unfolding conjunction_over
conjunction_over_at inner f = step (literal_over_at inner f) (λ first a h.
    finish (conjunction_of first) (many_at (is_kind (kind.Symbol symbols.And)) (behind_at (kind.Symbol symbols.And) (literal_over_at inner f)))
    (λ others b k. moved (sym (conjunction_kept first others)) (join h k)))

condition_over_at : (inner : Reader Literal) → Keeps inner (At literal_places) → Keeps (condition_over inner) (At condition_places)
unfolding condition_over
condition_over_at inner f = step (conjunction_over_at inner f) (λ first a h.
    finish (condition_of first) (many_at (is_kind (kind.Symbol symbols.Or)) (behind_at (kind.Symbol symbols.Or) (conjunction_over_at inner f)))
    (λ others b k. moved (sym (condition_kept first others)) (join h k)))

grouped_at : (inner : Reader Literal) → Keeps inner (At literal_places) → Keeps (grouped inner) (At literal_places)
unfolding grouped
grouped_at inner f = step (symbol_at symbols.OpenParenthesis) (λ place a h. step (condition_over_at inner f) (λ found b k.
    finish (λ close. literals.Group place found) (bare_symbol symbols.CloseParenthesis) (λ close d m. moved (sym (group_kept place found)) (join h (join k m)))))

group_at : (levels : ℕ) → Keeps (group levels) (At literal_places)
unfolding group
group_at zero = blocked_at symbols.OpenParenthesis (At literal_places)
group_at (suc levels) = grouped_at (group levels) (group_at levels)

pub condition_at : (levels : ℕ) → Keeps (condition levels) (At condition_places)
condition_at levels = condition_over_at (group levels) (group_at levels)
