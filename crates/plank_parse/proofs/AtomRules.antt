-- The readers of names, operands and atoms follow the grammar.
use Rattle.std.proofs.Common.{◌≡◌, ℕ, List, [], ◌∷◌, ◌++◌, refl, ap}
use Rattle.plank_base.specs.declared.places.Place.{Place}
use Rattle.plank_lex.specs.Tokens.{kinds_of}
use Rattle.plank_lex.specs.declared.symbols.Symbol.TheVariants as symbol
use Rattle.plank_lex.specs.declared.words.Reserved.TheVariants as word
use Rattle.plank_lex.specs.declared.tokens.Token.{Token}
use Rattle.plank_lex.specs.declared.tokens.TokenKind.{TokenKind}
use Rattle.plank_lex.specs.declared.tokens.TokenKind.TheVariants as kind
use Rattle.plank_ast.specs.declared.names.Reference.{Reference}
use Rattle.plank_ast.specs.declared.names.Field.{Field}
use Rattle.plank_ast.specs.declared.conditions.Operand.{Operand}
use Rattle.plank_ast.specs.declared.conditions.Comparison.{Comparison}
use Rattle.plank_ast.specs.declared.conditions.AtomEnd.{AtomEnd}
use Rattle.plank_ast.specs.Spelling.{Spelling, mark, keyword, comparison_symbol, reference_tokens, field_tokens, truth_tokens, dotted_tokens, operand_tokens, atom_end_tokens, atom_tokens}
use Rattle.plank_parse.specs.Readers.{Reader, ◌<$>◌, name}
use Rattle.plank_parse.specs.Conditions.{reference_by, reference, field_by, field, dotted, truth_by, truth, node_operand, operand_by, operand, compared, membership, atom_end_by, atom_end, atom}
use Rattle.plank_parse.proofs.Grammars.{Grammar, symbol_class, reads, both, read_one, halted}
use Rattle.plank_parse.proofs.TextGrammar.{rules, sign, perhaps, reference_g, field_g, truth_g, node_operand_g, operand_g, atom_end_g, atom_g}
use Rattle.plank_parse.proofs.Follows.{Follow, Follows, Says, prefixed, step, finish, symbol_test, symbol_law, name_law, take_one, take_none, halt, optional_law, behind_law, dispatch}

abbrev pub token : TokenKind → Place → ℕ → Token
token k p n = record { kind = k; place = p; length = n }

-- ---- names

named_reference : Follows (read_one 60) (Reference.Name <$> name) (Says reference_tokens)
named_reference = finish _ _ Reference.Name _ _ name_law (λ n. refl)

reference_arm : (l : ℕ) (k : TokenKind) (p : Place) (n : ℕ) (ts : List Token) → Follow (reads rules l reference_g (k ∷ kinds_of ts)) (Says reference_tokens) (token k p n ∷ ts) (reference_by k (token k p n ∷ ts))
unfolding reference_g
reference_arm l (kind.Reserved word.Root) p n ts = take_one _ _ _ _ _ refl refl
reference_arm l (kind.Symbol symbol.OpenBrace) p n ts = named_reference.at (token (kind.Symbol symbol.OpenBrace) p n ∷ ts)
reference_arm l k p n ts = named_reference.at (token k p n ∷ ts)

pub reference_law : (l : ℕ) → Follows (reads rules l reference_g) reference (Says reference_tokens)
unfolding reference reference_g
reference_law l = dispatch _ reference_by _ refl (reference_arm l)

named_field : Follows (read_one 60) (Field.Name <$> name) (Says field_tokens)
named_field = finish _ _ Field.Name _ _ name_law (λ n. refl)

field_arm : (l : ℕ) (k : TokenKind) (p : Place) (n : ℕ) (ts : List Token) → Follow (reads rules l field_g (k ∷ kinds_of ts)) (Says field_tokens) (token k p n ∷ ts) (field_by k (token k p n ∷ ts))
unfolding field_g
field_arm l (kind.Reserved word.Key) p n ts = take_one _ _ _ _ _ refl refl
field_arm l (kind.Symbol symbol.OpenBrace) p n ts = named_field.at (token (kind.Symbol symbol.OpenBrace) p n ∷ ts)
field_arm l k p n ts = named_field.at (token k p n ∷ ts)

pub field_law : (l : ℕ) → Follows (reads rules l field_g) field (Says field_tokens)
unfolding field field_g
field_law l = dispatch _ field_by _ refl (field_arm l)

truth_arm : (l : ℕ) (k : TokenKind) (p : Place) (n : ℕ) (ts : List Token) → Follow (reads rules l truth_g (k ∷ kinds_of ts)) (Says truth_tokens) (token k p n ∷ ts) (truth_by k (token k p n ∷ ts))
unfolding truth_g
truth_arm l (kind.Reserved word.True) p n ts = take_one _ _ _ _ _ refl refl
truth_arm l (kind.Reserved word.False) p n ts = take_one _ _ _ _ _ refl refl
truth_arm l (kind.Symbol symbol.OpenBrace) p n ts = halt _ _ refl
truth_arm l k p n ts = halt _ _ refl

pub truth_law : (l : ℕ) → Follows (reads rules l truth_g) truth (Says truth_tokens)
unfolding truth truth_g
truth_law l = dispatch _ truth_by _ refl (truth_arm l)

-- a dot and what follows it, where there is a dot
pub dotted_law : {A : Type 0} (l : ℕ) (g : Grammar) (r : Reader A) (spelled : A → Spelling) → Follows (reads rules l g) r (Says spelled) → Follows (reads rules l (perhaps (both (sign symbol.Dot) g))) (dotted r) (Says (dotted_tokens spelled))
dotted_law l g r spelled f = optional_law _ (kind.Symbol symbol.Dot) (symbol_class symbol.Dot ∷ []) _ _ (symbol_test symbol.Dot) (behind_law _ _ (kind.Symbol symbol.Dot) r spelled (symbol_law symbol.Dot) f)

-- ---- atoms

node_operand_law : (l : ℕ) → Follows (reads rules l node_operand_g) node_operand (Says operand_tokens)
unfolding node_operand node_operand_g
node_operand_law l = step _ _ _ _ _ _ (reference_law l) (λ node. finish _ _ (Operand.Node node) _ _ (dotted_law l field_g field field_tokens (field_law l)) (λ f. refl))

operand_arm : (l : ℕ) (k : TokenKind) (p : Place) (n : ℕ) (ts : List Token) → Follow (reads rules l operand_g (k ∷ kinds_of ts)) (Says operand_tokens) (token k p n ∷ ts) (operand_by k (token k p n ∷ ts))
unfolding operand_g
operand_arm l (kind.Reserved word.Min) p n ts = take_one _ _ _ _ _ refl refl
operand_arm l (kind.Reserved word.Max) p n ts = take_one _ _ _ _ _ refl refl
operand_arm l (kind.Reserved word.Null) p n ts = take_one _ _ _ _ _ refl refl
operand_arm l (kind.Symbol symbol.OpenBrace) p n ts = (node_operand_law l).at (token (kind.Symbol symbol.OpenBrace) p n ∷ ts)
operand_arm l k p n ts = (node_operand_law l).at (token k p n ∷ ts)

operand_none : (l : ℕ) → reads rules l operand_g [] ≡ halted []
unfolding operand_g node_operand_g reference_g
operand_none l = refl

pub operand_law : (l : ℕ) → Follows (reads rules l operand_g) operand (Says operand_tokens)
unfolding operand
operand_law l = dispatch _ operand_by _ (operand_none l) (operand_arm l)

-- what is compared, after the token of the comparison
compared_at : (l : ℕ) (c : Comparison) (t : Token) (ts : List Token) → t.kind ≡ kind.Symbol (comparison_symbol c) → Follow (reads rules l operand_g (kinds_of ts)) (Says atom_end_tokens) (t ∷ ts) (compared c (t ∷ ts))
unfolding compared
compared_at l c t ts e = prefixed _ _ _ (mark (comparison_symbol c)) _ (t ∷ []) ts _ refl (ap (λ (k : TokenKind). k ∷ []) e) refl
    ((finish _ _ (AtomEnd.Compared c t.place) _ (λ (a : AtomEnd) (ks : Spelling). mark (comparison_symbol c) ++ ks ≡ atom_end_tokens a) (operand_law l) (λ o. refl)).at ts)

membership_at : (l : ℕ) (t : Token) (ts : List Token) → t.kind ≡ kind.Reserved word.In → Follow (read_one 60 (kinds_of ts)) (Says atom_end_tokens) (t ∷ ts) (membership (t ∷ ts))
unfolding membership
membership_at l t ts e = prefixed _ _ _ (keyword word.In) _ (t ∷ []) ts _ refl (ap (λ (k : TokenKind). k ∷ []) e) refl
    ((finish _ _ (AtomEnd.In t.place) _ (λ (a : AtomEnd) (ks : Spelling). keyword word.In ++ ks ≡ atom_end_tokens a) name_law (λ o. refl)).at ts)

atom_end_arm : (l : ℕ) (k : TokenKind) (p : Place) (n : ℕ) (ts : List Token) → Follow (reads rules l atom_end_g (k ∷ kinds_of ts)) (Says atom_end_tokens) (token k p n ∷ ts) (atom_end_by k (token k p n ∷ ts))
unfolding atom_end_g
atom_end_arm l (kind.Symbol symbol.Equal) p n ts = compared_at l Comparison.Equal (token (kind.Symbol symbol.Equal) p n) ts refl
atom_end_arm l (kind.Symbol symbol.NotEqual) p n ts = compared_at l Comparison.NotEqual (token (kind.Symbol symbol.NotEqual) p n) ts refl
atom_end_arm l (kind.Symbol symbol.Less) p n ts = compared_at l Comparison.Less (token (kind.Symbol symbol.Less) p n) ts refl
atom_end_arm l (kind.Symbol symbol.AtMost) p n ts = compared_at l Comparison.AtMost (token (kind.Symbol symbol.AtMost) p n) ts refl
atom_end_arm l (kind.Reserved word.In) p n ts = membership_at l (token (kind.Reserved word.In) p n) ts refl
atom_end_arm l k p n ts = take_none _ _ _ _ refl refl

pub atom_end_law : (l : ℕ) → Follows (reads rules l atom_end_g) atom_end (Says atom_end_tokens)
unfolding atom_end atom_end_g
atom_end_law l = dispatch _ atom_end_by _ refl (atom_end_arm l)

pub atom_law : (l : ℕ) → Follows (reads rules l atom_g) atom (Says atom_tokens)
unfolding atom atom_g
atom_law l = step _ _ _ _ _ _ (operand_law l) (λ o. finish _ _ (λ e. record { operand = o; end = e }) _ _ (atom_end_law l) (λ e. refl))
