-- Readers that follow a grammar: what they find is what the grammar finds, and what was read is spelled so.
use Rattle.std.proofs.Common.{◌≡◌, ℕ, zero, suc, ◌+◌, Bool, true, false, not, ◌||◌, ◌==◌, List, [], ◌∷◌, ◌++◌, length, Option, Some, None, if◌then◌else◌, refl, sym, ap, subst, append_assoc, ◌∙◌, arith, rules}
use Rattle.std.specs.Prelude.{nat_le as leb}
use Rattle.std.specs.List.{flat_map}
use Rattle.std.specs.Option.{option_map_or}
use Rattle.std.proofs.lemmas.Bool.{true≢false, false≢true, eqb-true, eq-eqb, ne_eqb, leb-true, le-leb}
use denote.Enum.Bare.{same_true}
use denote.Enum.Declared.{tag_of}
use Rattle.plank_base.specs.declared.places.Place.{Place}
use Rattle.plank_lex.specs.contracts.symbols.Symbol as symbols
use Rattle.plank_lex.specs.contracts.words.Reserved as words
use Rattle.plank_lex.specs.Kinds.{same_symbol, same_word}
use Rattle.plank_lex.specs.Tokens.{kinds_of}
use Rattle.plank_lex.specs.declared.symbols.Symbol.{Symbol}
use Rattle.plank_lex.specs.declared.symbols.Symbol.TheVariants as symbol
use Rattle.plank_lex.specs.declared.words.Reserved.{Reserved}
use Rattle.plank_lex.specs.declared.words.Reserved.TheVariants as word
use Rattle.plank_lex.specs.declared.tokens.Token.{Token}
use Rattle.plank_lex.specs.declared.tokens.TokenKind.{TokenKind}
use Rattle.plank_lex.specs.declared.tokens.TokenKind.TheVariants as kind
use Rattle.plank_ast.specs.Spelling.{Spelling, name_tokens}
use Rattle.plank_parse.specs.Readers.{Found, read, stopped, too_deep, Reader, and_then, ◌>>=◌, pure, is_kind, is_name, is_other, begins, expected, name, name_by, by_kind, optional, many_within, many, behind, blocked}
use Rattle.plank_parse.proofs.Grammars.{class_of, symbol_class, word_class, member, starts_in, Outcome, passed, halted, over, Recognizer, then_on, read_one, read_many, no_more}

-- ---- what a reader finds beside what a grammar finds

pub record Reading {A : Type 0} (o : Outcome) (Q : A → Spelling → Type 0) (ts : List Token) (a : A) (rest : List Token) : Type 0 where
  pub front : List Token
  pub split : ts ≡ front ++ rest
  pub says : Q a (kinds_of front)
  pub same : o ≡ passed (kinds_of rest)

pub record Halting (o found : Outcome) (ts rest : List Token) : Type 0 where
  pub front : List Token
  pub split : ts ≡ front ++ rest
  pub same : o ≡ found

abbrev pub Follow : {A : Type 0} → Outcome → (A → Spelling → Type 0) → List Token → Found A → Type 0
Follow o Q ts (read a rest) = Reading o Q ts a rest
Follow o Q ts (stopped rest) = Halting o (halted (kinds_of rest)) ts rest
Follow o Q ts (too_deep rest) = Halting o (over (kinds_of rest)) ts rest

pub record Follows {A : Type 0} (q : Recognizer) (r : Reader A) (Q : A → Spelling → Type 0) : Type 0 where
  pub at : (ts : List Token) → Follow (q (kinds_of ts)) Q ts (r ts)

-- the part is spelled by these tokens
abbrev pub Says : {A : Type 0} → (A → Spelling) → A → Spelling → Type 0
Says spelled a ks = ks ≡ spelled a

pub kinds_append : (a b : List Token) → kinds_of (a ++ b) ≡ kinds_of a ++ kinds_of b
kinds_append [] b = refl
kinds_append (t ∷ a) b = ap (λ (ks : Spelling). t.kind ∷ ks) (kinds_append a b)

-- ---- one step after another

-- tokens in front of what is followed
pub prefixed : {A : Type 0} (Q : A → Spelling → Type 0) (o p : Outcome) (ks : Spelling) (ts front mid : List Token) (x : Found A) → ts ≡ front ++ mid → kinds_of front ≡ ks → o ≡ p → Follow p (λ b k2. Q b (ks ++ k2)) mid x → Follow o Q ts x
prefixed Q o p ks ts front mid (read b rest) split e same w = record {
  front = front ++ w.front;
  split = split ∙ (ap (λ (r : List Token). front ++ r) w.split ∙ sym (append_assoc front w.front rest));
  says = subst (λ (k1 : Spelling). Q b k1) (ap (λ (k1 : Spelling). k1 ++ kinds_of w.front) (sym e) ∙ sym (kinds_append front w.front)) w.says;
  same = same ∙ w.same;
}
prefixed Q o p ks ts front mid (stopped rest) split e same w = record {
  front = front ++ w.front;
  split = split ∙ (ap (λ (r : List Token). front ++ r) w.split ∙ sym (append_assoc front w.front rest));
  same = same ∙ w.same;
}
prefixed Q o p ks ts front mid (too_deep rest) split e same w = record {
  front = front ++ w.front;
  split = split ∙ (ap (λ (r : List Token). front ++ r) w.split ∙ sym (append_assoc front w.front rest));
  same = same ∙ w.same;
}

step_at : {A B : Type 0} (o : Outcome) (p : Recognizer) (s : A → Reader B) (spelled : A → Spelling) (Q : B → Spelling → Type 0) (ts : List Token) (x : Found A) → Follow o (Says spelled) ts x → ((a : A) → Follows p (s a) (λ b ks. Q b (spelled a ++ ks))) → Follow (then_on o p) Q ts (and_then x s)
step_at o p s spelled Q ts (read a rest) v g =
    prefixed Q (then_on o p) (p (kinds_of rest)) (spelled a) ts v.front rest (s a rest) v.split v.says (ap (λ (c : Outcome). then_on c p) v.same) ((g a).at rest)
step_at o p s spelled Q ts (stopped rest) v g = record { front = v.front; split = v.split; same = ap (λ (c : Outcome). then_on c p) v.same }
step_at o p s spelled Q ts (too_deep rest) v g = record { front = v.front; split = v.split; same = ap (λ (c : Outcome). then_on c p) v.same }

pub step : {A B : Type 0} (q p : Recognizer) (r : Reader A) (s : A → Reader B) (spelled : A → Spelling) (Q : B → Spelling → Type 0) → Follows q r (Says spelled) → ((a : A) → Follows p (s a) (λ b ks. Q b (spelled a ++ ks))) → Follows (λ ks. then_on (q ks) p) (r >>= s) Q
step q p r s spelled Q f g = record { at = λ ts. step_at (q (kinds_of ts)) p s spelled Q ts (r ts) (f.at ts) g }

finish_at : {A B : Type 0} (o : Outcome) (f : A → B) (spelled : A → Spelling) (Q : B → Spelling → Type 0) (ts : List Token) (x : Found A) → Follow o (Says spelled) ts x → ((a : A) → Q (f a) (spelled a)) → Follow o Q ts (and_then x (λ a. pure (f a)))
finish_at o f spelled Q ts (read a rest) v g = record { front = v.front; split = v.split; says = subst (λ (ks : Spelling). Q (f a) ks) (sym v.says) (g a); same = v.same }
finish_at o f spelled Q ts (stopped rest) v g = record { front = v.front; split = v.split; same = v.same }
finish_at o f spelled Q ts (too_deep rest) v g = record { front = v.front; split = v.split; same = v.same }

-- the last step, and what is made of all
pub finish : {A B : Type 0} (q : Recognizer) (r : Reader A) (f : A → B) (spelled : A → Spelling) (Q : B → Spelling → Type 0) → Follows q r (Says spelled) → ((a : A) → Q (f a) (spelled a)) → Follows q (r >>= (λ a. pure (f a))) Q
finish q r f spelled Q h g = record { at = λ ts. finish_at (q (kinds_of ts)) f spelled Q ts (r ts) (h.at ts) g }

then_on_twice : (o : Outcome) (p q : Recognizer) → then_on (then_on o p) q ≡ then_on o (λ ks. then_on (p ks) q)
then_on_twice (passed rest) p q = refl
then_on_twice (halted rest) p q = refl
then_on_twice (over rest) p q = refl

-- the first of two steps, before what follows both
pub step_in : {A B : Type 0} (q p w : Recognizer) (r : Reader A) (s : A → Reader B) (spelled : A → Spelling) (Q : B → Spelling → Type 0) → Follows q r (Says spelled) → ((a : A) → Follows (λ ks. then_on (p ks) w) (s a) (λ b ks. Q b (spelled a ++ ks))) → Follows (λ ks. then_on (then_on (q ks) p) w) (r >>= s) Q
step_in q p w r s spelled Q f g = record {
  at = λ ts. subst (λ (o : Outcome). Follow o Q ts (and_then (r ts) s)) (sym (then_on_twice (q (kinds_of ts)) p w)) (step_at (q (kinds_of ts)) (λ ks. then_on (p ks) w) s spelled Q ts (r ts) (f.at ts) g);
}

-- ---- tests of tokens

eqb_alike : (a b c d : ℕ) → (a ≡ b → c ≡ d) → (c ≡ d → a ≡ b) → (a == b) ≡ (c == d)
eqb_alike a b c d f g = go (a == b) (c == d) refl refl
  where
    go : (x y : Bool) → (a == b) ≡ x → (c == d) ≡ y → x ≡ y
    go true true e h = refl
    go true false e h = sym (eq-eqb c d (f (eqb-true a b e))) ∙ h
    go false true e h = sym e ∙ eq-eqb a b (g (eqb-true c d h))
    go false false e h = refl

symbol_tag : (s : Symbol) → symbol_class s ≡ 1 + tag_of symbols.the_type s
symbol_tag symbol.OpenBrace = refl
symbol_tag s = refl

word_tag : (r : Reserved) → word_class r ≡ 21 + tag_of words.the_type r
word_tag word.Structure = refl
word_tag r = refl

two_tags : (n a b x y : ℕ) → x ≡ n + a → y ≡ n + b → (a == b) ≡ (x == y)
two_tags n a b x y e f = eqb_alike a b x y (λ h. omega arith) (λ h. omega arith)

same_symbol_class : (own s : Symbol) → same_symbol own s ≡ (symbol_class own == symbol_class s)
unfolding same_symbol
same_symbol_class own s = two_tags 1 (tag_of symbols.the_type own) (tag_of symbols.the_type s) (symbol_class own) (symbol_class s) (symbol_tag own) (symbol_tag s)

same_word_class : (own s : Reserved) → same_word own s ≡ (word_class own == word_class s)
unfolding same_word
same_word_class own s = two_tags 21 (tag_of words.the_type own) (tag_of words.the_type s) (word_class own) (word_class s) (word_tag own) (word_tag s)

or_false : (b : Bool) → b ≡ (b || false)
or_false true = refl
or_false false = refl

is_different : (a b : ℕ) → (a ≡ b → ⊥) → false ≡ (a == b)
is_different a b f = sym (ne_eqb a b f)

symbol_small : (s : Symbol) → leb (symbol_class s) 16 ≡ true
symbol_small symbol.OpenBrace = refl
symbol_small s = refl

word_large : (r : Reserved) → leb 21 (word_class r) ≡ true
word_large word.Structure = refl
word_large r = refl

word_small : (r : Reserved) → leb (word_class r) 56 ≡ true
word_small word.Structure = refl
word_small r = refl

apart_numbers : (a b n : ℕ) → leb a n ≡ true → leb (suc n) b ≡ true → a ≡ b → ⊥
apart_numbers a b n e f h = omega (arith, leb-true a n e, leb-true (suc n) b f)

pub symbol_test : (s : Symbol) (own : TokenKind) → is_kind (kind.Symbol s) own ≡ member (class_of own) (symbol_class s ∷ [])
symbol_test s (kind.Symbol own) = same_symbol_class own s ∙ or_false (symbol_class own == symbol_class s)
symbol_test s (kind.Reserved r) = is_different (word_class r) (symbol_class s) (λ e. apart_numbers (symbol_class s) (word_class r) 20 (less (symbol_class s) (symbol_small s)) (word_large r) (sym e)) ∙ or_false (word_class r == symbol_class s)
  where
    less : (n : ℕ) → leb n 16 ≡ true → leb n 20 ≡ true
    less n e = le-leb n 20 (omega (arith, leb-true n 16 e))
symbol_test s (kind.Name label) = is_different 60 (symbol_class s) (λ e. apart_numbers (symbol_class s) 60 16 (symbol_small s) refl (sym e)) ∙ or_false (60 == symbol_class s)
symbol_test s kind.End = is_different 61 (symbol_class s) (λ e. apart_numbers (symbol_class s) 61 16 (symbol_small s) refl (sym e)) ∙ or_false (61 == symbol_class s)

pub word_test : (r : Reserved) (own : TokenKind) → is_kind (kind.Reserved r) own ≡ member (class_of own) (word_class r ∷ [])
word_test r (kind.Symbol s) = is_different (symbol_class s) (word_class r) (λ e. apart_numbers (symbol_class s) (word_class r) 20 (less (symbol_class s) (symbol_small s)) (word_large r) e) ∙ or_false (symbol_class s == word_class r)
  where
    less : (n : ℕ) → leb n 16 ≡ true → leb n 20 ≡ true
    less n e = le-leb n 20 (omega (arith, leb-true n 16 e))
word_test r (kind.Reserved own) = same_word_class own r ∙ or_false (word_class own == word_class r)
word_test r (kind.Name label) = is_different 60 (word_class r) (λ e. apart_numbers (word_class r) 60 56 (word_small r) refl (sym e)) ∙ or_false (60 == word_class r)
word_test r kind.End = is_different 61 (word_class r) (λ e. apart_numbers (word_class r) 61 56 (word_small r) refl (sym e)) ∙ or_false (61 == word_class r)

pub name_test : (own : TokenKind) → is_name own ≡ member (class_of own) (60 ∷ [])
name_test (kind.Symbol symbol.OpenBrace) = refl
name_test (kind.Reserved word.Structure) = refl
name_test own = refl

symbol_is : (s : Symbol) (own : TokenKind) → is_kind (kind.Symbol s) own ≡ true → own ≡ kind.Symbol s
unfolding same_symbol
symbol_is s (kind.Symbol own) e = ap kind.Symbol (same_true symbols.the_type (search rules) own s e)
symbol_is s (kind.Reserved r) e = absurd (false≢true e)
symbol_is s (kind.Name label) e = absurd (false≢true e)
symbol_is s kind.End e = absurd (false≢true e)

word_is : (r : Reserved) (own : TokenKind) → is_kind (kind.Reserved r) own ≡ true → own ≡ kind.Reserved r
unfolding same_word
word_is r (kind.Symbol s) e = absurd (false≢true e)
word_is r (kind.Reserved own) e = ap kind.Reserved (same_true words.the_type (search rules) own r e)
word_is r (kind.Name label) e = absurd (false≢true e)
word_is r kind.End e = absurd (false≢true e)

-- ---- one token

-- a token is taken
pub take_one : {A : Type 0} (o : Outcome) (Q : A → Spelling → Type 0) (t : Token) (ts : List Token) (a : A) → Q a (t.kind ∷ []) → o ≡ passed (kinds_of ts) → Reading o Q (t ∷ ts) a ts
take_one o Q t ts a s e = record { front = t ∷ []; split = refl; says = s; same = e }

-- none is taken
pub take_none : {A : Type 0} (o : Outcome) (Q : A → Spelling → Type 0) (ts : List Token) (a : A) → Q a [] → o ≡ passed (kinds_of ts) → Reading o Q ts a ts
take_none o Q ts a s e = record { front = []; split = refl; says = s; same = e }

pub halt : (o : Outcome) (ts : List Token) → o ≡ halted (kinds_of ts) → Halting o (halted (kinds_of ts)) ts ts
halt o ts e = record { front = []; split = refl; same = e }

expected_at : (k : TokenKind) → ((own : TokenKind) → is_kind k own ≡ member (class_of own) (class_of k ∷ [])) → ((own : TokenKind) → is_kind k own ≡ true → own ≡ k) → (ts : List Token) → Follow (read_one (class_of k) (kinds_of ts)) (Says (λ (p : Place). k ∷ [])) ts (expected k ts)
expected_at k test is [] = record { front = []; split = refl; same = refl }
expected_at k test is (t ∷ ts) = go (is_kind k t.kind) refl
  where
    go : (b : Bool) → is_kind k t.kind ≡ b → Follow (if class_of t.kind == class_of k then passed (kinds_of ts) else halted (t.kind ∷ kinds_of ts)) (Says (λ (p : Place). k ∷ [])) (t ∷ ts) (if b then read t.place ts else stopped (t ∷ ts))
    go true e = record {
      front = t ∷ [];
      split = refl;
      says = ap (λ (own : TokenKind). own ∷ []) (is t.kind e);
      same = ap (λ (b : Bool). if b then passed (kinds_of ts) else halted (t.kind ∷ kinds_of ts)) (or_false (class_of t.kind == class_of k) ∙ (sym (test t.kind) ∙ e));
    }
    go false e = record {
      front = [];
      split = refl;
      same = ap (λ (b : Bool). if b then passed (kinds_of ts) else halted (t.kind ∷ kinds_of ts)) (or_false (class_of t.kind == class_of k) ∙ (sym (test t.kind) ∙ e));
    }

pub symbol_law : (s : Symbol) → Follows (read_one (symbol_class s)) (expected (kind.Symbol s)) (Says (λ p. kind.Symbol s ∷ []))
symbol_law s = record { at = expected_at (kind.Symbol s) (symbol_test s) (symbol_is s) }

pub word_law : (r : Reserved) → Follows (read_one (word_class r)) (expected (kind.Reserved r)) (Says (λ p. kind.Reserved r ∷ []))
word_law r = record { at = expected_at (kind.Reserved r) (word_test r) (word_is r) }

pub end_law : Follows (read_one 61) (expected kind.End) (Says (λ p. kind.End ∷ []))
end_law = record { at = expected_at kind.End end_test end_is }
  where
    end_test : (own : TokenKind) → is_kind kind.End own ≡ member (class_of own) (61 ∷ [])
    end_test (kind.Symbol symbol.OpenBrace) = refl
    end_test (kind.Reserved word.Structure) = refl
    end_test own = refl

    end_is : (own : TokenKind) → is_kind kind.End own ≡ true → own ≡ kind.End
    end_is kind.End e = refl
    end_is own e = absurd (false≢true e)

name_at : (t : Token) (k : TokenKind) (ts : List Token) → t.kind ≡ k → Follow (read_one 60 (t.kind ∷ kinds_of ts)) (Says name_tokens) (t ∷ ts) (name_by t k ts)
name_at t (kind.Name label) ts e = record { front = t ∷ []; split = refl; says = ap (λ (k : TokenKind). k ∷ []) e; same = ap (λ (k : TokenKind). read_one 60 (k ∷ kinds_of ts)) e }
name_at t (kind.Symbol symbol.OpenBrace) ts e = record { front = []; split = refl; same = ap (λ (k : TokenKind). if class_of k == 60 then passed (kinds_of ts) else halted (t.kind ∷ kinds_of ts)) e }
name_at t (kind.Reserved word.Structure) ts e = record { front = []; split = refl; same = ap (λ (k : TokenKind). if class_of k == 60 then passed (kinds_of ts) else halted (t.kind ∷ kinds_of ts)) e }
name_at t k ts e = record { front = []; split = refl; same = ap (λ (own : TokenKind). if class_of own == 60 then passed (kinds_of ts) else halted (t.kind ∷ kinds_of ts)) e }

pub name_law : Follows (read_one 60) name (Says name_tokens)
name_law = record { at = go }
  where
    go : (ts : List Token) → Follow (read_one 60 (kinds_of ts)) (Says name_tokens) ts (name ts)
    go [] = record { front = []; split = refl; same = refl }
    go (t ∷ ts) = name_at t t.kind ts refl

-- ---- parts that may be absent, and lists of parts

-- the tests agree on the first token
same_start : (test : TokenKind → Bool) (set : List ℕ) → ((own : TokenKind) → test own ≡ member (class_of own) set) → (ts : List Token) → begins test ts ≡ starts_in set (kinds_of ts)
same_start test set same [] = refl
same_start test set same (t ∷ ts) = same t.kind

pub optional_law : {A : Type 0} (q : Recognizer) (k : TokenKind) (set : List ℕ) (r : Reader A) (spelled : A → Spelling) → ((own : TokenKind) → is_kind k own ≡ member (class_of own) set) → Follows q r (Says spelled) → Follows (λ ks. if starts_in set ks then q ks else passed ks) (optional k r) (Says (λ (o : Option A). option_map_or spelled o []))
optional_law {A} q k set r spelled same f = record { at = λ ts. go ts (begins (is_kind k) ts) refl }
  where
    go : (ts : List Token) (b : Bool) → begins (is_kind k) ts ≡ b → Follow (if starts_in set (kinds_of ts) then q (kinds_of ts) else passed (kinds_of ts)) (Says (λ (o : Option A). option_map_or spelled o [])) ts (if b then and_then (r ts) (λ a. pure (Some a)) else read None ts)
    go ts true e = prefixed (Says (λ (o : Option A). option_map_or spelled o [])) (if starts_in set (kinds_of ts) then q (kinds_of ts) else passed (kinds_of ts)) (q (kinds_of ts)) [] ts [] ts (and_then (r ts) (λ a. pure (Some a))) refl refl
        (ap (λ (c : Bool). if c then q (kinds_of ts) else passed (kinds_of ts)) (sym (same_start (is_kind k) set same ts) ∙ e))
        (finish_at (q (kinds_of ts)) Some spelled (Says (λ (o : Option A). option_map_or spelled o [])) ts (r ts) (f.at ts) (λ a. refl))
    go ts false e = record { front = []; split = refl; says = refl; same = ap (λ (c : Bool). if c then q (kinds_of ts) else passed (kinds_of ts)) (sym (same_start (is_kind k) set same ts) ∙ e) }

within_law : {A : Type 0} (q : Recognizer) (test : TokenKind → Bool) (set : List ℕ) (r : Reader A) (spelled : A → Spelling) → ((own : TokenKind) → test own ≡ member (class_of own) set) → Follows q r (Says spelled) → (n : ℕ) → Follows (read_many n set q) (many_within n test r) (Says (flat_map spelled))
unfolding many_within
within_law q test set r spelled same f zero = record { at = λ ts. record { front = []; split = refl; says = refl; same = refl } }
within_law {A} q test set r spelled same f (suc n) = record { at = λ ts. go (within_law q test set r spelled same f n) ts (begins test ts) refl }
  where
    go : Follows (read_many n set q) (many_within n test r) (Says (flat_map spelled)) → (ts : List Token) (b : Bool) → begins test ts ≡ b → Follow (if starts_in set (kinds_of ts) then then_on (q (kinds_of ts)) (read_many n set q) else passed (kinds_of ts)) (Says (flat_map spelled)) ts (if b then and_then (r ts) (λ part. many_within n test r >>= (λ parts. pure (part ∷ parts))) else read [] ts)
    go later ts true e = prefixed (Says (flat_map spelled)) (if starts_in set (kinds_of ts) then then_on (q (kinds_of ts)) (read_many n set q) else passed (kinds_of ts)) (then_on (q (kinds_of ts)) (read_many n set q)) [] ts [] ts (and_then (r ts) (λ part. many_within n test r >>= (λ parts. pure (part ∷ parts)))) refl refl
        (ap (λ (c : Bool). if c then then_on (q (kinds_of ts)) (read_many n set q) else passed (kinds_of ts)) (sym (same_start test set same ts) ∙ e))
        (step_at (q (kinds_of ts)) (read_many n set q) (λ part. many_within n test r >>= (λ parts. pure (part ∷ parts))) spelled (Says (flat_map spelled)) ts (r ts) (f.at ts)
        (λ part. finish (read_many n set q) (many_within n test r) (λ parts. part ∷ parts) (flat_map spelled) (λ (parts : List A) (ks : Spelling). spelled part ++ ks ≡ flat_map spelled parts) later (λ parts. refl)))
    go later ts false e = record { front = []; split = refl; says = refl; same = ap (λ (c : Bool). if c then then_on (q (kinds_of ts)) (read_many n set q) else passed (kinds_of ts)) (sym (same_start test set same ts) ∙ e) }

kinds_length : (ts : List Token) → length ts ≡ length (kinds_of ts)
kinds_length [] = refl
kinds_length (t ∷ ts) = ap suc (kinds_length ts)

pub many_law : {A : Type 0} (q : Recognizer) (test : TokenKind → Bool) (set : List ℕ) (r : Reader A) (spelled : A → Spelling) → ((own : TokenKind) → test own ≡ member (class_of own) set) → Follows q r (Says spelled) → Follows (λ ks. read_many (length ks) set q ks) (many test r) (Says (flat_map spelled))
unfolding many
many_law q test set r spelled same f = record {
  at = λ ts. subst (λ (n : ℕ). Follow (read_many n set q (kinds_of ts)) (Says (flat_map spelled)) ts (many_within (length ts) test r ts)) (kinds_length ts) ((within_law q test set r spelled same f (length ts)).at ts);
}

pub behind_law : {A : Type 0} (q p : Recognizer) (k : TokenKind) (r : Reader A) (spelled : A → Spelling) → Follows q (expected k) (Says (λ p. k ∷ [])) → Follows p r (Says spelled) → Follows (λ ks. then_on (q ks) p) (behind k r) (Says (λ a. k ∷ spelled a))
behind_law {A} q p k r spelled f g = step q p (expected k) (λ place. r) (λ place. k ∷ []) (Says (λ a. k ∷ spelled a)) f (λ place. record { at = λ ts. shown ts (r ts) (g.at ts) })
  where
    shown : (ts : List Token) (x : Found A) → Follow (p (kinds_of ts)) (Says spelled) ts x → Follow (p (kinds_of ts)) (λ (a : A) (ks : Spelling). k ∷ ks ≡ k ∷ spelled a) ts x
    shown ts (read a rest) v = record { front = v.front; split = v.split; says = ap (λ (ks : Spelling). k ∷ ks) v.says; same = v.same }
    shown ts (stopped rest) v = v
    shown ts (too_deep rest) v = v

-- ---- brackets

pub blocked_law : {A : Type 0} (bracket : Symbol) (Q : A → Spelling → Type 0) → Follows (no_more (symbol_class bracket)) (blocked bracket) Q
blocked_law {A} bracket Q = record { at = λ ts. go ts (begins (is_kind (kind.Symbol bracket)) ts) refl }
  where
    go : (ts : List Token) (b : Bool) → begins (is_kind (kind.Symbol bracket)) ts ≡ b → Follow {A = A} (if starts_in (symbol_class bracket ∷ []) (kinds_of ts) then over (kinds_of ts) else halted (kinds_of ts)) Q ts (if b then too_deep ts else stopped ts)
    go ts true e = record { front = []; split = refl; same = ap (λ (c : Bool). if c then over (kinds_of ts) else halted (kinds_of ts)) (sym (same_start (is_kind (kind.Symbol bracket)) (symbol_class bracket ∷ []) (symbol_test bracket) ts) ∙ e) }
    go ts false e = record { front = []; split = refl; same = ap (λ (c : Bool). if c then over (kinds_of ts) else halted (kinds_of ts)) (sym (same_start (is_kind (kind.Symbol bracket)) (symbol_class bracket ∷ []) (symbol_test bracket) ts) ∙ e) }

-- ---- the reader that belongs to the first token

pub dispatch : {A : Type 0} (q : Recognizer) (d : TokenKind → Reader A) (Q : A → Spelling → Type 0) → q [] ≡ halted [] → ((k : TokenKind) (p : Place) (n : ℕ) (ts : List Token) → Follow (q (k ∷ kinds_of ts)) Q (record { kind = k; place = p; length = n } ∷ ts) (d k (record { kind = k; place = p; length = n } ∷ ts))) → Follows q (by_kind d) Q
dispatch {A} q d Q none arm = record { at = go }
  where
    go : (ts : List Token) → Follow (q (kinds_of ts)) Q ts (by_kind d ts)
    go [] = record { front = []; split = refl; same = none }
    go (t ∷ ts) = arm t.kind t.place t.length ts

-- ---- more ways to read

-- another grammar that finds the same
pub same_finding : {A : Type 0} (q p : Recognizer) (r : Reader A) (Q : A → Spelling → Type 0) → ((ks : Spelling) → q ks ≡ p ks) → Follows q r Q → Follows p r Q
same_finding q p r Q e f = record { at = λ ts. subst (λ (o : Outcome). Follow o Q ts (r ts)) (e (kinds_of ts)) (f.at ts) }

pub pure_law : {A : Type 0} (a : A) (Q : A → Spelling → Type 0) → Q a [] → Follows passed (pure a) Q
pure_law a Q h = record { at = λ ts. record { front = []; split = refl; says = h; same = refl } }

-- one reader where the first token passes the test, and else the other
pub choice_law : {A : Type 0} (q p : Recognizer) (test : TokenKind → Bool) (set : List ℕ) (r s : Reader A) (Q : A → Spelling → Type 0) → ((own : TokenKind) → test own ≡ member (class_of own) set) → Follows q r Q → Follows p s Q → Follows (λ ks. if starts_in set ks then q ks else p ks) (λ ts. if begins test ts then r ts else s ts) Q
choice_law q p test set r s Q same f g = record {
  at = λ ts. subst (λ (b : Bool). Follow (if b then q (kinds_of ts) else p (kinds_of ts)) Q ts (if begins test ts then r ts else s ts)) (same_start test set same ts) (go ts (begins test ts));
}
  where
    go : (ts : List Token) (b : Bool) → Follow (if b then q (kinds_of ts) else p (kinds_of ts)) Q ts (if b then r ts else s ts)
    go ts true = f.at ts
    go ts false = g.at ts

-- no more is read behind a bracket that is one too many
pub blocked_then_law : {A B : Type 0} (bracket : Symbol) (s : A → Reader B) (Q : B → Spelling → Type 0) → Follows (no_more (symbol_class bracket)) (blocked bracket >>= s) Q
blocked_then_law {A} {B} bracket s Q = record { at = λ ts. go ts (blocked bracket ts) ((blocked_law {A = A} bracket (λ a ks. ⊥)).at ts) }
  where
    go : (ts : List Token) (x : Found A) → Follow (no_more (symbol_class bracket) (kinds_of ts)) (λ a ks. ⊥) ts x → Follow (no_more (symbol_class bracket) (kinds_of ts)) Q ts (and_then x s)
    go ts (read a rest) v = absurd v.says
    go ts (stopped rest) v = record { front = v.front; split = v.split; same = v.same }
    go ts (too_deep rest) v = record { front = v.front; split = v.split; same = v.same }

-- ---- parts up to a bracket, which is taken

abbrev pub read_until : ℕ → ℕ → Recognizer → Recognizer
read_until zero c q ks = passed ks
read_until (suc n) c q [] = passed []
read_until (suc n) c q (k ∷ ks) = if not (class_of k == c) then then_on (q (k ∷ ks)) (read_until n c q) else passed (k ∷ ks)

-- the same is found up to the bracket as while a part begins, if a token that begins none stops the reading of a part
until_same : (c : ℕ) (set : List ℕ) (q : Recognizer) → member c set ≡ false → ((k : TokenKind) (ks : Spelling) → member (class_of k) set ≡ false → q (k ∷ ks) ≡ halted (k ∷ ks)) → (n : ℕ) (ks : Spelling) → then_on (read_until n c q ks) (read_one c) ≡ then_on (read_many n set q ks) (read_one c)
until_same c set q out refuses zero ks = refl
until_same c set q out refuses (suc n) [] = refl
until_same c set q out refuses (suc n) (k ∷ ks) = go (class_of k == c) (member (class_of k) set) refl refl (until_same c set q out refuses n)
  where
    each : (o : Outcome) → ((rest : Spelling) → then_on (read_until n c q rest) (read_one c) ≡ then_on (read_many n set q rest) (read_one c)) → then_on (then_on o (read_until n c q)) (read_one c) ≡ then_on (then_on o (read_many n set q)) (read_one c)
    each (passed rest) later = later rest
    each (halted rest) later = refl
    each (over rest) later = refl

    stops : (b : Bool) (o : Outcome) → b ≡ false → o ≡ halted (k ∷ ks) → then_on (then_on o (read_until n c q)) (read_one c) ≡ (if b then passed ks else halted (k ∷ ks))
    stops true o e f = absurd (true≢false e)
    stops false o e f = ap (λ (x : Outcome). then_on (then_on x (read_until n c q)) (read_one c)) f

    go : (b m : Bool) → (class_of k == c) ≡ b → member (class_of k) set ≡ m → ((rest : Spelling) → then_on (read_until n c q rest) (read_one c) ≡ then_on (read_many n set q rest) (read_one c)) → then_on (if not b then then_on (q (k ∷ ks)) (read_until n c q) else passed (k ∷ ks)) (read_one c) ≡ then_on (if m then then_on (q (k ∷ ks)) (read_many n set q) else passed (k ∷ ks)) (read_one c)
    go true true e f later = absurd (true≢false (sym f ∙ (ap (λ (x : ℕ). member x set) (eqb-true (class_of k) c e) ∙ out)))
    go true false e f later = refl
    go false true e f later = each (q (k ∷ ks)) later
    go false false e f later = stops (class_of k == c) (q (k ∷ ks)) e (refuses k ks f)

until_within : {A : Type 0} (q : Recognizer) (s : Symbol) (r : Reader A) (spelled : A → Spelling) → Follows q r (Says spelled) → (n : ℕ) → Follows (read_until n (symbol_class s) q) (many_within n (is_other (kind.Symbol s)) r) (Says (flat_map spelled))
unfolding many_within
until_within q s r spelled f zero = record { at = λ ts. record { front = []; split = refl; says = refl; same = refl } }
until_within {A} q s r spelled f (suc n) = record { at = λ ts. go (until_within q s r spelled f n) ts }
  where
    test : (own : TokenKind) → is_kind (kind.Symbol s) own ≡ (class_of own == symbol_class s)
    test own = symbol_test s own ∙ sym (or_false (class_of own == symbol_class s))

    turn : Follows (read_until n (symbol_class s) q) (many_within n (is_other (kind.Symbol s)) r) (Says (flat_map spelled)) → (t : Token) (ts : List Token) (b : Bool) → Follow (if not b then then_on (q (t.kind ∷ kinds_of ts)) (read_until n (symbol_class s) q) else passed (t.kind ∷ kinds_of ts)) (Says (flat_map spelled)) (t ∷ ts) (if not b then and_then (r (t ∷ ts)) (λ part. many_within n (is_other (kind.Symbol s)) r >>= (λ parts. pure (part ∷ parts))) else read [] (t ∷ ts))
    turn later t ts false = step_at (q (t.kind ∷ kinds_of ts)) (read_until n (symbol_class s) q) (λ part. many_within n (is_other (kind.Symbol s)) r >>= (λ parts. pure (part ∷ parts))) spelled (Says (flat_map spelled)) (t ∷ ts) (r (t ∷ ts)) (f.at (t ∷ ts))
        (λ part. finish _ _ (λ parts. part ∷ parts) (flat_map spelled) (λ (parts : List A) (ks : Spelling). spelled part ++ ks ≡ flat_map spelled parts) later (λ parts. refl))
    turn later t ts true = record { front = []; split = refl; says = refl; same = refl }

    go : Follows (read_until n (symbol_class s) q) (many_within n (is_other (kind.Symbol s)) r) (Says (flat_map spelled)) → (ts : List Token) → Follow (read_until (suc n) (symbol_class s) q (kinds_of ts)) (Says (flat_map spelled)) ts (if begins (is_other (kind.Symbol s)) ts then and_then (r ts) (λ part. many_within n (is_other (kind.Symbol s)) r >>= (λ parts. pure (part ∷ parts))) else read [] ts)
    go later [] = record { front = []; split = refl; says = refl; same = refl }
    go later (t ∷ ts) = subst (λ (b : Bool). Follow (if not b then then_on (q (t.kind ∷ kinds_of ts)) (read_until n (symbol_class s) q) else passed (t.kind ∷ kinds_of ts)) (Says (flat_map spelled)) (t ∷ ts) (if not (is_kind (kind.Symbol s) t.kind) then and_then (r (t ∷ ts)) (λ part. many_within n (is_other (kind.Symbol s)) r >>= (λ parts. pure (part ∷ parts))) else read [] (t ∷ ts))) (test t.kind) (turn later t ts (is_kind (kind.Symbol s) t.kind))

until_law : {A : Type 0} (q : Recognizer) (s : Symbol) (r : Reader A) (spelled : A → Spelling) → Follows q r (Says spelled) → Follows (λ ks. read_until (length ks) (symbol_class s) q ks) (many (is_other (kind.Symbol s)) r) (Says (flat_map spelled))
unfolding many
until_law q s r spelled f = record {
  at = λ ts. subst (λ (n : ℕ). Follow (read_until n (symbol_class s) q (kinds_of ts)) (Says (flat_map spelled)) ts (many_within (length ts) (is_other (kind.Symbol s)) r ts)) (kinds_length ts) ((until_within q s r spelled f (length ts)).at ts);
}

-- parts up to a bracket, the bracket, and what is made of them
pub bracket_law : {A B : Type 0} (q : Recognizer) (set : List ℕ) (s : Symbol) (r : Reader A) (spelled : A → Spelling) (make : List A → Place → B) (Q : B → Spelling → Type 0) → member (symbol_class s) set ≡ false → ((k : TokenKind) (ks : Spelling) → member (class_of k) set ≡ false → q (k ∷ ks) ≡ halted (k ∷ ks)) → Follows q r (Says spelled) → ((parts : List A) (p : Place) → Q (make parts p) (flat_map spelled parts ++ kind.Symbol s ∷ [])) → Follows (λ ks. then_on (read_many (length ks) set q ks) (read_one (symbol_class s))) (many (is_other (kind.Symbol s)) r >>= (λ parts. expected (kind.Symbol s) >>= (λ p. pure (make parts p)))) Q
bracket_law q set s r spelled make Q out refuses f says =
    same_finding _ _ _ _ (λ ks. until_same (symbol_class s) set q out refuses (length ks) ks)
    (step _ _ _ _ _ Q (until_law q s r spelled f) (λ parts. finish _ _ (make parts) _ _ (symbol_law s) (λ p. says parts p)))
