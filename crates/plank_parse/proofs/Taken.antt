-- Spellings that a grammar takes whole, whatever token follows that does not go on: how they are put together.
use Rattle.std.proofs.Common.{◌≡◌, ℕ, zero, suc, ◌≤◌, Bool, true, false, not, ◌&&◌, ◌||◌, ◌==◌, List, [], ◌∷◌, ◌++◌, length, if◌then◌else◌, refl, sym, subst, append_assoc, length-append, ◌∙◌, arith}
use Rattle.std.proofs.lemmas.Bool.{eqb-true, true≢false, false≢true, not-true, and_parts}
use Rattle.plank_lex.specs.declared.tokens.TokenKind.{TokenKind}
use Rattle.plank_ast.specs.Spelling.{Spelling}
use Rattle.plank_parse.proofs.Grammars.{class_of, member, disjoint, Grammar, one, nothing, ahead, both, either, many, group, Inside, Rules, nullable, firsts, goes_on, Outcome, passed, halted, over, Recognizer, then_on, read_one, read_many, read_group, reads}

-- ---- sets of classes

pub outside_left : (c : ℕ) (xs ys : List ℕ) → member c (xs ++ ys) ≡ false → member c xs ≡ false
outside_left c [] ys h = refl
outside_left c (x ∷ xs) ys h = either_false (c == x) (member c (xs ++ ys)) (member c xs) h (outside_left c xs ys)
  where
    either_false : (b m n : Bool) → (b || m) ≡ false → (m ≡ false → n ≡ false) → (b || n) ≡ false
    either_false true m n h f = h
    either_false false m n h f = f h

pub outside_right : (c : ℕ) (xs ys : List ℕ) → member c (xs ++ ys) ≡ false → member c ys ≡ false
outside_right c [] ys h = h
outside_right c (x ∷ xs) ys h = outside_right c xs ys (second (c == x) (member c (xs ++ ys)) h)
  where
    second : (b m : Bool) → (b || m) ≡ false → m ≡ false
    second true m h = absurd (true≢false h)
    second false m h = h

pub inside_left : (c : ℕ) (xs ys : List ℕ) → member c xs ≡ true → member c (xs ++ ys) ≡ true
inside_left c [] ys h = absurd (false≢true h)
inside_left c (x ∷ xs) ys h = either_true (c == x) (member c xs) (member c (xs ++ ys)) h (inside_left c xs ys)
  where
    either_true : (b m n : Bool) → (b || m) ≡ true → (m ≡ true → n ≡ true) → (b || n) ≡ true
    either_true true m n h f = refl
    either_true false m n h f = f h

pub inside_right : (c : ℕ) (xs ys : List ℕ) → member c ys ≡ true → member c (xs ++ ys) ≡ true
inside_right c [] ys h = h
inside_right c (x ∷ xs) ys h = second (c == x) (member c (xs ++ ys)) (inside_right c xs ys h)
  where
    second : (b m : Bool) → m ≡ true → (b || m) ≡ true
    second true m h = refl
    second false m h = h

pub apart : (c : ℕ) (xs ys : List ℕ) → disjoint xs ys ≡ true → member c xs ≡ true → member c ys ≡ false
apart c [] ys d h = absurd (false≢true h)
apart c (x ∷ xs) ys d h = go (c == x) refl h (apart c xs ys (and_parts (not (member x ys)) (disjoint xs ys) d).1)
  where
    go : (b : Bool) → (c == x) ≡ b → (b || member c xs) ≡ true → (member c xs ≡ true → member c ys ≡ false) → member c ys ≡ false
    go true e h later = subst (λ (n : ℕ). member n ys ≡ false) (sym (eqb-true c x e)) (not-true (member x ys) (and_parts (not (member x ys)) (disjoint xs ys) d).0)
    go false e h later = later h

pub apart_back : (c : ℕ) (xs ys : List ℕ) → disjoint xs ys ≡ true → member c ys ≡ true → member c xs ≡ false
apart_back c xs ys d h = go (member c xs) refl
  where
    go : (b : Bool) → member c xs ≡ b → b ≡ false
    go true e = absurd (true≢false (sym h ∙ apart c xs ys d e))
    go false e = refl

-- ---- what is taken

-- the part was read, and these tokens are left; or a bracket is too many
abbrev pub Reads : Outcome → Spelling → Type 0
Reads (passed found) rest = found ≡ rest
Reads (halted found) rest = ⊥
Reads (over found) rest = Unit {0}

-- whether the spelling starts_in as the grammar does
abbrev pub begins_as : Grammar → Spelling → Bool
begins_as g [] = nullable g
begins_as g (k ∷ ks) = member (class_of k) (firsts g)

pub record Taken (rules : Rules) (g : Grammar) (ks : Spelling) : Type 0 where
  pub first : begins_as g ks ≡ true
  pub reading : (l : ℕ) (k : TokenKind) (more : Spelling) → member (class_of k) (goes_on g) ≡ false → Reads (reads rules l g (ks ++ k ∷ more)) (k ∷ more)

pub reads_then : (s : Outcome) (q : Recognizer) (mid rest : Spelling) → Reads s mid → Reads (q mid) rest → Reads (then_on s q) rest
reads_then (passed found) q mid rest e h = subst (λ (ks : Spelling). Reads (q ks) rest) (sym e) h
reads_then (halted found) q mid rest e h = e
reads_then (over found) q mid rest e h = tt

reads_if : (b : Bool) (x y : Outcome) (rest : Spelling) → b ≡ true → Reads x rest → Reads (if b then x else y) rest
reads_if true x y rest e h = h
reads_if false x y rest e h = absurd (false≢true e)

reads_else : (b : Bool) (x y : Outcome) (rest : Spelling) → b ≡ false → Reads y rest → Reads (if b then x else y) rest
reads_else true x y rest e h = absurd (true≢false e)
reads_else false x y rest e h = h

pub taken_nothing : (rules : Rules) → Taken rules nothing []
taken_nothing rules = record { first = refl; reading = λ l k more free. refl }

pub taken_ahead : (rules : Rules) → Taken rules ahead []
taken_ahead rules = record { first = refl; reading = λ l k more free. refl }

pub same_class : (n : ℕ) → (n == n) ≡ true
same_class n = grind arith

pub taken_one : (rules : Rules) (k : TokenKind) (own : TokenKind) → class_of own ≡ class_of k → Taken rules (one k) (own ∷ [])
taken_one rules k own e = record {
  first = first_of (class_of own == class_of k) same;
  reading = λ l next more free. reads_if (class_of own == class_of k) (passed (next ∷ more)) (halted (own ∷ next ∷ more)) (next ∷ more) same refl;
}
  where
    same : (class_of own == class_of k) ≡ true
    same = subst (λ (n : ℕ). (n == class_of k) ≡ true) (sym e) (same_class (class_of k))

    first_of : (b : Bool) → b ≡ true → (b || false) ≡ true
    first_of true e = refl
    first_of false e = e

-- the token after the first part does not make that longer
follows : (rules : Rules) (g h : Grammar) (b : Spelling) (k : TokenKind) → disjoint (goes_on g) (firsts h) ≡ true → begins_as h b ≡ true → member (class_of k) (goes_on (both g h)) ≡ false → (l : ℕ) (a more : Spelling) → Taken rules g a → Reads (reads rules l g (a ++ (b ++ k ∷ more))) (b ++ k ∷ more)
follows rules g h [] k d first free l a more ta = ta.reading l k more (by_else (nullable h) first (outside_right (class_of k) (goes_on h) (if nullable h then goes_on g else []) free))
  where
    by_else : (n : Bool) → n ≡ true → member (class_of k) (if n then goes_on g else []) ≡ false → member (class_of k) (goes_on g) ≡ false
    by_else true e f = f
    by_else false e f = absurd (false≢true e)
follows rules g h (x ∷ b) k d first free l a more ta = ta.reading l x (b ++ k ∷ more) (apart_back (class_of x) (goes_on g) (firsts h) d first)

both_first : (g h : Grammar) (a b : Spelling) → begins_as g a ≡ true → begins_as h b ≡ true → begins_as (both g h) (a ++ b) ≡ true
both_first g h [] [] f1 f2 = go (nullable g) f1
  where
    go : (n : Bool) → n ≡ true → (n && nullable h) ≡ true
    go true e = f2
    go false e = e
both_first g h [] (x ∷ b) f1 f2 = inside_right (class_of x) (firsts g) (if nullable g then firsts h else []) (go (nullable g) f1)
  where
    go : (n : Bool) → n ≡ true → member (class_of x) (if n then firsts h else []) ≡ true
    go true e = f2
    go false e = absurd (false≢true e)
both_first g h (x ∷ a) b f1 f2 = inside_left (class_of x) (firsts g) (if nullable g then firsts h else []) f1

pub taken_both : (rules : Rules) (g h : Grammar) (a b : Spelling) → disjoint (goes_on g) (firsts h) ≡ true → Taken rules g a → Taken rules h b → Taken rules (both g h) (a ++ b)
taken_both rules g h a b d ta tb = record {
  first = both_first g h a b ta.first tb.first;
  reading = λ l k more free. subst (λ (ks : Spelling). Reads (reads rules l (both g h) ks) (k ∷ more)) (sym (append_assoc a b (k ∷ more)))
      (reads_then (reads rules l g (a ++ (b ++ k ∷ more))) (reads rules l h) (b ++ k ∷ more) (k ∷ more)
      (follows rules g h b k d tb.first free l a more ta)
      (tb.reading l k more (outside_left (class_of k) (goes_on h) (if nullable h then goes_on g else []) free)));
}

pub taken_left : (rules : Rules) (g h : Grammar) (a : Spelling) → not (nullable g) ≡ true → Taken rules g a → Taken rules (either g h) a
taken_left rules g h [] n ta = absurd (true≢false (sym ta.first ∙ not-true (nullable g) n))
taken_left rules g h (x ∷ a) n ta = record {
  first = inside_left (class_of x) (firsts g) (firsts h) ta.first;
  reading = λ l k more free. reads_if (member (class_of x) (firsts g)) (reads rules l g (x ∷ (a ++ k ∷ more))) (reads rules l h (x ∷ (a ++ k ∷ more))) (k ∷ more) ta.first
      (ta.reading l k more (outside_left (class_of k) (goes_on g) (goes_on h ++ (if nullable h then firsts g else [])) free));
}

pub taken_right : (rules : Rules) (g h : Grammar) (b : Spelling) → disjoint (firsts g) (firsts h) ≡ true → Taken rules h b → Taken rules (either g h) b
taken_right rules g h [] d tb = record {
  first = tb.first;
  reading = λ l k more free. reads_else (member (class_of k) (firsts g)) (reads rules l g (k ∷ more)) (reads rules l h (k ∷ more)) (k ∷ more)
      (by_else k (nullable h) tb.first (outside_right (class_of k) (goes_on h) (if nullable h then firsts g else []) (outside_right (class_of k) (goes_on g) (goes_on h ++ (if nullable h then firsts g else [])) free)))
      (tb.reading l k more (outside_left (class_of k) (goes_on h) (if nullable h then firsts g else []) (outside_right (class_of k) (goes_on g) (goes_on h ++ (if nullable h then firsts g else [])) free)));
}
  where
    by_else : (k : TokenKind) (n : Bool) → n ≡ true → member (class_of k) (if n then firsts g else []) ≡ false → member (class_of k) (firsts g) ≡ false
    by_else k true e f = f
    by_else k false e f = absurd (false≢true e)
taken_right rules g h (x ∷ b) d tb = record {
  first = inside_right (class_of x) (firsts g) (firsts h) tb.first;
  reading = λ l k more free. reads_else (member (class_of x) (firsts g)) (reads rules l g (x ∷ (b ++ k ∷ more))) (reads rules l h (x ∷ (b ++ k ∷ more))) (k ∷ more)
      (apart_back (class_of x) (firsts g) (firsts h) d tb.first)
      (tb.reading l k more (outside_left (class_of k) (goes_on h) (if nullable h then firsts g else []) (outside_right (class_of k) (goes_on g) (goes_on h ++ (if nullable h then firsts g else [])) free)));
}

-- ---- repeated parts, with any number of turns that is enough

pub record Repeated (rules : Rules) (g : Grammar) (ks : Spelling) : Type 0 where
  pub first : begins_as (many g) ks ≡ true
  pub reading : (l turns : ℕ) (k : TokenKind) (more : Spelling) → length (ks ++ k ∷ more) ≤ turns → member (class_of k) (goes_on (many g)) ≡ false → Reads (read_many turns (firsts g) (reads rules l g) (ks ++ k ∷ more)) (k ∷ more)

pub taken_many : (rules : Rules) (g : Grammar) (ks : Spelling) → Repeated rules g ks → Taken rules (many g) ks
taken_many rules g ks r = record {
  first = r.first;
  reading = λ l k more free. r.reading l (length (ks ++ k ∷ more)) k more (omega arith) free;
}

pub no_repeat : (rules : Rules) (g : Grammar) → Repeated rules g []
no_repeat rules g = record { first = refl; reading = go }
  where
    go : (l turns : ℕ) (k : TokenKind) (more : Spelling) → length (k ∷ more) ≤ turns → member (class_of k) (goes_on (many g)) ≡ false → Reads (read_many turns (firsts g) (reads rules l g) (k ∷ more)) (k ∷ more)
    go l zero k more enough free = refl
    go l (suc turns) k more enough free = reads_else (member (class_of k) (firsts g)) (then_on (reads rules l g (k ∷ more)) (read_many turns (firsts g) (reads rules l g))) (passed (k ∷ more)) (k ∷ more) (outside_right (class_of k) (goes_on g) (firsts g) free) refl

-- the token after a repeated part does not make it longer
repeat_follows : (rules : Rules) (g : Grammar) (b : Spelling) (k : TokenKind) → disjoint (goes_on g) (firsts g) ≡ true → begins_as (many g) b ≡ true → member (class_of k) (goes_on (many g)) ≡ false → (l : ℕ) (a more : Spelling) → Taken rules g a → Reads (reads rules l g (a ++ (b ++ k ∷ more))) (b ++ k ∷ more)
repeat_follows rules g [] k d first free l a more ta = ta.reading l k more (outside_left (class_of k) (goes_on g) (firsts g) free)
repeat_follows rules g (x ∷ b) k d first free l a more ta = ta.reading l x (b ++ k ∷ more) (apart_back (class_of x) (goes_on g) (firsts g) d first)

fewer : (p q r : Spelling) (turns : ℕ) → suc (length ((p ++ q) ++ r)) ≤ suc turns → length (q ++ r) ≤ turns
fewer p q r turns e = omega (arith, length-append (p ++ q) r, length-append p q, length-append q r)

pub repeat : (rules : Rules) (g : Grammar) (a b : Spelling) → not (nullable g) ≡ true → disjoint (goes_on g) (firsts g) ≡ true → Taken rules g a → Repeated rules g b → Repeated rules g (a ++ b)
repeat rules g [] b n d ta rb = absurd (true≢false (sym ta.first ∙ not-true (nullable g) n))
repeat rules g (x ∷ a) b n d ta rb = record { first = ta.first; reading = go }
  where
    go : (l turns : ℕ) (k : TokenKind) (more : Spelling) → length (((x ∷ a) ++ b) ++ k ∷ more) ≤ turns → member (class_of k) (goes_on (many g)) ≡ false → Reads (read_many turns (firsts g) (reads rules l g) (((x ∷ a) ++ b) ++ k ∷ more)) (k ∷ more)
    go l zero k more enough free = absurd (omega (arith, enough))
    go l (suc turns) k more enough free = subst (λ (ks : Spelling). Reads (read_many (suc turns) (firsts g) (reads rules l g) (x ∷ ks)) (k ∷ more)) (sym (append_assoc a b (k ∷ more)))
        (reads_if (member (class_of x) (firsts g)) (then_on (reads rules l g (x ∷ (a ++ (b ++ k ∷ more)))) (read_many turns (firsts g) (reads rules l g))) (passed (x ∷ (a ++ (b ++ k ∷ more)))) (k ∷ more) ta.first
        (reads_then (reads rules l g (x ∷ (a ++ (b ++ k ∷ more)))) (read_many turns (firsts g) (reads rules l g)) (b ++ k ∷ more) (k ∷ more)
        (repeat_follows rules g b k d rb.first free l (x ∷ a) more ta)
        (rb.reading l turns k more (fewer a b (k ∷ more) turns enough) free)))

-- ---- brackets

pub one_more : (b : Bool) → b ≡ true → (b || false) ≡ true
one_more true e = refl
one_more false e = e

pub same_as : (own k : TokenKind) → class_of own ≡ class_of k → (class_of own == class_of k) ≡ true
same_as own k e = subst (λ (n : ℕ). (n == class_of k) ≡ true) (sym e) (same_class (class_of k))

pub taken_group : (rules : Rules) (opening : TokenKind) (inner : Inside) (closing : TokenKind) (first last : TokenKind) (a : Spelling) → class_of first ≡ class_of opening → class_of last ≡ class_of closing → disjoint (goes_on (rules inner)) (class_of closing ∷ []) ≡ true → Taken rules (rules inner) a → Taken rules (group opening inner closing) (first ∷ (a ++ last ∷ []))
taken_group rules opening inner closing first last a e f d ta = record { first = one_more (class_of first == class_of opening) (same_as first opening e); reading = go }
  where
    go : (l : ℕ) (k : TokenKind) (more : Spelling) → member (class_of k) [] ≡ false → Reads (reads rules l (group opening inner closing) ((first ∷ (a ++ last ∷ [])) ++ k ∷ more)) (k ∷ more)
    go zero k more free = reads_if (class_of first == class_of opening || false) (over (first ∷ ((a ++ last ∷ []) ++ k ∷ more))) (halted (first ∷ ((a ++ last ∷ []) ++ k ∷ more))) (k ∷ more) (one_more (class_of first == class_of opening) (same_as first opening e)) tt
    go (suc l) k more free = subst (λ (ks : Spelling). Reads (read_group (class_of opening) (reads rules l (rules inner)) (class_of closing) (first ∷ ks)) (k ∷ more)) (sym (append_assoc a (last ∷ []) (k ∷ more)))
        (reads_then (if class_of first == class_of opening then passed (a ++ (last ∷ k ∷ more)) else halted (first ∷ (a ++ (last ∷ k ∷ more)))) (λ ks. then_on (reads rules l (rules inner) ks) (read_one (class_of closing))) (a ++ (last ∷ k ∷ more)) (k ∷ more)
        (reads_if (class_of first == class_of opening) (passed (a ++ (last ∷ k ∷ more))) (halted (first ∷ (a ++ (last ∷ k ∷ more)))) (a ++ (last ∷ k ∷ more)) (same_as first opening e) refl)
        (reads_then (reads rules l (rules inner) (a ++ (last ∷ k ∷ more))) (read_one (class_of closing)) (last ∷ k ∷ more) (k ∷ more)
        (ta.reading l last (k ∷ more) (apart_back (class_of last) (goes_on (rules inner)) (class_of closing ∷ []) d (one_more (class_of last == class_of closing) (same_as last closing f))))
        (reads_if (class_of last == class_of closing) (passed (k ∷ more)) (halted (last ∷ k ∷ more)) (k ∷ more) (same_as last closing f) refl)))
