-- How tokens in front change the count of open brackets: by nothing, or up to the limit; and that none is the end.
use Rattle.std.proofs.Common.{◌≡◌, ℕ, zero, suc, ◌+◌, ◌-◌, Bool, true, false, not, ◌&&◌, ◌==◌, [], ◌∷◌, ◌++◌, refl, sym, ap, subst, append_assoc, append-nil, ◌∙◌, arith}
use Rattle.std.specs.Prelude.{nat_le}
use Rattle.std.proofs.lemmas.Bool.{true≢false, false≢true, le-leb}
use Rattle.plank_lex.specs.declared.symbols.Symbol.TheVariants as symbol
use Rattle.plank_lex.specs.declared.words.Reserved.TheVariants as word
use Rattle.plank_lex.specs.declared.tokens.TokenKind.{TokenKind}
use Rattle.plank_lex.specs.declared.tokens.TokenKind.TheVariants as kind
use Rattle.plank_ast.specs.Spelling.{Spelling, open_after, nests_within}
use Rattle.plank_parse.proofs.Grammars.{class_of, member, openings, closings, end}

abbrev pub without_end : Spelling → Bool
without_end [] = true
without_end (k ∷ ks) = not (class_of k == end) && without_end ks

-- ---- one token

pub opens : (k : TokenKind) → member (class_of k) openings ≡ true → (d : ℕ) → open_after d k ≡ d + 1
opens (kind.Symbol symbol.OpenBrace) h d = refl
opens (kind.Symbol symbol.OpenParenthesis) h d = refl
opens (kind.Reserved word.Flag) h d = absurd (false≢true h)
opens k h d = absurd (false≢true h)

pub closes : (k : TokenKind) → member (class_of k) closings ≡ true → (d : ℕ) → open_after d k ≡ d - 1
closes (kind.Symbol symbol.CloseBrace) h d = refl
closes (kind.Symbol symbol.CloseParenthesis) h d = refl
closes (kind.Reserved word.Flag) h d = absurd (false≢true h)
closes k h d = absurd (false≢true h)

pub is_flat : (k : TokenKind) → member (class_of k) (openings ++ closings ++ end ∷ []) ≡ false → (d : ℕ) → open_after d k ≡ d
is_flat (kind.Symbol symbol.OpenBrace) h d = absurd (true≢false h)
is_flat (kind.Symbol symbol.OpenParenthesis) h d = absurd (true≢false h)
is_flat (kind.Symbol symbol.CloseBrace) h d = absurd (true≢false h)
is_flat (kind.Symbol symbol.CloseParenthesis) h d = absurd (true≢false h)
is_flat k h d = refl

pub opening_no_end : (k : TokenKind) → member (class_of k) openings ≡ true → (class_of k == end) ≡ false
opening_no_end (kind.Symbol symbol.OpenBrace) h = refl
opening_no_end (kind.Symbol symbol.OpenParenthesis) h = refl
opening_no_end (kind.Reserved word.Flag) h = absurd (false≢true h)
opening_no_end k h = absurd (false≢true h)

pub closing_no_end : (k : TokenKind) → member (class_of k) closings ≡ true → (class_of k == end) ≡ false
closing_no_end (kind.Symbol symbol.CloseBrace) h = refl
closing_no_end (kind.Symbol symbol.CloseParenthesis) h = refl
closing_no_end (kind.Reserved word.Flag) h = absurd (false≢true h)
closing_no_end k h = absurd (false≢true h)

pub flat_no_end : (k : TokenKind) → member (class_of k) (openings ++ closings ++ end ∷ []) ≡ false → (class_of k == end) ≡ false
flat_no_end kind.End h = absurd (true≢false h)
flat_no_end (kind.Symbol symbol.Colon) h = refl
flat_no_end (kind.Reserved word.Flag) h = refl
flat_no_end k h = refl

-- ---- fronts, where so many brackets may still be opened

-- as many brackets are open after the front as before it
pub record Kept (l : ℕ) (front : Spelling) : Type 0 where
  pub nests : (limit d : ℕ) → d + l ≡ limit → (rest : Spelling) → nests_within limit d (front ++ rest) ≡ nests_within limit d rest
  pub ends : (rest : Spelling) → without_end (front ++ rest) ≡ without_end rest

-- as many are open after the front as may be
pub record Opened (l : ℕ) (front : Spelling) : Type 0 where
  pub nests : (limit d : ℕ) → d + l ≡ limit → (rest : Spelling) → nests_within limit d (front ++ rest) ≡ nests_within limit limit rest
  pub ends : (rest : Spelling) → without_end (front ++ rest) ≡ without_end rest

-- no more are open in the front than may be
pub record Within (l : ℕ) (front : Spelling) : Type 0 where
  pub nests : (limit d : ℕ) → d + l ≡ limit → nests_within limit d front ≡ true
  pub ends : (rest : Spelling) → without_end (front ++ rest) ≡ without_end rest

pub kept_none : (l : ℕ) → Kept l []
kept_none l = record { nests = λ limit d e rest. refl; ends = λ rest. refl }

pub kept_both : (l : ℕ) (a b : Spelling) → Kept l a → Kept l b → Kept l (a ++ b)
kept_both l a b ka kb = record {
  nests = λ limit d e rest. ap (nests_within limit d) (append_assoc a b rest) ∙ (ka.nests limit d e (b ++ rest) ∙ kb.nests limit d e rest);
  ends = λ rest. ap without_end (append_assoc a b rest) ∙ (ka.ends (b ++ rest) ∙ kb.ends rest);
}

pub opened_after : (l : ℕ) (a b : Spelling) → Kept l a → Opened l b → Opened l (a ++ b)
opened_after l a b ka kb = record {
  nests = λ limit d e rest. ap (nests_within limit d) (append_assoc a b rest) ∙ (ka.nests limit d e (b ++ rest) ∙ kb.nests limit d e rest);
  ends = λ rest. ap without_end (append_assoc a b rest) ∙ (ka.ends (b ++ rest) ∙ kb.ends rest);
}

pub within_after : (l : ℕ) (a b : Spelling) → Kept l a → Within l b → Within l (a ++ b)
within_after l a b ka kb = record {
  nests = λ limit d e. ka.nests limit d e b ∙ kb.nests limit d e;
  ends = λ rest. ap without_end (append_assoc a b rest) ∙ (ka.ends (b ++ rest) ∙ kb.ends rest);
}

pub kept_within : (l : ℕ) (a : Spelling) → Kept l a → Within l a
kept_within l a ka = record {
  nests = λ limit d e. subst (λ (ks : Spelling). nests_within limit d ks ≡ true) (append-nil a) (ka.nests limit d e []);
  ends = ka.ends;
}

room : (limit d l : ℕ) → d + l ≡ limit → nat_le d limit ≡ true
room limit d l e = le-leb d limit (omega arith)

cut : (b : Bool) (x y : Bool) → b ≡ true → x ≡ y → (b && x) ≡ y
cut true x y e h = h
cut false x y e h = absurd (false≢true e)

no_end_cut : (b : Bool) (x y : Bool) → b ≡ false → x ≡ y → (not b && x) ≡ y
no_end_cut true x y e h = absurd (true≢false e)
no_end_cut false x y e h = h

pub kept_one : (l : ℕ) (k : TokenKind) → member (class_of k) (openings ++ closings ++ end ∷ []) ≡ false → Kept l (k ∷ [])
kept_one l k h = record {
  nests = λ limit d e rest. subst (λ (n : ℕ). (nat_le n limit && nests_within limit n rest) ≡ nests_within limit d rest) (sym (is_flat k h d)) (cut (nat_le d limit) (nests_within limit d rest) (nests_within limit d rest) (room limit d l e) refl);
  ends = λ rest. no_end_cut (class_of k == end) (without_end rest) (without_end rest) (flat_no_end k h) refl;
}

-- a bracket opens
deeper : (l limit d : ℕ) (k : TokenKind) (rest : Spelling) (b : Bool) → member (class_of k) openings ≡ true → d + suc l ≡ limit → nests_within limit (d + 1) rest ≡ b → nests_within limit d (k ∷ rest) ≡ b
deeper l limit d k rest b h e t = subst (λ (n : ℕ). (nat_le n limit && nests_within limit n rest) ≡ b) (sym (opens k h d)) (cut (nat_le (d + 1) limit) (nests_within limit (d + 1) rest) b (room limit (d + 1) l (omega arith)) t)

-- a bracket closes
shallower : (l limit d : ℕ) (k : TokenKind) (rest : Spelling) → member (class_of k) closings ≡ true → d + suc l ≡ limit → nests_within limit (d + 1) (k ∷ rest) ≡ nests_within limit d rest
shallower l limit d k rest h e = subst (λ (n : ℕ). (nat_le n limit && nests_within limit n rest) ≡ nests_within limit d rest) (sym (closes k h (d + 1) ∙ back d)) (cut (nat_le d limit) (nests_within limit d rest) (nests_within limit d rest) (room limit d (suc l) e) refl)
  where
    back : (d : ℕ) → d + 1 - 1 ≡ d
    back d = omega arith

pub kept_group : (l : ℕ) (first last : TokenKind) (a : Spelling) → member (class_of first) openings ≡ true → member (class_of last) closings ≡ true → Kept l a → Kept (suc l) (first ∷ (a ++ last ∷ []))
kept_group l first last a o c ka = record {
  nests = λ limit d e rest. deeper l limit d first ((a ++ last ∷ []) ++ rest) (nests_within limit d rest) o e
      (ap (nests_within limit (d + 1)) (append_assoc a (last ∷ []) rest) ∙ (ka.nests limit (d + 1) (omega arith) (last ∷ rest) ∙ shallower l limit d last rest c e));
  ends = λ rest. no_end_cut (class_of first == end) (without_end ((a ++ last ∷ []) ++ rest)) (without_end rest) (opening_no_end first o)
      (ap without_end (append_assoc a (last ∷ []) rest) ∙ (ka.ends (last ∷ rest) ∙ no_end_cut (class_of last == end) (without_end rest) (without_end rest) (closing_no_end last c) refl));
}

pub opened_group : (l : ℕ) (first : TokenKind) (a : Spelling) → member (class_of first) openings ≡ true → Opened l a → Opened (suc l) (first ∷ a)
opened_group l first a o ka = record {
  nests = λ limit d e rest. deeper l limit d first (a ++ rest) (nests_within limit limit rest) o e (ka.nests limit (d + 1) (omega arith) rest);
  ends = λ rest. no_end_cut (class_of first == end) (without_end (a ++ rest)) (without_end rest) (opening_no_end first o) (ka.ends rest);
}

pub within_group : (l : ℕ) (first : TokenKind) (a : Spelling) → member (class_of first) openings ≡ true → Within l a → Within (suc l) (first ∷ a)
within_group l first a o ka = record {
  nests = λ limit d e. deeper l limit d first a true o e (ka.nests limit (d + 1) (omega arith));
  ends = λ rest. no_end_cut (class_of first == end) (without_end (a ++ rest)) (without_end rest) (opening_no_end first o) (ka.ends rest);
}

-- where no bracket may be opened, as many are open as may be
pub opened_none : Opened zero []
opened_none = record { nests = λ limit d e rest. ap (λ (n : ℕ). nests_within limit n rest) (level limit d e); ends = λ rest. refl }
  where
    level : (limit d : ℕ) → d + 0 ≡ limit → d ≡ limit
    level limit d e = omega arith
