-- What every list of tokens keeps: one End at its end, names that are names, places that rise.
use Rattle.std.proofs.Common.{◌≡◌, ℕ, zero, suc, ◌+◌, ◌-◌, ◌<◌, ◌≤◌, true, false, cond, eqb, ◌⊎◌, List, [], ◌∷◌, ◌++◌, take, refl, ◌∙◌, subst, arith, inl, inr, ⊎_elim, Option, Some, None, Result, Ok, Err}
use Rattle.plank_base.specs.declared.places.Place.{Place}
use Rattle.plank_lex.specs.Places.{start, after, IsBefore}
use Rattle.plank_lex.specs.Lexemes.{lexeme_of}
use Rattle.plank_lex.specs.Tokens.{tokens_of, tokens_from, tokens_in, joined, length_of, end_at, IsRightKind, IsTokenList}
use Rattle.plank_lex.proofs.Reading.{found_stands}
use Rattle.plank_lex.specs.declared.lexemes.Lexeme.{Lexeme}
use Rattle.plank_lex.specs.declared.lexemes.LexemeKind.{LexemeKind}
use Rattle.plank_lex.specs.declared.lexemes.LexemeKind.TheVariants as lexeme
use Rattle.plank_lex.specs.declared.tokens.Token.{Token}
use Rattle.plank_lex.specs.declared.tokens.TokenKind.{TokenKind}
use Rattle.plank_lex.specs.declared.tokens.TokenKind.TheVariants as kind

-- q stands at p or after it
record IsFrom (p q : Place) : Type 0 where
  bytes : p.byte ≤ q.byte
  lines : (p.line < q.line) ⊎ ((p.line ≡ q.line) × (p.column ≤ q.column))

before_next : (p : Place) (b : ℕ) → IsBefore p (after p b)
before_next p b = record {
  bytes = omega arith;
  lines = elim (eqb b 10) as (λ t. (p.line < cond t (p.line + 1) p.line) ⊎ ((p.line ≡ cond t (p.line + 1) p.line) × (p.column < cond t 1 (p.column + 1)))) [
    | true ↦ inl (omega arith)
    | false ↦ inr (refl, omega arith)
  ];
}

before_from : (p q r : Place) → IsBefore p q → IsFrom q r → IsBefore p r
before_from p q r before from = record {
  bytes = omega (arith, before.bytes, from.bytes);
  lines = ⊎_elim
      (λ line. inl (⊎_elim (λ more. omega arith) (λ same. omega (arith, same.0)) from.lines))
      (λ column. ⊎_elim (λ more. inl (omega (arith, column.0))) (λ same. inr (column.0 ∙ same.0, omega (arith, column.1, same.1))) from.lines)
      before.lines;
}

from_before : (p q : Place) → IsBefore p q → IsFrom p q
from_before p q before = record {
  bytes = omega (arith, before.bytes);
  lines = ⊎_elim (λ line. inl line) (λ column. inr (column.0, omega (arith, column.1))) before.lines;
}

abbrev BeginsFrom : Place → List Token → Type 0
BeginsFrom p [] = Unit {0}
BeginsFrom p (t ∷ ts) = IsFrom p t.place

-- a list of tokens that begins at p or after it
record IsListFrom (p : Place) (tokens : List Token) : Type 0 where
  listed : IsTokenList tokens
  begins : BeginsFrom p tokens

-- one byte earlier
list_from_earlier : (p : Place) (b : ℕ) (tokens : List Token) → IsListFrom (after p b) tokens → IsListFrom p tokens
list_from_earlier p b [] list = record { listed = list.listed; begins = tt }
list_from_earlier p b (t ∷ ts) list =
    record { listed = list.listed; begins = from_before p t.place (before_from p (after p b) t.place (before_next p b) list.begins) }

-- one token more in front
list_from_token : (p : Place) (b : ℕ) (k : TokenKind) (n : ℕ) (tokens : List Token) → (k ≡ kind.End → ⊥) → IsRightKind k → IsListFrom (after p b) tokens → IsListFrom p ((record { kind = k; place = p; length = n }) ∷ tokens)
list_from_token p b k n [] other right list = absurd list.listed.ends_once
list_from_token p b k n (t ∷ ts) other right list = record {
  listed = record {
    ends_once = (other, list.listed.ends_once);
    names = (right, list.listed.names);
    places_rise = (before_from p (after p b) t.place (before_next p b) list.begins, list.listed.places_rise);
  };
  begins = record { bytes = omega arith; lines = inr (refl, omega arith) };
}

list_from_lexeme : (p : Place) (b : ℕ) (bs : List ℕ) (k : LexemeKind) (n : ℕ) (tokens : List Token) → lexeme_of (b ∷ bs) ≡ Some (record { kind = k; length = n }) → IsListFrom (after p b) tokens → IsListFrom p (tokens_in p (b ∷ bs) (record { kind = k; length = n }) ++ tokens)
list_from_lexeme p b bs lexeme.Gap n tokens h list = list_from_earlier p b tokens list
list_from_lexeme p b bs (lexeme.Symbol s) n tokens h list = list_from_token p b (kind.Symbol s) n tokens (λ e. cc) tt list
list_from_lexeme p b bs (lexeme.Reserved r) n tokens h list = list_from_token p b (kind.Reserved r) n tokens (λ e. cc) tt list
list_from_lexeme p b bs lexeme.Name n tokens h list =
    list_from_token p b (kind.Name (take n (b ∷ bs))) n tokens (λ e. cc) (found_stands (b ∷ bs) (record { kind = lexeme.Name; length = n }) h).part.1 list

list_from_joined : (p : Place) (b : ℕ) (bs : List ℕ) (o : Option Lexeme) (reading : Result (List Token) Place) (tokens : List Token) → lexeme_of (b ∷ bs) ≡ o → ((more : List Token) → reading ≡ Ok more → IsListFrom (after p b) more) → joined p (b ∷ bs) o reading ≡ Ok tokens → IsListFrom p tokens
list_from_joined p b bs None reading tokens h list e = cc
list_from_joined p b bs (Some found) (Err q) tokens h list e = cc
list_from_joined p b bs (Some found) (Ok more) tokens h list e =
    let same : tokens_in p (b ∷ bs) found ++ more ≡ tokens = cc in
    subst (IsListFrom p) same (list_from_lexeme p b bs found.kind found.length more h (list more refl))

list_from : (bytes : List ℕ) (left : ℕ) (p : Place) (tokens : List Token) → tokens_from left p bytes ≡ Ok tokens → IsListFrom p tokens
list_from [] left p tokens e =
    let same : end_at p ∷ [] ≡ tokens = cc in
    subst (IsListFrom p) same (record {
      listed = record { ends_once = refl; names = (tt, tt); places_rise = tt };
      begins = record { bytes = omega arith; lines = inr (refl, omega arith) };
    })
list_from (b ∷ bs) (suc left) p tokens e = list_from_earlier p b tokens (list_from bs left (after p b) tokens e)
list_from (b ∷ bs) zero p tokens e =
    list_from_joined p b bs (lexeme_of (b ∷ bs)) (tokens_from (length_of (lexeme_of (b ∷ bs)) - 1) (after p b) bs) tokens refl
    (λ more is_more. list_from bs (length_of (lexeme_of (b ∷ bs)) - 1) (after p b) more is_more) e

pub tokens_of_listed : (text : List ℕ) (tokens : List Token) → tokens_of text ≡ Ok tokens → IsTokenList tokens
unfolding tokens_of
tokens_of_listed text tokens e = (list_from text 0 start tokens e).listed
