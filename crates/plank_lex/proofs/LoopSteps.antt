-- What the loop over a text keeps, and how an iteration goes on.
use Rattle.std.proofs.Common.{◌≡◌, ℕ, zero, suc, ◌+◌, ◌<◌, ◌≤◌, List, [], ◌∷◌, ◌++◌, length, take, drop, refl, ap, ◌∙◌, sym, arith, Some, None, Ok, Err, length-drop}
use Rattle.plank_base.specs.declared.places.Place.{Place}
use Rattle.plank_lex.specs.Places.{start, place_after}
use Rattle.plank_lex.specs.Lexemes.{lexeme_of}
use Rattle.plank_lex.specs.Tokens.{tokens_of, tokens_from, tokens_in, end_at}
use Rattle.plank_lex.proofs.PlaceLemmas.{place_after-take-within}
use Rattle.plank_lex.proofs.Reading.{continued, continued_none, continued-append, found_stands, reading_goes, reading_stops}
use Rattle.plank_lex.specs.declared.lexemes.Lexeme.{Lexeme}
use Rattle.plank_lex.specs.declared.tokens.Token.{Token}

-- these are the tokens of the text up to p, and rest is what is left
pub record IsReadUpTo (text : List ℕ) (tokens : List Token) (p : Place) (rest : List ℕ) : Type 0 where
  pub read : continued tokens (tokens_from 0 p rest) ≡ tokens_of text
  pub line : p.line + length rest ≤ length text + 1
  pub column : p.column + length rest ≤ length text + 1
  pub byte : p.byte + length rest ≡ length text

pub read_none : (text : List ℕ) (tokens : List Token) → tokens ≡ [] → IsReadUpTo text tokens start text
unfolding tokens_of
read_none text tokens none = record {
  read = ap (λ ts. continued ts (tokens_from 0 start text)) none ∙ continued_none (tokens_from 0 start text);
  line = omega arith;
  column = omega arith;
  byte = omega arith;
}

pub read_stops : (text : List ℕ) (tokens : List Token) (p : Place) (rest : List ℕ) → IsReadUpTo text tokens p rest → 0 < length rest → lexeme_of rest ≡ None → tokens_of text ≡ Err p
read_stops text tokens p rest up_to some none = sym up_to.read ∙ ap (continued tokens) (reading_stops p rest some none)

pub read_ends : (text : List ℕ) (tokens : List Token) (p : Place) (rest : List ℕ) → IsReadUpTo text tokens p rest → length rest ≡ 0 → tokens_of text ≡ Ok (tokens ++ end_at p ∷ [])
read_ends text tokens p [] up_to ended = sym up_to.read
read_ends text tokens p (b ∷ bs) up_to ended = absurd (omega arith)

take-take : (n : ℕ) (xs : List ℕ) → take n (take n xs) ≡ take n xs
take-take zero xs = refl
take-take (suc n) [] = refl
take-take (suc n) (x ∷ xs) = ap (λ front. x ∷ front) (take-take n xs)

tokens_in_front : (p : Place) (rest : List ℕ) (found : Lexeme) → tokens_in p (take found.length rest) found ≡ tokens_in p rest found
tokens_in_front p rest found = let same = take-take found.length rest in rw same refl

pub read_more : (text : List ℕ) (tokens more : List Token) (p q : Place) (rest bytes left : List ℕ) (found : Lexeme) → IsReadUpTo text tokens p rest → lexeme_of rest ≡ Some found → bytes ≡ take found.length rest → left ≡ drop found.length rest → more ≡ tokens ++ tokens_in p bytes found → q ≡ place_after p bytes → IsReadUpTo text more q left
read_more text tokens more p q rest bytes left found up_to h bytes_is left_is more_is q_is =
    let n = found.length in
    let stands = found_stands rest found h in
    let at = place_after-take-within p q rest n (q_is ∙ ap (place_after p) bytes_is) stands.within in
    let size : length left + n ≡ length rest = omega (arith, ap length left_is, length-drop n rest, stands.within) in
    record {
      read = ap (λ ts. continued ts (tokens_from 0 q left)) more_is
          ∙ continued-append tokens (tokens_in p bytes found) (tokens_from 0 q left)
          ∙ ap (λ bs. continued tokens (continued (tokens_in p bs found) (tokens_from 0 q left))) bytes_is
          ∙ ap (λ ts. continued tokens (continued ts (tokens_from 0 q left))) (tokens_in_front p rest found)
          ∙ ap (λ r. continued tokens (continued (tokens_in p rest found) (tokens_from 0 r left))) (q_is ∙ ap (place_after p) bytes_is)
          ∙ ap (λ bs. continued tokens (continued (tokens_in p rest found) (tokens_from 0 (place_after p (take n rest)) bs))) left_is
          ∙ ap (continued tokens) (sym (reading_goes p rest found h))
          ∙ up_to.read;
      line = omega (arith, at.line, up_to.line, size);
      column = omega (arith, at.column, up_to.column, size);
      byte = omega (arith, at.byte, up_to.byte, size);
    }
