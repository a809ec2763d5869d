-- How the reading of a text goes on after the lexeme at its front.
use Rattle.std.proofs.Common.{◌≡◌, ℕ, zero, suc, ◌-◌, ◌<◌, ◌≤◌, List, [], ◌∷◌, ◌++◌, length, take, drop, refl, ap, ◌∙◌, arith, append_assoc, Some, None, Result, Ok, Err}
use Rattle.plank_base.specs.declared.places.Place.{Place}
use Rattle.plank_lex.specs.Places.{after, place_after}
use Rattle.plank_lex.specs.Lexemes.{lexeme_of}
use Rattle.plank_lex.specs.Tokens.{tokens_from, tokens_in, joined, length_of}
use Rattle.plank_lex.proofs.Standing.{Stands, lexeme_stands}
use Rattle.plank_lex.specs.declared.lexemes.Lexeme.{Lexeme}
use Rattle.plank_lex.specs.declared.tokens.Token.{Token}

-- these tokens, and then what is read
abbrev pub continued : List Token → Result (List Token) Place → Result (List Token) Place
continued tokens (Ok more) = Ok (tokens ++ more)
continued tokens (Err p) = Err p

pub continued_none : (reading : Result (List Token) Place) → continued [] reading ≡ reading
continued_none (Ok more) = refl
continued_none (Err p) = refl

pub continued-append : (xs ys : List Token) (reading : Result (List Token) Place) → continued (xs ++ ys) reading ≡ continued xs (continued ys reading)
continued-append xs ys (Ok more) = ap (λ tokens. Ok tokens) (append_assoc xs ys more)
continued-append xs ys (Err p) = refl

-- bytes that are left of a lexeme are passed over
passed : (n : ℕ) (p : Place) (bytes : List ℕ) → tokens_from n p bytes ≡ tokens_from 0 (place_after p (take n bytes)) (drop n bytes)
passed zero p bytes = refl
passed (suc n) p [] = refl
passed (suc n) p (b ∷ bs) = passed n (after p b) bs

joined_found : (p : Place) (bytes : List ℕ) (found : Lexeme) (reading : Result (List Token) Place) → joined p bytes (Some found) reading ≡ continued (tokens_in p bytes found) reading
joined_found p bytes found (Ok tokens) = refl
joined_found p bytes found (Err q) = refl

reading_after : (p : Place) (b : ℕ) (bs : List ℕ) (n : ℕ) → 1 ≤ n → tokens_from (n - 1) (after p b) bs ≡ tokens_from 0 (place_after p (take n (b ∷ bs))) (drop n (b ∷ bs))
reading_after p b bs zero some = absurd (omega arith)
reading_after p b bs (suc n) some = let less : suc n - 1 ≡ n = omega arith in rw less (passed n (after p b) bs)

-- what is found at the front stands there
pub found_stands : (text : List ℕ) (found : Lexeme) → lexeme_of text ≡ Some found → Stands text found.kind found.length
found_stands text found h = rw h at (lexeme_stands text)

-- after a lexeme the reading goes on with what follows it
pub reading_goes : (p : Place) (text : List ℕ) (found : Lexeme) → lexeme_of text ≡ Some found → tokens_from 0 p text ≡ continued (tokens_in p text found) (tokens_from 0 (place_after p (take found.length text)) (drop found.length text))
reading_goes p [] found h = let stands = found_stands [] found h in absurd (omega (arith, stands.some, stands.within))
reading_goes p (b ∷ bs) found h =
    ap (λ o. joined p (b ∷ bs) o (tokens_from (length_of o - 1) (after p b) bs)) h
    ∙ joined_found p (b ∷ bs) found (tokens_from (found.length - 1) (after p b) bs)
    ∙ ap (continued (tokens_in p (b ∷ bs) found)) (reading_after p b bs found.length (found_stands (b ∷ bs) found h).some)

-- where no lexeme is, the reading stops
pub reading_stops : (p : Place) (text : List ℕ) → 0 < length text → lexeme_of text ≡ None → tokens_from 0 p text ≡ Err p
reading_stops p [] some h = absurd (omega arith)
reading_stops p (b ∷ bs) some h = ap (λ o. joined p (b ∷ bs) o (tokens_from (length_of o - 1) (after p b) bs)) h
