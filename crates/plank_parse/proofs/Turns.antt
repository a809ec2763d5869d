-- A list of parts that was read so far, and what is read of the rest, make what is read of the whole.
use Rattle.std.proofs.Common.{◌≡◌, subst, ℕ, zero, suc, ◌+◌, ◌-◌, ◌<◌, ◌≤◌, Bool, true, false, List, [], ◌∷◌, ◌++◌, length, refl, ap, sym, ◌∙◌, append_assoc, arith, rules}
use Rattle.plank_lex.specs.declared.tokens.Token.{Token}
use Rattle.plank_lex.specs.declared.tokens.TokenKind.{TokenKind}
use Rattle.plank_parse.specs.declared.stops.Stop.{Stop}
use Rattle.plank_parse.specs.declared.stops.Stop.TheVariants as stop
use Rattle.plank_parse.specs.Gives.{Stops}
use Rattle.plank_parse.specs.Readers.{Found, read, stopped, too_deep, Reader, begins, and_then, many, many_within}

-- these parts before those that are found
abbrev pub with_front : {A : Type 0} → List A → Found (List A) → Found (List A)
with_front front (read parts rest) = read (front ++ parts) rest
with_front front (stopped rest) = stopped rest
with_front front (too_deep rest) = too_deep rest

no_front : {A : Type 0} (found : Found (List A)) → with_front [] found ≡ found
no_front (read parts rest) = refl
no_front (stopped rest) = refl
no_front (too_deep rest) = refl

longer_front : {A : Type 0} (front : List A) (part : A) (found : Found (List A))
    → with_front front (and_then found (λ parts rest. read (part ∷ parts) rest)) ≡ with_front (front ++ part ∷ []) found
longer_front front part (read parts rest) = ap (λ xs. read xs rest) (sym (append_assoc front (part ∷ []) parts))
longer_front front part (stopped rest) = refl
longer_front front part (too_deep rest) = refl

-- what is read from here on, where so many parts are the most
pub record GoesOn {A : Type 0} (test : TokenKind → Bool) (r : Reader A) (tokens : List Token) (front : List A) (turns : ℕ) (rest : List Token) : Type 0 where
  pub whole : many test r tokens ≡ with_front front (many_within turns test r rest)

pub begun : {A : Type 0} (test : TokenKind → Bool) (r : Reader A) (tokens : List Token) (turns : ℕ) → turns ≡ length tokens → GoesOn test r tokens [] turns tokens
unfolding many
begun test r tokens turns all =
    record { whole = sym (no_front (many_within (length tokens) test r tokens)) ∙ ap (λ n. with_front [] (many_within n test r tokens)) (sym all) }

-- a turn takes one part more
within_more : {A : Type 0} (test : TokenKind → Bool) (r : Reader A) (turns : ℕ) (rest after : List Token) (part : A)
    → begins test rest ≡ true → r rest ≡ read part after
    → many_within (suc turns) test r rest ≡ and_then (many_within turns test r after) (λ parts left. read (part ∷ parts) left)
unfolding many_within
within_more test r turns rest after part goes found = rw (goes, found) refl

pub one_more : {A : Type 0} {test : TokenKind → Bool} {r : Reader A} {tokens : List Token} {front : List A} (end at : ℕ) {rest after : List Token} {part : A}
    → GoesOn test r tokens front (end - at) rest → at < end → begins test rest ≡ true → r rest ≡ read part after → GoesOn test r tokens (front ++ part ∷ []) (end - (at + 1)) after
one_more {A} {test} {r} {tokens} {front} end at {rest} {after} {part} so_far below goes found =
    let turn : end - at ≡ suc (end - (at + 1)) = omega arith in
    record {
      whole = so_far.whole ∙ ap (λ n. with_front front (many_within n test r rest)) turn
          ∙ ap (with_front front) (within_more test r (end - (at + 1)) rest after part goes found)
          ∙ longer_front front part (many_within (end - (at + 1)) test r after);
    }

-- the first token begins no part
within_none : {A : Type 0} (test : TokenKind → Bool) (r : Reader A) (turns : ℕ) (rest : List Token)
    → begins test rest ≡ false → many_within turns test r rest ≡ read [] rest
unfolding many_within
within_none test r zero rest ends = refl
within_none test r (suc turns) rest ends = rw ends refl

none_follow : {A : Type 0} (front : List A) (rest : List Token) → with_front front (read [] rest) ≡ read front rest
none_follow front rest = ap (λ xs. read xs rest) (search rules)

pub no_more : {A : Type 0} {test : TokenKind → Bool} {r : Reader A} {tokens : List Token} {front : List A} {turns : ℕ} {rest : List Token}
    → GoesOn test r tokens front turns rest → begins test rest ≡ false → many test r tokens ≡ read front rest
no_more {A} {test} {r} {tokens} {front} {turns} {rest} so_far ends =
    so_far.whole ∙ ap (with_front front) (within_none test r turns rest ends) ∙ none_follow front rest

-- there are no more turns
pub no_turn : {A : Type 0} {test : TokenKind → Bool} {r : Reader A} {tokens : List Token} {front : List A} (end at : ℕ) {rest : List Token}
    → GoesOn test r tokens front (end - at) rest → end ≤ at → many test r tokens ≡ read front rest
unfolding many_within
no_turn {A} {test} {r} {tokens} {front} end at {rest} so_far done =
    let turn : end - at ≡ 0 = omega arith in
    so_far.whole ∙ ap (λ n. with_front front (many_within n test r rest)) turn ∙ none_follow front rest

-- a part stops
stops_within : {A : Type 0} (test : TokenKind → Bool) (r : Reader A) (front : List A) (turns : ℕ) (rest : List Token) (s : Stop)
    → begins test rest ≡ true → Stops s (r rest) → Stops s (with_front front (many_within (suc turns) test r rest))
unfolding many_within
stops_within test r front turns rest (stop.Unexpected left) goes why = rw (goes, why) refl
stops_within test r front turns rest (stop.TooDeep left) goes why = rw (goes, why) refl
stops_within test r front turns rest stop.OutOfMemory goes why = tt

pub stops : {A : Type 0} {test : TokenKind → Bool} {r : Reader A} {tokens : List Token} {front : List A} (end at : ℕ) {rest : List Token} (s : Stop)
    → GoesOn test r tokens front (end - at) rest → at < end → begins test rest ≡ true → Stops s (r rest) → Stops s (many test r tokens)
stops {A} {test} {r} {tokens} {front} end at {rest} s so_far below goes why =
    let turn : end - at ≡ suc (end - (at + 1)) = omega arith in
    subst (Stops s) (sym (so_far.whole ∙ ap (λ n. with_front front (many_within n test r rest)) turn))
    (stops_within test r front (end - (at + 1)) rest s goes why)

-- a count that is not 0, as one more
pub deeper : {X : Type 0} (f : ℕ → X) (n : ℕ) → 0 < n → f n ≡ f (suc (n - 1))
deeper f n some = let e : n ≡ suc (n - 1) = omega arith in ap f e

pub at_zero : {X : Type 0} (f : ℕ → X) (n : ℕ) → n ≡ 0 → f n ≡ f 0
at_zero f n none = ap f none

-- what stops at its first part stops there
pub stops_first : {A B : Type 0} (s : Stop) (found : Found A) (next : A → Reader B) → Stops s found → Stops s (and_then found next)
stops_first (stop.Unexpected left) found next why = rw why refl
stops_first (stop.TooDeep left) found next why = rw why refl
stops_first stop.OutOfMemory found next why = tt
