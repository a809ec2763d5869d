-- How far bytes move a place.
use Rattle.std.proofs.Common.{◌≡◌, ℕ, ◌+◌, ◌<◌, ◌≤◌, true, false, List, [], ◌∷◌, length, take, get_or, arith, eqb, cond}
use Rattle.std.proofs.lemmas.List.{length-take-le}
use Rattle.std.proofs.lemmas.List.Sums.{fold_more}
use Rattle.plank_base.specs.declared.places.Place.{Place}
use Rattle.plank_lex.specs.Places.{after, place_after}

-- one byte more
pub place_after_more : (p : Place) (bytes : List ℕ) (i : ℕ) → i < length bytes → place_after p (take (i + 1) bytes) ≡ after (place_after p (take i bytes)) (get_or bytes i 0)
place_after_more p bytes i h = fold_more after p bytes i 0 h

-- no part of a place grows by more than the number of bytes
pub record IsWithin (p q : Place) (n : ℕ) : Type 0 where
  pub line : q.line ≤ p.line + n
  pub column : q.column ≤ p.column + n
  pub byte : q.byte ≡ p.byte + n

within_step : (p : Place) (b : ℕ) (q : Place) (n m : ℕ) → m ≡ n + 1 → IsWithin (after p b) q n → IsWithin p q m
within_step p b q n m e h = elim (eqb b 10) as (λ t. (q.line ≤ cond t (p.line + 1) p.line + n) → (q.column ≤ cond t 1 (p.column + 1) + n) → IsWithin p q m) [
  | true ↦ λ line column. record { line = omega arith; column = omega arith; byte = omega (arith, h.byte) }
  | false ↦ λ line column. record { line = omega arith; column = omega arith; byte = omega (arith, h.byte) }
] h.line h.column

pub place_after-within : (bytes : List ℕ) (p : Place) → IsWithin p (place_after p bytes) (length bytes)
place_after-within [] p = record { line = omega arith; column = omega arith; byte = omega arith }
place_after-within (b ∷ bs) p = within_step p b (place_after (after p b) bs) (length bs) (length (b ∷ bs)) (omega arith) (place_after-within bs (after p b))

-- the same of the front of some bytes
pub place_after-take-within : (p q : Place) (bytes : List ℕ) (i : ℕ) → q ≡ place_after p (take i bytes) → i ≤ length bytes → IsWithin p q i
place_after-take-within p q bytes i e h =
    let within = place_after-within (take i bytes) p in
    let size = length-take-le i bytes h in
    rw e (rw size at within)
