-- A keep tells whether a node is visited just where all keeps hold with one visit bit, and one does not with the other.
use Rattle.std.specs.Prelude.{◌≡◌, ◌⊎◌, ℕ, zero, suc, ◌<◌, Bool, true, false, not, ◌&&◌, List, [], ◌∷◌, length, slice_get}
use Rattle.std.specs.Bool.{beq}
use Rattle.std.specs.Option.{option_map_or}
use Rattle.std.specs.List.{list_all}
use Rattle.std.proofs.Common.{refl, sym, ◌∙◌, ap, inl, inr, arith}
use Rattle.std.proofs.lemmas.Bool.{false≢true, true≢false, and_from, and_parts, cases_Bool}

module _ {A : Type 0} (t : A → Bool) where
  abbrev passes : List A → ℕ → Bool
  passes xs i = option_map_or t (slice_get xs i) true

  pub all_from : (xs : List A) → ((i : ℕ) → i < length xs → passes xs i ≡ true) → list_all t xs ≡ true
  all_from [] each = refl
  all_from (x ∷ xs) each = and_from (t x) (list_all t xs) (each 0 (omega arith)) (all_from xs (λ i below. each (suc i) (omega (arith, below))))

  pub from_all : (xs : List A) → list_all t xs ≡ true → (i : ℕ) → passes xs i ≡ true
  from_all [] all i = refl
  from_all (x ∷ xs) all zero = (and_parts (t x) (list_all t xs) all).0
  from_all (x ∷ xs) all (suc i) = from_all xs (and_parts (t x) (list_all t xs) all).1 i

  pub one_from : (xs : List A) → list_all t xs ≡ false → (i : ℕ) × (i < length xs) × (passes xs i ≡ false)
  one_from [] all = absurd (true≢false all)
  one_from (x ∷ xs) all =
      elim (cases_Bool (t x)) [
        | inl yes_so ↦ let w = one_from xs (sym (ap (λ b. b && list_all t xs) yes_so) ∙ all) in (suc w.0, (let below = w.1 in omega (arith, below)), w.2)
        | inr not_so ↦ (0, omega arith, not_so)
      ]

  pub from_one : (xs : List A) (i : ℕ) → passes xs i ≡ false → list_all t xs ≡ false
  from_one xs i fails = elim (cases_Bool (list_all t xs)) [ inl all ↦ absurd (false≢true (sym fails ∙ from_all xs all i)) | inr e ↦ e ]

-- of two that differ, one is true
pub differ : (of : Bool → Bool) (b : Bool) → of b ≡ true → of (not b) ≡ false → not (beq (of true) (of false)) ≡ true
differ of true y n = ap not (ap (λ c. beq c (of false)) y ∙ ap (beq true) n)
differ of false y n = ap not (ap (λ c. beq c (of false)) n ∙ ap (beq false) y)

unlike : (x y : Bool) → not (beq x y) ≡ true → ((x ≡ true) × (y ≡ false)) ⊎ ((x ≡ false) × (y ≡ true))
unlike true true e = absurd (false≢true e)
unlike true false e = inl (refl, refl)
unlike false true e = inr (refl, refl)
unlike false false e = absurd (false≢true e)

pub differing : (of : Bool → Bool) → not (beq (of true) (of false)) ≡ true → (b : Bool) × (of b ≡ true) × (of (not b) ≡ false)
differing of e = elim (unlike (of true) (of false) e) [ inl w ↦ (true, w.0, w.1) | inr w ↦ (false, w.1, w.0) ]
