-- Digits that are 0 or 1, the tests whether they are 1, and tests that follow from one another.
use Rattle.std.proofs.Common.{◌≡◌, ℕ, zero, suc, ◌*◌, ◌<◌, ◌≤◌, ◌==◌, ◌||◌, not, max, cond, Bool, true, false, bit_or, refl, sym, ◌∙◌, ap, arith}
use Rattle.std.specs.Int.{bit_at}
use Rattle.std.proofs.lemmas.Bool.{eq-eqb, ne_eqb, false≢true}
use Rattle.std.proofs.lemmas.Nat.Bits.{bit_at_or, bit_at-lt}

pub max_is_one : (x y : ℕ) → x < 2 → y < 2 → (max x y == 1) ≡ ((x == 1) || (y == 1))
max_is_one zero zero p q = refl
max_is_one zero (suc zero) p q = refl
max_is_one (suc zero) zero p q = refl
max_is_one (suc zero) (suc zero) p q = refl
max_is_one (suc (suc x)) y p q = absurd (omega arith)
max_is_one zero (suc (suc y)) p q = absurd (omega arith)
max_is_one (suc zero) (suc (suc y)) p q = absurd (omega arith)

-- a bit of a union
pub is_one-or : (a b i : ℕ) → (bit_at (bit_or a b) i == 1) ≡ ((bit_at a i == 1) || (bit_at b i == 1))
is_one-or a b i =
    ap (λ x. x == 1) (bit_at_or a b i) ∙ max_is_one (bit_at a i) (bit_at b i) (bit_at-lt a i) (bit_at-lt b i)

-- a digit times its place's value is not zero just where the digit is one
pub digit_times : (x p : ℕ) → x < 2 → 0 < p → not (x * p == 0) ≡ (x == 1)
digit_times zero p h k = ap not (eq-eqb (0 * p) 0 (omega arith))
digit_times (suc zero) p h k = ap not (ne_eqb (1 * p) 0 (λ e. omega arith))
digit_times (suc (suc x)) p h k = absurd (omega arith)

pub digits_from_tests : (x y : ℕ) → x < 2 → y < 2 → (x == 1) ≡ (y == 1) → x ≡ y
digits_from_tests zero zero p q e = refl
digits_from_tests zero (suc zero) p q e = absurd (false≢true e)
digits_from_tests (suc zero) zero p q e = absurd (false≢true (sym e))
digits_from_tests (suc zero) (suc zero) p q e = refl
digits_from_tests (suc (suc x)) y p q e = absurd (omega arith)
digits_from_tests zero (suc (suc y)) p q e = absurd (omega arith)
digits_from_tests (suc zero) (suc (suc y)) p q e = absurd (omega arith)

-- ---- tests

pub same_tests : (x y : Bool) → (x ≡ true → y ≡ true) → (y ≡ true → x ≡ true) → x ≡ y
same_tests true y to back = sym (to refl)
same_tests false true to back = absurd (false≢true (back refl))
same_tests false false to back = refl

pub more_digits : (x y : Bool) → (x ≡ true → y ≡ true) → cond x 1 0 ≤ cond y 1 0
more_digits false y h = omega arith
more_digits true true h = omega arith
more_digits true false h = absurd (false≢true (h refl))
