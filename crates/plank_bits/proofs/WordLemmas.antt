-- One word of 64 bits as a set of numbers: which bits of a union, a meet, a difference and a masked word are set.
use Rattle.std.proofs.Common.{◌≡◌, ◌↔◌, ℕ, zero, suc, ◌-◌, ◌*◌, ◌%◌, ◌^◌, ◌<◌, ◌≤◌, ◌==◌, ◌&&◌, ◌||◌, not, min, Bool, true, false, IsTrue, bit_and, bit_or, nat_le, refl, sym, ◌∙◌, ap, subst, inl, inr, arith, w64}
use Rattle.std.specs.Int.{bit_at, bit_not, trailing_zeros}
use Rattle.std.proofs.lemmas.Bool.{cases_eq, cases_lt, eq-eqb, ne_eqb, eqb-true, le-leb, lt-leb, leb-true, false≢true, and_parts, and_left, or_right}
use Rattle.std.proofs.lemmas.Nat.{one_shl, pow_pos, and_le_l}
use Rattle.std.proofs.lemmas.Nat.Bits.{bit_at_and, bit_at_not, bit_at-lt, bit_at-zero, bit_at_above, bit_at_set_same, bit_at_set_other, bit_at_mask_below, bit_at_mask_inside, bit_at-trailing_zeros, ones_shl, and_pow, same_from_bits}
use Rattle.plank_base.proofs.Digits.{is_one-or, digit_times}
use Rattle.plank_bits.specs.Words.{is_set, IsWithin, IsLeastFrom}

-- ---- digits that are 0 or 1

min_is_one : (x y : ℕ) → x < 2 → y < 2 → (min x y == 1) ≡ ((x == 1) && (y == 1))
min_is_one zero zero p q = refl
min_is_one zero (suc zero) p q = refl
min_is_one (suc zero) zero p q = refl
min_is_one (suc zero) (suc zero) p q = refl
min_is_one (suc (suc x)) y p q = absurd (omega arith)
min_is_one zero (suc (suc y)) p q = absurd (omega arith)
min_is_one (suc zero) (suc (suc y)) p q = absurd (omega arith)

not_is_one : (x : ℕ) → x < 2 → (1 - x == 1) ≡ not (x == 1)
not_is_one zero p = refl
not_is_one (suc zero) p = refl
not_is_one (suc (suc x)) p = absurd (omega arith)

zero_digit : (x : ℕ) → x < 2 → (x == 1) ≡ false → x ≡ 0
zero_digit zero p e = refl
zero_digit (suc zero) p e = absurd (false≢true (sym e))
zero_digit (suc (suc x)) p e = absurd (omega arith)

pub or_false : (x y : Bool) → y ≡ false → (x || y) ≡ x
or_false true y e = refl
or_false false y e = e

-- ---- the bits of a word

pub is_set-one : (w i : ℕ) → bit_at w i ≡ 1 → is_set w i ≡ true
is_set-one w i e = ap (λ x. x == 1) e

pub is_set-none : (w i : ℕ) → bit_at w i ≡ 0 → is_set w i ≡ false
is_set-none w i e = ap (λ x. x == 1) e

pub is_set-zero : (i : ℕ) → is_set 0 i ≡ false
is_set-zero i = is_set-none 0 i (bit_at-zero i)

pub is_set-above : (w i : ℕ) → w < 2 ^ 64 → 64 ≤ i → is_set w i ≡ false
is_set-above w i h k = is_set-none w i (bit_at_above w 64 i h k)

pub is_set-or : (a b i : ℕ) → is_set (bit_or a b) i ≡ (is_set a i || is_set b i)
is_set-or a b i = is_one-or a b i

pub is_set-and : (a b i : ℕ) → is_set (bit_and a b) i ≡ (is_set a i && is_set b i)
is_set-and a b i =
    ap (λ x. x == 1) (bit_at_and a b i) ∙ min_is_one (bit_at a i) (bit_at b i) (bit_at-lt a i) (bit_at-lt b i)

pub is_set-not : (b i : ℕ) → b < 2 ^ 64 → i < 64 → is_set (bit_not w64 b) i ≡ not (is_set b i)
is_set-not b i h k = ap (λ x. x == 1) (bit_at_not w64 b i h k) ∙ not_is_one (bit_at b i) (bit_at-lt b i)

-- `a & !b`
pub is_set-without : (a b i : ℕ) → a < 2 ^ 64 → b < 2 ^ 64 → is_set (bit_and a (bit_not w64 b)) i ≡ (is_set a i && not (is_set b i))
is_set-without a b i p q =
    is_set-and a (bit_not w64 b) i
    ∙ elim (cases_lt i 64) [
      | inl h ↦ ap (λ v. is_set a i && v) (is_set-not b i q h)
      | inr h ↦
          let none : is_set a i ≡ false = is_set-above a i p h in
          and_left (is_set a i) (is_set (bit_not w64 b) i) none ∙ sym (and_left (is_set a i) (not (is_set b i)) none)
    ]

-- `w & (1 << k) != 0`
pub is_set-test : (w k : ℕ) → k < 64 → not (bit_and w (1 * 2 ^ k % 2 ^ 64) == 0) ≡ is_set w k
is_set-test w k h =
    ap (λ m. not (bit_and w m == 0)) (one_shl k 64 h)
    ∙ ap (λ v. not (v == 0)) (and_pow w k)
    ∙ digit_times (bit_at w k) (2 ^ k) (bit_at-lt w k) (pow_pos k)

-- `w | 1 << k`
pub is_set-with : (w k i : ℕ) → k < 64 → is_set (bit_or w (1 * 2 ^ k % 2 ^ 64)) i ≡ (is_set w i || (i == k))
is_set-with w k i h =
    elim (cases_eq i k) [
      | inl e ↦
          subst (λ v. is_set (bit_or w (1 * 2 ^ k % 2 ^ 64)) v ≡ (is_set w v || (v == k))) (sym e)
          (is_set-one (bit_or w (1 * 2 ^ k % 2 ^ 64)) k (bit_at_set_same w64 w k h)
          ∙ sym (or_right (is_set w k) (k == k) (eq-eqb k k refl)))
      | inr d ↦
          ap (λ x. x == 1) (bit_at_set_other w64 w k h i d)
          ∙ sym (or_false (is_set w i) (i == k) (ne_eqb i k d))
    ]

-- a word with no bit set is 0
pub zero_word : (w : ℕ) → ((i : ℕ) → is_set w i ≡ false) → w ≡ 0
zero_word w h =
    same_from_bits w 0 (λ i. zero_digit (bit_at w i) (bit_at-lt w i) (h i) ∙ sym (bit_at-zero i))

-- `a & !b == 0`
pub without-is_within : (a b : ℕ) → a < 2 ^ 64 → b < 2 ^ 64 → (IsTrue (bit_and a (bit_not w64 b) == 0)) ↔ IsWithin (is_set a) (is_set b)
without-is_within a b p q = (
  λ e i s.
      let none : is_set (bit_and a (bit_not w64 b)) i ≡ false = subst (λ w. is_set w i ≡ false) (sym (eqb-true (bit_and a (bit_not w64 b)) 0 e)) (is_set-zero i) in
      kept (is_set a i) (is_set b i) s (sym (is_set-without a b i p q) ∙ none),
  λ h. eq-eqb (bit_and a (bit_not w64 b)) 0
      (zero_word (bit_and a (bit_not w64 b)) (λ i. is_set-without a b i p q ∙ left (is_set a i) (is_set b i) (h i))),
)
  where
    kept : (x y : Bool) → x ≡ true → (x && not y) ≡ false → y ≡ true
    kept x true s e = refl
    kept true false s e = absurd (false≢true (sym e))
    kept false false s e = s

    left : (x y : Bool) → (x ≡ true → y ≡ true) → (x && not y) ≡ false
    left true true h = refl
    left true false h = absurd (false≢true (h refl))
    left false true h = refl
    left false false h = refl

-- `w & (MAX << k)`
pub is_set-from : (w k i : ℕ) → w < 2 ^ 64 → k < 64 → is_set (bit_and w ((2 ^ 64 - 1) * 2 ^ k % 2 ^ 64)) i ≡ (is_set w i && nat_le k i)
is_set-from w k i h l =
    ap (λ m. is_set (bit_and w m) i) (ones_shl 64 k (omega arith))
    ∙ is_set-and w (2 ^ 64 - 2 ^ k) i
    ∙ elim (cases_lt i k) [
      | inl below ↦
          ap (λ v. is_set w i && v) (is_set-none (2 ^ 64 - 2 ^ k) i (bit_at_mask_below k 64 i below) ∙ sym (lt-leb k i below))
      | inr above ↦ elim (cases_lt i 64) [
        | inl within ↦
            ap (λ v. is_set w i && v) (is_set-one (2 ^ 64 - 2 ^ k) i (bit_at_mask_inside k 64 i above within) ∙ sym (le-leb k i above))
        | inr past ↦
            let none : is_set w i ≡ false = is_set-above w i h past in
            and_left (is_set w i) (is_set (2 ^ 64 - 2 ^ k) i) none ∙ sym (and_left (is_set w i) (nat_le k i) none)
      ]
    ]

-- the lowest bit of a word from bit k on, where `rest` is the word without the bits below k
module _ (w k rest : ℕ) (fits : w < 2 ^ 64) (within : k < 64) (rest_is : rest ≡ bit_and w ((2 ^ 64 - 1) * 2 ^ k % 2 ^ 64)) where
  is_set-rest : (i : ℕ) → is_set rest i ≡ (is_set w i && nat_le k i)
  is_set-rest i = ap (λ r. is_set r i) rest_is ∙ is_set-from w k i fits within

  clear_in_rest : (i : ℕ) → k ≤ i → is_set rest i ≡ false → is_set w i ≡ false
  clear_in_rest i h e = first_is_false (is_set w i) (nat_le k i) (le-leb k i h) (sym (is_set-rest i) ∙ e)
    where
      first_is_false : (x y : Bool) → y ≡ true → (x && y) ≡ false → x ≡ false
      first_is_false true y t e = absurd (false≢true (sym e ∙ t))
      first_is_false false y t e = refl

  pub lowest-none : rest ≡ 0 → (i : ℕ) → k ≤ i → is_set w i ≡ false
  lowest-none z i h = clear_in_rest i h (ap (λ r. is_set r i) z ∙ is_set-zero i)

  pub lowest-found : (0 < rest) → IsLeastFrom (is_set w) k (trailing_zeros w64 rest) × (trailing_zeros w64 rest < 64)
  lowest-found p =
      let rest_fits : rest < 2 ^ 64 = subst (λ r. r < 2 ^ 64) (sym rest_is) (omega (arith, and_le_l w ((2 ^ 64 - 1) * 2 ^ k % 2 ^ 64))) in
      let lowest = bit_at-trailing_zeros w64 rest p rest_fits in
      let parts = and_parts (is_set w (trailing_zeros w64 rest)) (nat_le k (trailing_zeros w64 rest))
      (sym (is_set-rest (trailing_zeros w64 rest)) ∙ is_set-one rest (trailing_zeros w64 rest) lowest.1) in (
        record {
          from = leb-true k (trailing_zeros w64 rest) parts.1;
          member = parts.0;
          least = λ j h l. clear_in_rest j h (is_set-none rest j (lowest.2 j l));
        },
        lowest.0,
      )
