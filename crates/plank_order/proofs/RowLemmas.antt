-- Rows of bits: one bit, a row with more numbers, rows that are extended one after another, and how many numbers have a property.
use Rattle.std.proofs.Common.{◌≡◌, ◌≢◌, ◌⊎◌, ℕ, zero, suc, ◌+◌, ◌*◌, ◌%◌, ◌^◌, ◌<◌, ◌≤◌, ◌==◌, ◌&&◌, ◌||◌, not, cond, Bool, true, false, List, length, get_or, set, bit_and, bit_or, refl, sym, ◌∙◌, ap, subst, inl, inr, arith}
use Rattle.std.specs.Int.{bit_at}
use Rattle.std.proofs.lemmas.Bool.{cases_eq, cases_lt, eq-eqb, ne_eqb, false≢true, or_cases, or_right, and_parts, and_from}
use Rattle.std.proofs.lemmas.Nat.{one_shl, pow_pos}
use Rattle.std.proofs.lemmas.Nat.Bits.{bit_at-lt, bit_at-zero, bit_at-pow_same, bit_at-pow_other, and_pow, same_from_bits}
use Rattle.std.proofs.lemmas.List.{get_or_past, get_or-set_same, get_or-set_other, length-set, get_or-replicate, length-replicate}
use Rattle.std.proofs.Math.ListN.{replicate}
use Rattle.plank_base.proofs.Digits.{is_one-or, digit_times, digits_from_tests, same_tests, more_digits}
use Rattle.plank_order.specs.Rows.{is_set, relates}

-- ---- one bit: it is set, or two others are

pub join_cases : (p q r : Bool) → (p || (q && r)) ≡ true → (p ≡ true) ⊎ ((q ≡ true) × (r ≡ true))
join_cases p q r h = elim (or_cases p (q && r) h) [ inl e ↦ inl e | inr e ↦ inr (and_parts q r e) ]

pub join_right : (p q r : Bool) → q ≡ true → r ≡ true → (p || (q && r)) ≡ true
join_right p q r e f = or_right p (q && r) (and_from q r e f)

-- ---- one row

pub is_set-zero : (b : ℕ) → is_set 0 b ≡ false
is_set-zero b = ap (λ x. x == 1) (bit_at-zero b)

pub is_set-or : (row more b : ℕ) → is_set (bit_or row more) b ≡ (is_set row b || is_set more b)
is_set-or = is_one-or

-- `row & (1 << b) != 0`
pub is_set-test : (row b : ℕ) → b < 32 → not (bit_and row (1 * 2 ^ b % 2 ^ 32) == 0) ≡ is_set row b
is_set-test row b h =
    ap (λ m. not (bit_and row m == 0)) (one_shl b 32 h)
    ∙ ap (λ v. not (v == 0)) (and_pow row b)
    ∙ digit_times (bit_at row b) (2 ^ b) (bit_at-lt row b) (pow_pos b)

-- `1 << x`
pub is_set-one : (x y : ℕ) → x < 32 → is_set (1 * 2 ^ x % 2 ^ 32) y ≡ (x == y)
is_set-one x y h =
    ap (λ n. is_set n y) (one_shl x 32 h)
    ∙ elim (cases_eq y x) [
      | inl e ↦
          subst (λ v. is_set (2 ^ x) v ≡ (x == v)) (sym e) (ap (λ v. v == 1) (bit_at-pow_same x) ∙ sym (eq-eqb x x refl))
      | inr d ↦ ap (λ v. v == 1) (bit_at-pow_other x y d) ∙ sym (ne_eqb x y (λ e. d (sym e)))
    ]

pub with_more : (p q : Bool) (t : Bool) → t ≡ true → (p || q) ≡ (p || (t && q))
with_more p q true e = refl
with_more p q false e = absurd (false≢true e)

pub with_none : (p q : Bool) (t : Bool) → t ≡ false → p ≡ (p || (t && q))
with_none true q t e = refl
with_none false q true e = absurd (false≢true (sym e))
with_none false q false e = refl

pub or_after : (p r q : Bool) → p ≡ r → (p || q) ≡ (r || q)
or_after p r q e = ap (λ v. v || q) e

-- two rows with the same numbers are one number
pub same_row : (row other : ℕ) → ((b : ℕ) → is_set row b ≡ true → is_set other b ≡ true) → ((b : ℕ) → is_set other b ≡ true → is_set row b ≡ true) → row ≡ other
same_row row other f g =
    same_from_bits row other (λ b. digits_from_tests (bit_at row b) (bit_at other b) (bit_at-lt row b) (bit_at-lt other b) (same_tests (is_set row b) (is_set other b) (f b) (g b)))

-- ---- rows one after another

-- no number past the rows is related to any
pub relates-past : (rows : List ℕ) (x y : ℕ) → length rows ≤ x → relates rows x y ≡ false
relates-past rows x y h = ap (λ r. is_set r y) (get_or_past rows x 0 h) ∙ is_set-zero y

-- rows of zeros relate nothing
pub relates-zeros : (n x y : ℕ) → relates (replicate n 0) x y ≡ false
relates-zeros n x y =
    elim (cases_lt x n) [
      | inl h ↦ ap (λ r. is_set r y) (get_or-replicate n x 0 0 h) ∙ is_set-zero y
      | inr h ↦
          let past : length (replicate n 0) ≤ x = omega (arith, length-replicate {A = ℕ} n 0) in
          relates-past (replicate n 0) x y past
    ]

-- the rows below i relate each number to itself alone
pub record AreDiagonalBelow (rows : List ℕ) (n i : ℕ) : Type 0 where
  pub same_length : length rows ≡ n
  pub done : (x : ℕ) → x < i → (y : ℕ) → relates rows x y ≡ (x == y)

pub diagonal_none : (rows : List ℕ) → AreDiagonalBelow rows (length rows) 0
diagonal_none rows = record { same_length = refl; done = λ x h. absurd (omega arith) }

pub diagonal_more : (rows : List ℕ) (n i : ℕ) → AreDiagonalBelow rows n i → i < n → n ≤ 32 → AreDiagonalBelow (set rows i (1 * 2 ^ i % 2 ^ 32)) n (i + 1)
diagonal_more rows n i d h few =
    let same = d.same_length in
    let within : i < length rows = omega arith in
    record {
      same_length = length-set rows i (1 * 2 ^ i % 2 ^ 32) ∙ d.same_length;
      done = λ x l y. elim (cases_eq x i) [
        | inl e ↦
            ap (λ v. relates (set rows i (1 * 2 ^ i % 2 ^ 32)) v y) e
            ∙ ap (λ r. is_set r y) (get_or-set_same rows i (1 * 2 ^ i % 2 ^ 32) 0 within)
            ∙ is_set-one i y (omega arith)
            ∙ ap (λ v. v == y) (sym e)
        | inr o ↦
            let below : x < i = omega arith in
            ap (λ r. is_set r y) (get_or-set_other rows i x (1 * 2 ^ i % 2 ^ 32) 0 o) ∙ d.done x below y
      ];
    }

-- the rows below i are extended, and the others are as they were
pub record AreExtendedBelow (first through rows : List ℕ) (a more i : ℕ) : Type 0 where
  pub same_length : length rows ≡ length first
  pub done : (x : ℕ) → x < i → (y : ℕ) → relates rows x y ≡ (relates first x y || (relates through x a && is_set more y))
  pub rest : (x : ℕ) → i ≤ x → get_or rows x 0 ≡ get_or first x 0

pub extended_none : (first through : List ℕ) (a more : ℕ) → AreExtendedBelow first through first a more 0
extended_none first through a more =
    record { same_length = refl; done = λ x h. absurd (omega arith); rest = λ x h. refl }

pub extended_more : (first through rows : List ℕ) (a more i row : ℕ) → AreExtendedBelow first through rows a more i → i < length rows → ((y : ℕ) → is_set row y ≡ (relates rows i y || (relates through i a && is_set more y))) → AreExtendedBelow first through (set rows i row) a more (i + 1)
extended_more first through rows a more i row e h bits =
    record {
      same_length = length-set rows i row ∙ e.same_length;
      done = λ x l y. elim (cases_eq x i) [
        | inl s ↦
            ap (λ v. relates (set rows i row) v y) s
            ∙ ap (λ r. is_set r y) (get_or-set_same rows i row 0 h)
            ∙ bits y
            ∙ ap (λ r. is_set r y || (relates through i a && is_set more y)) (e.rest i (omega arith))
            ∙ ap (λ v. relates first v y || (relates through v a && is_set more y)) (sym s)
        | inr o ↦
            let below : x < i = omega arith in
            ap (λ r. is_set r y) (get_or-set_other rows i x row 0 o) ∙ e.done x below y
      ];
      rest = λ x l.
          let other : x ≢ i = λ s. omega arith in
          get_or-set_other rows i x row 0 other ∙ e.rest x (omega arith);
    }

pub extended_all : (first through rows : List ℕ) (a more i : ℕ) → length first ≡ length through → length first ≤ i → AreExtendedBelow first through rows a more i → (x y : ℕ) → relates rows x y ≡ (relates first x y || (relates through x a && is_set more y))
extended_all first through rows a more i same all e x y =
    elim (cases_lt x i) [
      | inl l ↦ e.done x l y
      | inr l ↦
          let past : length through ≤ x = omega arith in
          ap (λ r. is_set r y) (e.rest x l) ∙ with_none (relates first x y) (is_set more y) (relates through x a) (relates-past through x a past)
    ]

-- ---- how many numbers below n pass a test

pub count_below : (ℕ → Bool) → ℕ → ℕ
count_below p zero = 0
count_below p (suc n) = count_below p n + cond (p n) 1 0

digit_le : (b : Bool) → cond b 1 0 ≤ 1
digit_le true = omega arith
digit_le false = omega arith

fewer_digits : (x y : Bool) → x ≡ false → y ≡ true → cond x 1 0 < cond y 1 0
fewer_digits false true e f = omega arith
fewer_digits true y e f = absurd (false≢true (sym e))
fewer_digits false false e f = absurd (false≢true f)

pub count_below-le : (p : ℕ → Bool) (n : ℕ) → count_below p n ≤ n
unfolding count_below
count_below-le p zero = omega arith
count_below-le p (suc n) = omega (arith, count_below-le p n, digit_le (p n))

pub count_below-within : (p q : ℕ → Bool) (n : ℕ) → ((c : ℕ) → p c ≡ true → q c ≡ true) → count_below p n ≤ count_below q n
unfolding count_below
count_below-within p q zero h = omega arith
count_below-within p q (suc n) h = omega (arith, count_below-within p q n h, more_digits (p n) (q n) (h n))

pub count_below-grows : (p q : ℕ → Bool) (n b : ℕ) → ((c : ℕ) → p c ≡ true → q c ≡ true) → b < n → p b ≡ false → q b ≡ true → count_below p n < count_below q n
unfolding count_below
count_below-grows p q zero b h l e f = absurd (omega arith)
count_below-grows p q (suc n) b h l e f =
    elim (cases_eq b n) [
      | inl s ↦
          let fewer = fewer_digits (p n) (q n) (subst (λ v. p v ≡ false) s e) (subst (λ v. q v ≡ true) s f) in
          omega (arith, count_below-within p q n h, fewer)
      | inr d ↦
          let below : b < n = omega arith in
          omega (arith, count_below-grows p q n b h below e f, more_digits (p n) (q n) (h n))
    ]
