-- Lists of words after one is written, and the marks that they are.
use Rattle.std.proofs.Common.{◌≡◌, ◌≢◌, ◌⊎◌, ℕ, zero, suc, ◌+◌, ◌*◌, ◌/◌, ◌%◌, ◌^◌, ◌<◌, ◌||◌, Bool, true, List, [], ◌∷◌, length, get_or, set, bit_or, refl, sym, ◌∙◌, ap, inl, inr, arith}
use Rattle.std.specs.Int.{bit_at}
use Rattle.std.proofs.lemmas.Bool.{cases_eq, cases_lt, false≢true, or_cases, or_left}
use Rattle.std.proofs.lemmas.Nat.{div-mul-add, mod-mul-add, mod_below, div-add-mod', or_lt}
use Rattle.std.proofs.lemmas.Nat.Bits.{bit_at-lt, same_from_bits_below}
use Rattle.std.proofs.lemmas.List.{get_or_past, get_or-set_same, get_or-set_other, length-set}
use mathlib.Core.Option.{some, some-injective, some-ne-none}
use lib.ListN.{get_elem?}
use Rattle.plank_base.proofs.Digits.{digits_from_tests, same_tests}
use Rattle.plank_bits.specs.Words.{is_set, has, IsWithin, count_below}
use Rattle.plank_bits.proofs.WordLemmas.{or_false, is_set-or, is_set-zero}
use Rattle.plank_bits.proofs.RoundLemmas.{count_below-grows}
use Rattle.plank_board.specs.Words.{mark_word, marks, bits_of_both}

-- ---- a list of numbers after one is written

-- each number is what it was, or the one that was written
pub set_or_not : (l : List ℕ) (i j a : ℕ) → (get_or (set l i a) j 0 ≡ get_or l j 0) ⊎ ((j ≡ i) × (get_or (set l i a) j 0 ≡ a))
set_or_not l i j a =
    elim (cases_eq j i) [
      | inl e ↦ elim (cases_lt i (length l)) [
        | inl h ↦ inr (e, ap (λ n. get_or (set l i a) n 0) e ∙ get_or-set_same l i a 0 h)
        | inr h ↦ inl (get_or_past (set l i a) j 0 (omega (arith, length-set l i a)) ∙ sym (get_or_past l j 0 (omega arith)))
      ]
      | inr d ↦ inl (get_or-set_other l i j a 0 d)
    ]

whole : (k : ℕ) → 64 * (k / 64) + k % 64 ≡ k
whole k = omega (arith, div-add-mod' k 64)

pub quotient : (i j : ℕ) → j < 64 → (64 * i + j) / 64 ≡ i
quotient i j h = let turned : 64 * i + j ≡ i * 64 + j = omega arith in ap (λ n. n / 64) turned ∙ div-mul-add i 64 j h

remainder : (i j : ℕ) → j < 64 → (64 * i + j) % 64 ≡ j
remainder i j h = let turned : 64 * i + j ≡ i * 64 + j = omega arith in ap (λ n. n % 64) turned ∙ mod-mul-add i 64 j h

-- a set of marks after one word is written lies within another, where that word does
pub set_within : (l : List ℕ) (i a : ℕ) (c : ℕ → Bool) → IsWithin (has l) c → ((j : ℕ) → j < 64 → is_set a j ≡ true → c (64 * i + j) ≡ true) → IsWithin (has (set l i a)) c
set_within l i a c h word k e =
    elim (set_or_not l i (k / 64) a) [
      | inl same ↦ h k (sym (ap (λ w. is_set w (k % 64)) same) ∙ e)
      | inr (at, new) ↦
          let there : 64 * i + k % 64 ≡ k = ap (λ n. 64 * n + k % 64) (sym at) ∙ whole k in
          sym (ap c there) ∙ word (k % 64) (mod_below k 64 (omega arith)) (sym (ap (λ w. is_set w (k % 64)) new) ∙ e)
    ]

-- ---- the bits of two lists of words

pub length-bits_of_both : (n : ℕ) (xs ys : List ℕ) → length xs ≡ n → length ys ≡ n → length (bits_of_both xs ys) ≡ n
length-bits_of_both n [] ys h k = k
length-bits_of_both n (x ∷ xs) [] h k = h
length-bits_of_both n (x ∷ xs) (y ∷ ys) h k =
    let rest = length-bits_of_both (length xs) xs ys refl (omega arith) in
    omega (arith, rest, h)

bit_of_both : (xs ys : List ℕ) (q j : ℕ) → is_set (get_or (bits_of_both xs ys) q 0) j ≡ (is_set (get_or xs q 0) j || is_set (get_or ys q 0) j)
bit_of_both [] ys q j = sym (ap (λ b. b || is_set (get_or ys q 0) j) (is_set-zero j))
bit_of_both (x ∷ xs) [] q j = sym (or_false _ _ (is_set-zero j))
bit_of_both (x ∷ xs) (y ∷ ys) zero j = is_set-or x y j
bit_of_both (x ∷ xs) (y ∷ ys) (suc q) j = bit_of_both xs ys q j

-- each mark of both lists is one of the one or the other
pub has-bits_of_both : (xs ys : List ℕ) (k : ℕ) → has (bits_of_both xs ys) k ≡ (has xs k || has ys k)
has-bits_of_both xs ys k = bit_of_both xs ys (k / 64) (k % 64)

pub both_within : (xs ys : List ℕ) (c : ℕ → Bool) → IsWithin (has xs) c → IsWithin (has ys) c → IsWithin (has (bits_of_both xs ys)) c
both_within xs ys c one other k e =
    elim (or_cases _ _ (sym (has-bits_of_both xs ys k) ∙ e)) [ inl t ↦ one k t | inr t ↦ other k t ]

pub within_both : (xs ys : List ℕ) → IsWithin (has xs) (has (bits_of_both xs ys))
within_both xs ys k e = has-bits_of_both xs ys k ∙ or_left _ _ e

-- ---- marks

module _ (methods : ℕ) where
  pub marks_at : (ws : List ℕ) (i j : ℕ) → j < 64 → marks methods ws (64 * i + j) ≡ is_set (mark_word methods ws i) j
  marks_at ws i j h = ap (λ q. is_set (mark_word methods ws q) ((64 * i + j) % 64)) (quotient i j h) ∙ ap (is_set (mark_word methods ws i)) (remainder i j h)

  pub marks_below : (ws : List ℕ) (words k : ℕ) → length ws ≡ methods + 1 + words → marks methods ws k ≡ true → k < 64 * words
  marks_below ws words k many e =
      elim (cases_lt (k / 64) words) [
        | inl h ↦ omega (arith, whole k, mod_below k 64)
        | inr h ↦ absurd (false≢true (sym (ap (λ w. is_set w (k % 64)) (get_or_past ws (methods + 1 + k / 64) 0 (omega arith)) ∙ is_set-zero (k % 64)) ∙ e))
      ]

  -- a word that is not one of marks
  pub marks-before : (ws : List ℕ) (p a k : ℕ) → p < methods + 1 → marks methods (set ws p a) k ≡ marks methods ws k
  marks-before ws p a k h = ap (λ w. is_set w (k % 64)) (get_or-set_other ws p (methods + 1 + k / 64) a 0 (λ e. omega arith))

  -- bits that are set in the i-th word
  module _ (ws : List ℕ) (i bits : ℕ) (here : methods + 1 + i < length ws) where
    now : List ℕ
    now = set ws (methods + 1 + i) (bit_or (mark_word methods ws i) bits)

    word_now : mark_word methods now i ≡ bit_or (mark_word methods ws i) bits
    unfolding now
    word_now = get_or-set_same ws (methods + 1 + i) _ 0 here

    other_now : (q : ℕ) → q ≢ i → mark_word methods now q ≡ mark_word methods ws q
    unfolding now
    other_now q d = get_or-set_other ws (methods + 1 + i) (methods + 1 + q) _ 0 (λ e. d (omega arith))

    mark_now : (k : ℕ) → k / 64 ≡ i → marks methods now k ≡ (is_set (mark_word methods ws i) (k % 64) || is_set bits (k % 64))
    mark_now k e = ap (λ q. is_set (mark_word methods now q) (k % 64)) e ∙ ap (λ w. is_set w (k % 64)) word_now ∙ is_set-or (mark_word methods ws i) bits (k % 64)

    grown : IsWithin (marks methods ws) (marks methods now)
    grown k e =
        elim (cases_eq (k / 64) i) [
          | inl at ↦ mark_now k at ∙ or_left _ _ (sym (ap (λ q. is_set (mark_word methods ws q) (k % 64)) at) ∙ e)
          | inr d ↦ ap (λ w. is_set w (k % 64)) (other_now (k / 64) d) ∙ e
        ]

    added : (k : ℕ) → marks methods now k ≡ true → (marks methods ws k ≡ true) ⊎ ((j : ℕ) × (is_set bits j ≡ true) × (k ≡ 64 * i + j))
    added k e =
        elim (cases_eq (k / 64) i) [
          | inl at ↦ elim (or_cases _ _ (sym (mark_now k at) ∙ e)) [
            | inl t ↦ inl (ap (λ q. is_set (mark_word methods ws q) (k % 64)) at ∙ t)
            | inr t ↦ inr (k % 64, t, sym (whole k) ∙ ap (λ n. 64 * n + k % 64) at)
          ]
          | inr d ↦ inl (sym (ap (λ w. is_set w (k % 64)) (other_now (k / 64) d)) ∙ e)
        ]

    pub bits_grow : IsWithin (marks methods ws) (marks methods (set ws (methods + 1 + i) (bit_or (mark_word methods ws i) bits)))
    unfolding now
    bits_grow = grown

    pub bits_add : (k : ℕ) → marks methods (set ws (methods + 1 + i) (bit_or (mark_word methods ws i) bits)) k ≡ true → (marks methods ws k ≡ true) ⊎ ((j : ℕ) × (is_set bits j ≡ true) × (k ≡ 64 * i + j))
    unfolding now
    bits_add = added

    -- they add a mark, where the word is another then
    pub bits_count : (words : ℕ) → length ws ≡ methods + 1 + words → mark_word methods ws i < 2 ^ 64 → bits < 2 ^ 64 → bit_or (mark_word methods ws i) bits ≢ mark_word methods ws i → count_below (marks methods ws) (64 * words) < count_below (marks methods (set ws (methods + 1 + i) (bit_or (mark_word methods ws i) bits))) (64 * words)
    unfolding now
    bits_count words many low few other =
        count_below-grows (marks methods ws) (marks methods now) (64 * words) grown (λ k. marks_below now words k (length-set ws (methods + 1 + i) _ ∙ many)) (λ within. other (same within))
      where
        same : IsWithin (marks methods now) (marks methods ws) → bit_or (mark_word methods ws i) bits ≡ mark_word methods ws i
        same within =
            let n = mark_word methods ws i in
            same_from_bits_below 64 (bit_or n bits) n (or_lt 64 n bits low few) low
            (λ j l. digits_from_tests (bit_at (bit_or n bits) j) (bit_at n j) (bit_at-lt (bit_or n bits) j) (bit_at-lt n j)
            (same_tests (is_set (bit_or n bits) j) (is_set n j)
            (λ e. sym (marks_at ws i j l) ∙ within (64 * i + j) (marks_at now i j l ∙ ap (λ w. is_set w j) word_now ∙ e))
            (λ e. is_set-or n bits j ∙ or_left _ _ e)))

-- the last words of a list, by themselves
pub has_marks : (methods words : ℕ) (ws last : List ℕ) → length ws ≡ methods + 1 + words → length last ≡ words → ((j : ℕ) → j < words → get_or last j 0 ≡ mark_word methods ws j) → (k : ℕ) → has last k ≡ marks methods ws k
has_marks methods words ws last many size same k =
    elim (cases_lt (k / 64) words) [
      | inl h ↦ ap (λ w. is_set w (k % 64)) (same (k / 64) h)
      | inr h ↦ ap (λ w. is_set w (k % 64)) (get_or_past last (k / 64) 0 (omega arith) ∙ sym (get_or_past ws (methods + 1 + k / 64) 0 (omega arith)))
    ]

pub index_at : (l : List ℕ) (i a : ℕ) → get_elem? l i ≡ some a → get_or l i 0 ≡ a
index_at [] i a e = absurd (some-ne-none a (sym e))
index_at (x ∷ xs) zero a e = some-injective x a e
index_at (x ∷ xs) (suc i) a e = index_at xs i a e
