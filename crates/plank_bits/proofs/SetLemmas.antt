-- Sets of numbers as lists of words: members, one more member, sets combined word by word, and how many members there are.
use Rattle.std.proofs.Common.{◌≡◌, ◌≢◌, ℕ, zero, suc, ◌+◌, ◌-◌, ◌*◌, ◌/◌, ◌%◌, ◌^◌, ◌<◌, ◌≤◌, ◌==◌, ◌||◌, cond, Bool, true, false, List, length, get_or, set, slice_index, count_ones, refl, sym, ◌∙◌, ap, subst, inl, inr, arith}
use Rattle.std.specs.Int.{bit_at}
use Rattle.std.proofs.lemmas.Bool.{cases_eq, cases_lt, eq-eqb, ne_eqb, false≢true}
use Rattle.std.proofs.lemmas.Nat.{div-mul-add, mod-mul-add, mod_below, div-add-mod', mod-pow-add, ones_cat, pow_pos}
use Rattle.std.proofs.lemmas.Nat.Bits.{bit_at-lt, same_from_bits_below}
use Rattle.std.proofs.Math.Nat.{mod-eq_of_lt}
use Rattle.std.proofs.lemmas.List.{ext_get_or, get_or_past, get_or-set_same, get_or-set_other, length-set}
use Rattle.plank_base.proofs.Digits.{digits_from_tests}
use Rattle.plank_bits.specs.Words.{is_set, has, IsWithin, count_below, IsLeastFrom}
use Rattle.plank_bits.proofs.WordLemmas.{or_false, is_set-zero, is_set-above}

-- ---- members

pub has_at : (ws : List ℕ) (q r : ℕ) → r < 64 → has ws (64 * q + r) ≡ is_set (slice_index ws q) r
has_at ws q r h =
    let turned : 64 * q + r ≡ q * 64 + r = omega arith in
    let word : (64 * q + r) / 64 ≡ q = ap (λ n. n / 64) turned ∙ div-mul-add q 64 r h in
    let bit : (64 * q + r) % 64 ≡ r = ap (λ n. n % 64) turned ∙ mod-mul-add q 64 r h in
    ap (λ n. is_set (slice_index ws n) ((64 * q + r) % 64)) word ∙ ap (is_set (slice_index ws q)) bit

-- no number past the last word is a member
pub has-past : (ws : List ℕ) (i : ℕ) → 64 * length ws ≤ i → has ws i ≡ false
has-past ws i h =
    let past : length ws ≤ i / 64 = omega (arith, div-add-mod' i 64, mod_below i 64) in
    ap (λ w. is_set w (i % 64)) (get_or_past ws (i / 64) 0 past) ∙ is_set-zero (i % 64)

pub member_below : (ws : List ℕ) (i : ℕ) → has ws i ≡ true → i < 64 * length ws
member_below ws i e =
    elim (cases_lt i (64 * length ws)) [ inl h ↦ h | inr h ↦ absurd (false≢true (sym (has-past ws i h) ∙ e)) ]

or_same : (x y z : Bool) → y ≡ z → (x || y) ≡ (x || z)
or_same x y z e = ap (λ v. x || v) e

-- one more member
pub has-insert : (ws : List ℕ) (i w : ℕ) → i < 64 * length ws → ((j : ℕ) → is_set w j ≡ (is_set (slice_index ws (i / 64)) j || (j == i % 64))) → (k : ℕ) → has (set ws (i / 64) w) k ≡ (has ws k || (k == i))
has-insert ws i w h bits k =
    elim (cases_eq (k / 64) (i / 64)) [
      | inl e ↦
          let within : i / 64 < length ws = omega (arith, div-add-mod' i 64) in
          let read : slice_index (set ws (i / 64) w) (k / 64) ≡ w = ap (slice_index (set ws (i / 64) w)) e ∙ get_or-set_same ws (i / 64) w 0 within in
          ap (λ v. is_set v (k % 64)) read
          ∙ bits (k % 64)
          ∙ ap (λ q. is_set (slice_index ws q) (k % 64) || (k % 64 == i % 64)) (sym e)
          ∙ or_same (has ws k) (k % 64 == i % 64) (k == i) (same_test e)
      | inr d ↦
          ap (λ v. is_set v (k % 64)) (get_or-set_other ws (i / 64) (k / 64) w 0 d)
          ∙ sym (or_false (has ws k) (k == i) (ne_eqb k i (λ e. d (ap (λ n. n / 64) e))))
    ]
  where
    same_test : k / 64 ≡ i / 64 → (k % 64 == i % 64) ≡ (k == i)
    same_test e =
        elim (cases_eq (k % 64) (i % 64)) [
          | inl r ↦
              let same : k ≡ i = omega (arith, div-add-mod' k 64, div-add-mod' i 64) in
              eq-eqb (k % 64) (i % 64) r ∙ sym (eq-eqb k i same)
          | inr d ↦ ne_eqb (k % 64) (i % 64) d ∙ sym (ne_eqb k i (λ s. d (ap (λ n. n % 64) s)))
        ]

-- ---- sets combined word by word

-- the words of zs below i are those of xs and ys combined by a test of each bit, and the others are those of xs
pub record AreCombinedBelow (test : Bool → Bool → Bool) (xs ys zs : List ℕ) (i : ℕ) : Type 0 where
  pub same_length : length zs ≡ length xs
  pub done : (q : ℕ) → q < i → (j : ℕ) → is_set (get_or zs q 0) j ≡ test (is_set (get_or xs q 0) j) (is_set (get_or ys q 0) j)
  pub rest : (q : ℕ) → i ≤ q → get_or zs q 0 ≡ get_or xs q 0

pub combined_none : (test : Bool → Bool → Bool) (xs ys : List ℕ) → AreCombinedBelow test xs ys xs 0
combined_none test xs ys =
    record { same_length = refl; done = λ q h. absurd (omega arith); rest = λ q h. refl }

pub combined_more : (test : Bool → Bool → Bool) (xs ys zs : List ℕ) (i w : ℕ) → AreCombinedBelow test xs ys zs i → i < length zs → ((j : ℕ) → is_set w j ≡ test (is_set (get_or zs i 0) j) (is_set (get_or ys i 0) j)) → AreCombinedBelow test xs ys (set zs i w) (i + 1)
combined_more test xs ys zs i w c h bits =
    record {
      same_length = length-set zs i w ∙ c.same_length;
      done = λ q l j. elim (cases_eq q i) [
        | inl e ↦
            ap (λ v. is_set v j) (ap (λ n. get_or (set zs i w) n 0) e ∙ get_or-set_same zs i w 0 h)
            ∙ bits j
            ∙ ap (λ v. test (is_set v j) (is_set (get_or ys i 0) j)) (c.rest i (omega arith))
            ∙ ap (λ n. test (is_set (get_or xs n 0) j) (is_set (get_or ys n 0) j)) (sym e)
        | inr d ↦
            let below : q < i = omega arith in
            ap (λ v. is_set v j) (get_or-set_other zs i q w 0 d) ∙ c.done q below j
      ];
      rest = λ q l.
          let other : q ≢ i = λ e. omega arith in
          get_or-set_other zs i q w 0 other ∙ c.rest q (omega arith);
    }

pub combined_all : (test : Bool → Bool → Bool) (xs ys zs : List ℕ) (i : ℕ) → test false false ≡ false → length xs ≡ length ys → length xs ≤ i → AreCombinedBelow test xs ys zs i → (k : ℕ) → has zs k ≡ test (has xs k) (has ys k)
combined_all test xs ys zs i none same all c k =
    elim (cases_lt k (64 * length xs)) [
      | inl h ↦
          let word : k / 64 < i = omega (arith, div-add-mod' k 64) in
          c.done (k / 64) word (k % 64)
      | inr h ↦
          let x : has xs k ≡ false = has-past xs k h in
          let y : has ys k ≡ false = has-past ys k (subst (λ n. 64 * n ≤ k) same h) in
          let z : has zs k ≡ false = has-past zs k (subst (λ n. 64 * n ≤ k) (sym c.same_length) h) in
          z ∙ sym none ∙ ap (λ v. test v false) (sym x) ∙ ap (test (has xs k)) (sym y)
    ]

-- ---- one set within another, word by word

pub within_from_words : (xs ys : List ℕ) → length xs ≡ length ys → ((q : ℕ) → q < length xs → IsWithin (is_set (get_or xs q 0)) (is_set (get_or ys q 0))) → IsWithin (has xs) (has ys)
within_from_words xs ys same h k m =
    let below = member_below xs k m in
    let word : k / 64 < length xs = omega (arith, div-add-mod' k 64) in
    h (k / 64) word (k % 64) m

-- a word of one set is within that of the other
pub within_at_word : (xs ys : List ℕ) (q : ℕ) → get_or xs q 0 < 2 ^ 64 → IsWithin (has xs) (has ys) → IsWithin (is_set (get_or xs q 0)) (is_set (get_or ys q 0))
within_at_word xs ys q fits h j m =
    elim (cases_lt j 64) [
      | inl l ↦ sym (has_at ys q j l) ∙ h (64 * q + j) (has_at xs q j l ∙ m)
      | inr l ↦ absurd (false≢true (sym (is_set-above (get_or xs q 0) j fits l) ∙ m))
    ]

-- ---- how many

pub count_below-none : (a : ℕ → Bool) → count_below a 0 ≡ 0
unfolding count_below
count_below-none a = refl

pub count_below-suc : (a : ℕ → Bool) (n : ℕ) → count_below a (suc n) ≡ count_below a n + cond (a n) 1 0
unfolding count_below
count_below-suc a n = refl

digit_le : (b : Bool) → cond b 1 0 ≤ 1
digit_le true = omega arith
digit_le false = omega arith

pub count_below-le : (a : ℕ → Bool) (n : ℕ) → count_below a n ≤ n
count_below-le a zero = omega (arith, count_below-none a)
count_below-le a (suc n) = omega (arith, count_below-suc a n, count_below-le a n, digit_le (a n))

pub count_below-same : (a b : ℕ → Bool) (n : ℕ) → ((i : ℕ) → i < n → a i ≡ b i) → count_below a n ≡ count_below b n
count_below-same a b zero h = count_below-none a ∙ sym (count_below-none b)
count_below-same a b (suc n) h =
    let front : count_below a n ≡ count_below b n = count_below-same a b n (λ i l. h i (omega arith)) in
    let last : a n ≡ b n = h n (omega arith) in
    count_below-suc a n ∙ ap (λ v. v + cond (a n) 1 0) front ∙ ap (λ v. count_below b n + cond v 1 0) last ∙ sym (count_below-suc b n)

pub count_below-add : (a : ℕ → Bool) (n m : ℕ) → count_below a (n + m) ≡ count_below a n + count_below (λ j. a (n + j)) m
count_below-add a n zero =
    let e : n + 0 ≡ n = omega arith in
    ap (count_below a) e ∙ omega (arith, count_below-none (λ j. a (n + j)))
count_below-add a n (suc m) =
    let e : n + suc m ≡ suc (n + m) = omega arith in
    ap (count_below a) e ∙ omega (arith, count_below-suc a (n + m), count_below-suc (λ j. a (n + j)) m, count_below-add a n m)

one_digit : (x : ℕ) → x < 2 → count_ones x ≡ cond (x == 1) 1 0
unfolding lib.Count.ones
one_digit zero h = refl
one_digit (suc zero) h = refl
one_digit (suc (suc x)) h = absurd (omega arith)

-- the bits below k of a word
ones_below : (w k : ℕ) → count_below (is_set w) k ≡ count_ones (w % 2 ^ k)
unfolding lib.Count.ones
ones_below w zero =
    let none : w % 2 ^ 0 ≡ 0 = omega (arith, mod_below w 1 (omega arith)) in
    count_below-none (is_set w) ∙ sym (ap count_ones none)
ones_below w (suc k) =
    let split : w % 2 ^ (1 + k) ≡ (w / 2 ^ k % 2 ^ 1) * 2 ^ k + w % 2 ^ k = mod-pow-add w 1 k in
    let e : 1 + k ≡ suc k = omega arith in
    let ones : count_ones (bit_at w k * 2 ^ k + w % 2 ^ k) ≡ count_ones (bit_at w k) + count_ones (w % 2 ^ k) = ones_cat k (bit_at w k) (w % 2 ^ k) (mod_below w (2 ^ k) (pow_pos k)) in
    let whole : count_ones (w % 2 ^ suc k) ≡ count_ones (bit_at w k) + count_ones (w % 2 ^ k) = ap (λ n. count_ones (w % 2 ^ n)) (sym e) ∙ ap count_ones split ∙ ones in
    omega (arith, whole, one_digit (bit_at w k) (bit_at-lt w k), count_below-suc (is_set w) k, ones_below w k)

-- the members in one word
pub count_below_word : (ws : List ℕ) (q : ℕ) → get_or ws q 0 < 2 ^ 64 → count_below (has ws) (64 * (q + 1)) ≡ count_below (has ws) (64 * q) + count_ones (get_or ws q 0)
count_below_word ws q fits =
    let e : 64 * (q + 1) ≡ 64 * q + 64 = omega arith in
    let bits : count_below (λ j. has ws (64 * q + j)) 64 ≡ count_below (is_set (get_or ws q 0)) 64 = count_below-same (λ j. has ws (64 * q + j)) (is_set (get_or ws q 0)) 64 (λ j l. has_at ws q j l) in
    let word : count_below (is_set (get_or ws q 0)) 64 ≡ count_ones (get_or ws q 0) = ones_below (get_or ws q 0) 64 ∙ ap count_ones (mod-eq_of_lt fits) in
    ap (count_below (has ws)) e ∙ count_below-add (has ws) (64 * q) 64 ∙ ap (λ v. count_below (has ws) (64 * q) + v) (bits ∙ word)

-- ---- the next member

-- the next member, where none comes before word q and the lowest bit from the start on is r
pub next_at_word : (ws : List ℕ) (i q r : ℕ) → ((k : ℕ) → i ≤ k → k < 64 * q → has ws k ≡ false) → r < 64 → IsLeastFrom (is_set (get_or ws q 0)) (i - 64 * q) r → IsLeastFrom (has ws) i (64 * q + r)
next_at_word ws i q r before below least =
    record {
      from = let start = least.from in omega arith;
      member = has_at ws q r below ∙ least.member;
      least = λ j h l. elim (cases_lt j (64 * q)) [
        | inl front ↦ before j h front
        | inr behind ↦
            let split : 64 * q + (j - 64 * q) ≡ j = omega arith in
            ap (has ws) (sym split) ∙ has_at ws q (j - 64 * q) (omega arith) ∙ least.least (j - 64 * q) (omega arith) (omega arith)
      ];
    }

-- no member before word q + 1, where none comes before word q and none stands in word q from the start on
pub none_at_word : (ws : List ℕ) (i q : ℕ) → ((k : ℕ) → i ≤ k → k < 64 * q → has ws k ≡ false) → ((r : ℕ) → i - 64 * q ≤ r → is_set (get_or ws q 0) r ≡ false) → (k : ℕ) → i ≤ k → k < 64 * (q + 1) → has ws k ≡ false
none_at_word ws i q before none k h l =
    elim (cases_lt k (64 * q)) [
      | inl front ↦ before k h front
      | inr behind ↦
          let split : 64 * q + (k - 64 * q) ≡ k = omega arith in
          ap (has ws) (sym split) ∙ has_at ws q (k - 64 * q) (omega arith) ∙ none (k - 64 * q) (omega arith)
    ]

-- ---- one set, one list of words

-- as many words of 64 bits with the same members are the same words
pub same_words : (xs ys : List ℕ) → length xs ≡ length ys → ((q : ℕ) → get_or xs q 0 < 2 ^ 64) → ((q : ℕ) → get_or ys q 0 < 2 ^ 64) → ((k : ℕ) → has xs k ≡ has ys k) → xs ≡ ys
same_words xs ys same x y members =
    ext_get_or 0 xs ys same (λ q h. same_from_bits_below 64 (get_or xs q 0) (get_or ys q 0) (x q) (y q)
    (λ j l. digits_from_tests (bit_at (get_or xs q 0) j) (bit_at (get_or ys q 0) j) (bit_at-lt (get_or xs q 0) j) (bit_at-lt (get_or ys q 0) j)
    (sym (has_at xs q j l) ∙ members (64 * q + j) ∙ has_at ys q j l)))
