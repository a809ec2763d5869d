-- Rounds of forced marks: they grow, stay within all closed marks, stop growing within as many rounds as there are
-- marks, and their union is the least closed set.
use Rattle.std.proofs.Common.{◌≡◌, ◌≢◌, ◌⊎◌, ◌↔◌, ℕ, zero, suc, ◌+◌, ◌-◌, ◌*◌, ◌<◌, ◌≤◌, ◌||◌, cond, Bool, true, false, List, length, refl, sym, ◌∙◌, subst, inl, inr, arith}
use Rattle.std.proofs.lemmas.Bool.{cases_eq, cases_lt, false≢true, or_cases, or_left, or_right}
use Rattle.plank_base.proofs.Digits.{same_tests, more_digits}
use Rattle.plank_bits.specs.Words.{has, IsWithin, count_below}
use Rattle.plank_bits.specs.Forced.{IsForced, IsClosed, IsLeast, IsRound, AreRounds, IsUnion, IsMonotone, IsBounded}
use Rattle.std.proofs.Math.Nat.{mul-le-mul_left}
use Rattle.plank_bits.proofs.SetLemmas.{member_below, count_below-none, count_below-suc, count_below-le}

-- ---- sets within one another, and how many members they have

-- a larger set has at least as many members
pub count_below-within : (a b : ℕ → Bool) (n : ℕ) → IsWithin a b → count_below a n ≤ count_below b n
count_below-within a b zero h = omega (arith, count_below-none a, count_below-none b)
count_below-within a b (suc n) h =
    omega (arith, count_below-suc a n, count_below-suc b n, count_below-within a b n h, more_digits (a n) (b n) (h n))

same_digit : (x y : Bool) → (x ≡ true → y ≡ true) → cond y 1 0 ≤ cond x 1 0 → y ≡ true → x ≡ true
same_digit true y h l e = refl
same_digit false true h l e = absurd (omega arith)
same_digit false false h l e = e

-- a larger set with no more members is the same set
pub within_from_count : (a b : ℕ → Bool) (n : ℕ) → IsWithin a b → count_below b n ≤ count_below a n → (k : ℕ) → k < n → b k ≡ true → a k ≡ true
within_from_count a b zero h l k below e = absurd (omega arith)
within_from_count a b (suc n) h l k below e =
    let front = count_below-within a b n h in
    let last = more_digits (a n) (b n) (h n) in
    let x = count_below-suc a n in
    let y = count_below-suc b n in
    elim (cases_eq k n) [
      | inl s ↦
          let digits : cond (b n) 1 0 ≤ cond (a n) 1 0 = omega arith in
          subst (λ v. a v ≡ true) (sym s) (same_digit (a n) (b n) (h n) digits (subst (λ v. b v ≡ true) s e))
      | inr d ↦ within_from_count a b n h (omega arith) k (omega arith) e
    ]

-- a larger set that is another has more members
pub count_below-grows : (a b : ℕ → Bool) (n : ℕ) → IsWithin a b → ((k : ℕ) → b k ≡ true → k < n) → (IsWithin b a → ⊥) → count_below a n < count_below b n
count_below-grows a b n h within other =
    elim (cases_lt (count_below a n) (count_below b n)) [
      | inl l ↦ l
      | inr l ↦ absurd (other (λ k e. within_from_count a b n h l k (within k e) e))
    ]

-- ---- the laws, for methods that force more where there are more marks, and only marks below a bound

module _ (forces : ℕ → (ℕ → Bool) → ℕ → Type 0) (n bound : ℕ) (monotone : IsMonotone forces n) (bounded : IsBounded forces n bound) where
  pub forced_more : (a b : ℕ → Bool) (k : ℕ) → IsWithin a b → IsForced forces n a k → IsForced forces n b k
  forced_more a b k h w = (w.0, w.1, monotone w.0 k a b w.1 h w.2)

  -- what is forced at marks within closed marks is within these
  pub forced_within : (a c : ℕ → Bool) → IsClosed forces n c → IsWithin a c → (k : ℕ) → IsForced forces n a k → c k ≡ true
  forced_within a c closed h k w = closed k (forced_more a c k h w)

  -- one round grows
  round_grows : (a b : ℕ → Bool) → IsRound forces n a b → IsWithin a b
  round_grows a b round k e = (round k).1 (inl e)

  -- and stays within closed marks
  round_within : (a b c : ℕ → Bool) → IsRound forces n a b → IsClosed forces n c → IsWithin a c → IsWithin b c
  round_within a b c round closed h k e =
      elim ((round k).0 e) [ inl f ↦ h k f | inr w ↦ forced_within a c closed h k w ]

  module _ (r : ℕ → ℕ → Bool) (rounds : AreRounds forces n r) where
    rounds_grow : (i j : ℕ) → IsWithin (r i) (r (i + j))
    rounds_grow i zero k e =
        let s : i + 0 ≡ i = omega arith in
        subst (λ v. r v k ≡ true) (sym s) e
    rounds_grow i (suc j) k e =
        let s : i + suc j ≡ suc (i + j) = omega arith in
        subst (λ v. r v k ≡ true) (sym s) (round_grows (r (i + j)) (r (suc (i + j))) (rounds.each (i + j)) k (rounds_grow i j k e))

    rounds_grow_to : (i j : ℕ) → i ≤ j → IsWithin (r i) (r j)
    rounds_grow_to i j h k e =
        let s : i + (j - i) ≡ j = omega arith in
        subst (λ v. r v k ≡ true) s (rounds_grow i (j - i) k e)

    rounds_within : (c : ℕ → Bool) → IsClosed forces n c → (i : ℕ) → IsWithin (r i) c
    rounds_within c closed zero k e = absurd (false≢true (sym (rounds.first k) ∙ e))
    rounds_within c closed (suc i) k e = round_within (r i) (r (suc i)) c (rounds.each i) closed (rounds_within c closed i) k e

    rounds_below : (i k : ℕ) → r i k ≡ true → k < bound
    rounds_below zero k e = absurd (false≢true (sym (rounds.first k) ∙ e))
    rounds_below (suc i) k e =
        elim ((rounds.each i k).0 e) [
          | inl f ↦ rounds_below i k f
          | inr w ↦ bounded w.0 k (r i) w.1 w.2
        ]

    -- a round that adds nothing is followed by such rounds alone
    stays_on : (i : ℕ) → IsWithin (r (suc i)) (r i) → (j : ℕ) → IsWithin (r (i + j)) (r i)
    stays_on i h zero k e =
        let s : i + 0 ≡ i = omega arith in
        subst (λ v. r v k ≡ true) s e
    stays_on i h (suc j) k e =
        let s : i + suc j ≡ suc (i + j) = omega arith in
        elim ((rounds.each (i + j) k).0 (subst (λ v. r v k ≡ true) s e)) [
          | inl f ↦ stays_on i h j k f
          | inr w ↦ h k ((rounds.each i k).1 (inr (forced_more (r (i + j)) (r i) k (stays_on i h j) w)))
        ]

    -- some round before the j-th added nothing, or the j-th has j marks
    still_or_more : (j : ℕ) → ((i : ℕ) × (i < j) × IsWithin (r (suc i)) (r i)) ⊎ (j ≤ count_below (r j) bound)
    still_or_more zero = inr (omega arith)
    still_or_more (suc j) =
        elim (still_or_more j) [
          | inl w ↦ inl (w.0, omega (arith, w.1), w.2)
          | inr h ↦ elim (cases_lt (count_below (r j) bound) (count_below (r (suc j)) bound)) [
            | inl l ↦ inr (omega arith)
            | inr l ↦ inl (j, omega arith, λ k e. within_from_count (r j) (r (suc j)) bound (round_grows (r j) (r (suc j)) (rounds.each j)) l k (rounds_below (suc j) k e) e)
          ]
        ]

    -- some round adds nothing, and it is among the first as many as there are marks and one more
    still_round : (i : ℕ) × (i ≤ bound) × IsWithin (r (suc i)) (r i)
    still_round =
        elim (still_or_more (suc bound)) [
          | inl w ↦ (w.0, omega (arith, w.1), w.2)
          | inr h ↦ absurd (omega (arith, h, count_below-le (r (suc bound)) bound))
        ]

    -- every round is within the one that is reached after as many as there are marks
    within_last : (j : ℕ) → IsWithin (r j) (r bound)
    within_last j k e =
        elim (cases_lt j (still_round.0)) [
          | inl l ↦ rounds_grow_to j bound (omega (arith, still_round.1)) k e
          | inr l ↦
              let s : still_round.0 + (j - still_round.0) ≡ j = omega arith in
              rounds_grow_to still_round.0 bound still_round.1 k
              (stays_on still_round.0 still_round.2 (j - still_round.0) k (subst (λ v. r v k ≡ true) (sym s) e))
        ]

    pub union_is_reached : IsUnion r (r bound)
    union_is_reached k = (λ e. (bound, e), λ w. within_last w.0 k w.1)

    pub union_is_least : (a : ℕ → Bool) → IsUnion r a → IsLeast forces n a
    union_is_least a union =
        record {
          closed = λ k w.
              (union k).1 (suc bound, (rounds.each bound k).1 (inr (forced_more a (r bound) k (λ j e. let v = (union j).0 e in within_last v.0 j v.1) w)));
          within = λ c closed k e. let v = (union k).0 e in rounds_within c closed v.0 k v.1;
        }

    -- the least closed marks are the union of the rounds
    pub least_is_union : (a : ℕ → Bool) → IsLeast forces n a → IsUnion r a
    least_is_union a least k = (
      λ e. (bound, least.within (r bound) (union_is_least (r bound) union_is_reached).closed k e),
      λ w. rounds_within a least.closed w.0 k w.1,
    )

-- ---- the loops

-- no method forces a mark
pub forced_by_none : (forces : ℕ → (ℕ → Bool) → ℕ → Type 0) (a : ℕ → Bool) (k : ℕ) → IsForced forces 0 a k → ⊥
forced_by_none forces a k w = let none = w.1 in omega arith

-- one more method
pub forced_by_more : (forces : ℕ → (ℕ → Bool) → ℕ → Type 0) (m : ℕ) (a : ℕ → Bool) (k : ℕ) (x y : Bool) → ((x ≡ true) ↔ IsForced forces m a k) → ((y ≡ true) ↔ forces m a k) → ((x || y) ≡ true) ↔ IsForced forces (m + 1) a k
forced_by_more forces m a k x y front last = (
  λ e. elim (or_cases x y e) [
    | inl t ↦ let w = front.0 t in (w.0, omega (arith, w.1), w.2)
    | inr t ↦ (m, omega arith, last.0 t)
  ],
  λ w. elim (cases_eq w.0 m) [
    | inl s ↦ or_right x y (last.1 (subst (λ v. forces v a k) s w.2))
    | inr d ↦ or_left x y (front.1 (w.0, below w.0 w.1 d, w.2))
  ],
)
  where
    below : (v : ℕ) → v < m + 1 → v ≢ m → v < m
    below v h d = omega arith

-- The marks xs so far: they lie within all closed marks, and each round that was made added one at least.
pub record AreReached (forces : ℕ → (ℕ → Bool) → ℕ → Type 0) (n words : ℕ) (xs : List ℕ) (before now : ℕ) : Type 0 where
  pub same_length : length xs ≡ words
  pub within : (c : ℕ → Bool) → IsClosed forces n c → IsWithin (has xs) c
  pub steps : now ≤ before + n * count_below (has xs) (64 * words)

pub reached_first : (forces : ℕ → (ℕ → Bool) → ℕ → Type 0) (n words : ℕ) (xs : List ℕ) (before : ℕ) → length xs ≡ words → ((k : ℕ) → has xs k ≡ false) → AreReached forces n words xs before before
reached_first forces n words xs before same none =
    record {
      same_length = same;
      within = λ c closed k e. absurd (false≢true (sym (none k) ∙ e));
      steps = omega arith;
    }

-- the marks zs are the marks xs with those ys that are forced there, of which some are new
module _ (forces : ℕ → (ℕ → Bool) → ℕ → Type 0) (n words : ℕ) (monotone : IsMonotone forces n) (xs ys zs : List ℕ) (found : (k : ℕ) → (has ys k ≡ true) ↔ IsForced forces n (has xs) k) where
  -- where none is new, the marks are the least closed ones
  pub reached_least : ((c : ℕ → Bool) → IsClosed forces n c → IsWithin (has xs) c) → IsWithin (has ys) (has xs) → IsLeast forces n (has xs)
  reached_least within none = record { closed = λ k w. none k ((found k).1 w); within = within }

  module _ (same : length zs ≡ words) (more : (k : ℕ) → has zs k ≡ (has xs k || has ys k)) (new : IsWithin (has ys) (has xs) → ⊥) where
    pub reached_grows : count_below (has xs) (64 * words) < count_below (has zs) (64 * words)
    reached_grows =
        count_below-grows (has xs) (has zs) (64 * words)
        (λ k e. more k ∙ or_left (has xs k) (has ys k) e)
        (λ k e. subst (λ v. k < 64 * v) same (member_below zs k e))
        (λ h. new (λ k e. h k (more k ∙ or_right (has xs k) (has ys k) e)))

    pub reached_more : (before between now : ℕ) → AreReached forces n words xs before between → now ≤ between + n → AreReached forces n words zs before now
    reached_more before between now r cost =
        let grown : count_below (has xs) (64 * words) + 1 ≤ count_below (has zs) (64 * words) = omega (arith, reached_grows) in
        let product : n * (count_below (has xs) (64 * words) + 1) ≤ n * count_below (has zs) (64 * words) = mul-le-mul_left n grown in
        let so_far = r.steps in
        record {
          same_length = same;
          within = λ c closed k e. elim (or_cases (has xs k) (has ys k) (sym (more k) ∙ e)) [
            | inl t ↦ r.within c closed k t
            | inr t ↦ closed k (let w = (found k).0 t in (w.0, w.1, monotone w.0 k (has xs) c w.1 (r.within c closed) w.2))
          ];
          steps = omega arith;
        }

-- the bound on the steps, where the last round added none
pub steps_in_all : (forces : ℕ → (ℕ → Bool) → ℕ → Type 0) (n words : ℕ) (xs : List ℕ) (before between now : ℕ) → AreReached forces n words xs before between → now ≤ between + n → now ≤ before + n * (64 * words + 1)
steps_in_all forces n words xs before between now r cost =
    let few : count_below (has xs) (64 * words) + 1 ≤ 64 * words + 1 = omega (arith, count_below-le (has xs) (64 * words)) in
    let product : n * (count_below (has xs) (64 * words) + 1) ≤ n * (64 * words + 1) = mul-le-mul_left n few in
    let so_far = r.steps in
    omega arith

-- the least closed marks are one set
pub least_is_one : (forces : ℕ → (ℕ → Bool) → ℕ → Type 0) (n : ℕ) (a b : ℕ → Bool) → IsLeast forces n a → IsLeast forces n b → (k : ℕ) → a k ≡ b k
least_is_one forces n a b x y k = same_tests (a k) (b k) (x.within b y.closed k) (y.within a x.closed k)
