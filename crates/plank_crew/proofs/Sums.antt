-- Sums of a function over the numbers below n.
use Rattle.std.proofs.Common.{ℕ, zero, suc, ◌+◌, ◌*◌, ◌<◌, ◌≤◌, subst, inl, inr, arith}
use Rattle.std.proofs.lemmas.Bool.{cases_eq}

abbrev pub sum_below : (ℕ → ℕ) → ℕ → ℕ
sum_below f zero = 0
sum_below f (suc n) = sum_below f n + f n

pub sum_below-le : (f h : ℕ → ℕ) (n : ℕ) → ((m : ℕ) → m < n → f m ≤ h m) → sum_below f n ≤ sum_below h n
sum_below-le f h zero each = omega arith
sum_below-le f h (suc n) each =
    let front = sum_below-le f h n (λ m l. each m (omega arith)) in
    let last = each n (omega arith) in
    omega arith

pub sum_below-most : (f : ℕ → ℕ) (most n : ℕ) → ((m : ℕ) → m < n → f m ≤ most) → sum_below f n ≤ n * most
sum_below-most f most zero each = omega arith
sum_below-most f most (suc n) each =
    let front = sum_below-most f most n (λ m l. each m (omega arith)) in
    let last = each n (omega arith) in
    omega arith

-- where one of them is larger, so is the sum
pub sum_below-grows : (f h : ℕ → ℕ) (n q : ℕ) → ((m : ℕ) → m < n → f m ≤ h m) → q < n → f q < h q → sum_below f n < sum_below h n
sum_below-grows f h zero q each below more = absurd (omega arith)
sum_below-grows f h (suc n) q each below more =
    elim (cases_eq q n) [
      | inl e ↦
          let front = sum_below-le f h n (λ m l. each m (omega arith)) in
          let last : f n < h n = subst (λ m. f m < h m) e more in
          omega arith
      | inr d ↦
          let front = sum_below-grows f h n q (λ m l. each m (omega arith)) (omega arith) more in
          let last = each n (omega arith) in
          omega arith
    ]

pub part_of_sum : (f : ℕ → ℕ) (n q : ℕ) → q < n → f q ≤ sum_below f n
part_of_sum f zero q below = absurd (omega arith)
part_of_sum f (suc n) q below =
    elim (cases_eq q n) [
      | inl e ↦
          let last : f q ≤ f n = subst (λ m. f q ≤ f m) e (omega arith) in
          omega arith
      | inr d ↦
          let front = part_of_sum f n q (omega arith) in
          omega arith
    ]
