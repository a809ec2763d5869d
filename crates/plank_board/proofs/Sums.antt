-- Sums over the views of all seats, where one view becomes another.
use Rattle.std.proofs.Common.{◌≡◌, ℕ, zero, suc, ◌+◌, ◌≤◌, List, [], ◌∷◌, set, refl, sym, ap, arith}
use Rattle.std.specs.Prelude.{sum_by}
use Rattle.std.proofs.lemmas.List.Sums.{sum_by-cons}
use mathlib.Core.Option.{some, some-injective, some-ne-none}
use lib.ListN.{get_elem?}

module _ {A : Type 0} (f : A → ℕ) where
  pub sum_at : (l : List A) (i : ℕ) (a b : A) → get_elem? l i ≡ some a → sum_by f (set l i b) + f a ≡ sum_by f l + f b
  sum_at [] i a b e = absurd (some-ne-none a (sym e))
  sum_at (x ∷ xs) zero a b e =
      let same : f x ≡ f a = ap f (some-injective x a e) in
      omega (arith, sum_by-cons f x xs, sum_by-cons f b xs)
  sum_at (x ∷ xs) (suc i) a b e =
      omega (arith, sum_at xs i a b e, sum_by-cons f x xs, sum_by-cons f x (set xs i b))

  pub part_of_sum : (l : List A) (i : ℕ) (a : A) → get_elem? l i ≡ some a → f a ≤ sum_by f l
  part_of_sum [] i a e = absurd (some-ne-none a (sym e))
  part_of_sum (x ∷ xs) zero a e =
      let same : f x ≡ f a = ap f (some-injective x a e) in
      omega (arith, sum_by-cons f x xs)
  part_of_sum (x ∷ xs) (suc i) a e = omega (arith, part_of_sum xs i a e, sum_by-cons f x xs)

  pub sum_none : (l : List A) → ((i : ℕ) (a : A) → get_elem? l i ≡ some a → f a ≡ 0) → sum_by f l ≡ 0
  sum_none [] h = refl
  sum_none (x ∷ xs) h = omega (arith, h zero x refl, sum_none xs (λ i a e. h (suc i) a e), sum_by-cons f x xs)
