-- Lists that are put together: how they grow, and what stands in them.
use Rattle.std.specs.Prelude.{◌≡◌, ℕ, zero, suc, ◌+◌, ◌<◌, List, [], ◌∷◌, ◌++◌, slice_index_or, Option, Some, None, Contains}
use Rattle.std.proofs.Common.{refl, sym, ◌∙◌, ap, subst, inl, inr, arith, rules, add-one}
use Rattle.std.proofs.lemmas.Bool.{cases_eq}
use Rattle.std.proofs.lemmas.Option.{same_Some, none-some}
use Rattle.std.proofs.lemmas.List.Elements.{Contains-append_left, Contains-append_right, Contains-append_cases}
use Rattle.plank_goals.specs.Lists.{gathered, listed}

module _ {A : Type 0} where
  append_none : (xs : List A) → xs ++ [] ≡ xs
  append_none [] = refl
  append_none (x ∷ xs) = ap (λ vs. x ∷ vs) (append_none xs)

  pub append_third : (xs ys zs : List A) → (xs ++ ys) ++ zs ≡ xs ++ (ys ++ zs)
  append_third [] ys zs = refl
  append_third (x ∷ xs) ys zs = ap (λ vs. x ∷ vs) (append_third xs ys zs)

  -- ---- how they grow

  pub none_gathered : (of : ℕ → List A) (old : List A) → old ≡ old ++ gathered of 0
  unfolding gathered
  none_gathered of old = sym (append_none old)

  pub one_gathered : (of : ℕ → List A) (n : ℕ) (first old new more : List A) → old ≡ first ++ gathered of n → more ≡ of n → new ≡ old ++ more → new ≡ first ++ gathered of (n + 1)
  unfolding gathered
  one_gathered of n first old new more so is e =
      e ∙ ap (λ xs. xs ++ more) so ∙ append_third first (gathered of n) more ∙ ap (λ ys. first ++ (gathered of n ++ ys)) is
      ∙ ap (λ m. first ++ gathered of m) (sym (add-one n))

  -- nothing is added
  pub added_none : (old new : List A) → new ≡ old → new ≡ old ++ []
  added_none old new is = is ∙ sym (append_none old)

  -- ---- what stands in them

  nothing_in : (a : A) → Contains [] a → ⊥
  nothing_in a w = search rules

  only_at : (b a : A) (i : ℕ) → i < 1 → slice_index_or (b ∷ []) i a ≡ a → b ≡ a
  only_at b a zero below e = e
  only_at b a (suc i) below e = absurd (omega (arith, below))

  pub only_one : (b a : A) → Contains (b ∷ []) a → b ≡ a
  only_one b a w = only_at b a w.0 w.1 w.2

  pub one_in : (a : A) → Contains (a ∷ []) a
  one_in a = (0, omega arith, refl)

  pub in_listed : (o : Option A) (a : A) → Contains (listed o) a → o ≡ Some a
  in_listed None a w = absurd (nothing_in a w)
  in_listed (Some b) a w = ap Some (only_one b a w)

  pub listed_in : (o : Option A) (a : A) → o ≡ Some a → Contains (listed o) a
  listed_in None a e = absurd (none-some a e)
  listed_in (Some b) a e = subst (λ c. Contains (b ∷ []) c) (same_Some b a e) (one_in b)

  pub in_gathered : (of : ℕ → List A) (n : ℕ) (a : A) → Contains (gathered of n) a → (i : ℕ) × (i < n) × Contains (of i) a
  unfolding gathered
  in_gathered of zero a w = absurd (nothing_in a w)
  in_gathered of (suc n) a w =
      elim (Contains-append_cases (gathered of n) (of n) a w) [
        | inl old ↦ let v = in_gathered of n a old in (v.0, (let below : v.0 < n = v.1 in omega arith), v.2)
        | inr now ↦ (n, omega arith, now)
      ]

  pub gathered_in : (of : ℕ → List A) (n i : ℕ) (a : A) → i < n → Contains (of i) a → Contains (gathered of n) a
  unfolding gathered
  gathered_in of zero i a below w = absurd (omega (arith, below))
  gathered_in of (suc n) i a below w =
      elim (cases_eq i n) [
        | inl same ↦ Contains-append_right (gathered of n) (of n) a (subst (λ k. Contains (of k) a) same w)
        | inr other ↦ Contains-append_left (gathered of n) (of n) a (gathered_in of n i a (omega arith) w)
      ]

  -- ---- lists of lists of one each

  pub in_rows : (of : ℕ → ℕ → A) (n m : ℕ) (a : A) → Contains (gathered (λ i. gathered (λ j. of i j ∷ []) m) n) a → (i : ℕ) × (j : ℕ) × (of i j ≡ a)
  in_rows of n m a w =
      let v = in_gathered (λ i. gathered (λ j. of i j ∷ []) m) n a w in
      let u = in_gathered (λ j. of v.0 j ∷ []) m a v.2 in
      (v.0, u.0, only_one (of v.0 u.0) a u.2)

  pub rows_in : (of : ℕ → ℕ → A) (n m i j : ℕ) → i < n → j < m → Contains (gathered (λ i. gathered (λ j. of i j ∷ []) m) n) (of i j)
  rows_in of n m i j below within =
      gathered_in (λ i. gathered (λ j. of i j ∷ []) m) n i (of i j) below (gathered_in (λ j. of i j ∷ []) m j (of i j) within (one_in (of i j)))

  pub nothing_at : (a : A) → Contains [] a → ⊥
  nothing_at = nothing_in
