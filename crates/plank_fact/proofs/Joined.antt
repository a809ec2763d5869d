-- Elements of lists that are put one after the other: of two lists, of so many lists, and of a list for each element.
use Rattle.std.specs.Prelude.{◌≡◌, ◌⊎◌, ℕ, zero, suc, ◌+◌, ◌*◌, ◌<◌, ◌≤◌, List, [], ◌∷◌, ◌++◌, length, take, slice_get, Some}
use Rattle.std.specs.List.{flat_map}
use Rattle.std.proofs.Common.{refl, sym, ◌∙◌, ap, subst, inl, inr, arith}
use Rattle.std.proofs.Math.Nat.{suc-mul, eq-or-lt_of_le}
use Rattle.std.proofs.lemmas.List.{length-append}
use Rattle.std.proofs.lemmas.Option.{none-some}
use Rattle.plank_fact.specs.declared.facts.Fact.{Fact}
use Rattle.plank_fact.specs.Tables.{joined}

-- ---- two lists

in_first : (xs ys : List Fact) (i : ℕ) (x : Fact) → slice_get xs i ≡ Some x → slice_get (xs ++ ys) i ≡ Some x
in_first [] ys i x h = absurd (none-some x h)
in_first (z ∷ xs) ys zero x h = h
in_first (z ∷ xs) ys (suc i) x h = in_first xs ys i x h

in_second : (xs ys : List Fact) (r k : ℕ) (x : Fact) → k ≡ length xs + r → slice_get ys r ≡ Some x → slice_get (xs ++ ys) k ≡ Some x
in_second [] ys r k x e h = subst (λ v. slice_get ys v ≡ Some x) (let same : r ≡ k = omega arith in same) h
in_second (z ∷ xs) ys r zero x e h = absurd (omega arith)
in_second (z ∷ xs) ys r (suc k) x e h = in_second xs ys r k x (omega arith) h

pub split : (xs ys : List Fact) (i : ℕ) (x : Fact) → slice_get (xs ++ ys) i ≡ Some x
    → (slice_get xs i ≡ Some x) ⊎ ((k : ℕ) × (i ≡ length xs + k) × (slice_get ys k ≡ Some x))
split [] ys i x h = inr (i, omega arith, h)
split (y ∷ xs) ys zero x h = inl h
split (y ∷ xs) ys (suc i) x h =
    elim (split xs ys i x h) [
      | inl left ↦ inl left
      | inr right ↦ inr (right.0, (let before : i ≡ length xs + right.0 = right.1 in omega arith), right.2)
    ]

-- ---- so many lists

pub joined_found : (n : ℕ) (of : ℕ → List Fact) (i r k : ℕ) (x : Fact) → i < n → k ≡ length (joined i of) + r → slice_get (of i) r ≡ Some x
    → slice_get (joined n of) k ≡ Some x
unfolding joined
joined_found zero of i r k x below e h = absurd (omega arith)
joined_found (suc n) of i r k x below e h =
    let within : i ≤ n = omega arith in
    elim (eq-or-lt_of_le within) [
      | inl same ↦
          in_second (joined n of) (of n) r k x (e ∙ ap (λ v. length (joined v of) + r) same) (subst (λ v. slice_get (of v) r ≡ Some x) same h)
      | inr less ↦ in_first (joined n of) (of n) k x (joined_found n of i r k x less e h)
    ]

pub length-joined : (n c : ℕ) (of : ℕ → List Fact) → ((i : ℕ) → i < n → length (of i) ≡ c) → length (joined n of) ≡ n * c
unfolding joined
length-joined zero c of each = omega arith
length-joined (suc n) c of each =
    let last = each n (omega arith) in
    let before = length-joined n c of (λ i below. each i (omega arith)) in
    omega (arith, length-append (joined n of) (of n), suc-mul n c)

-- ---- a list for each element

pub flat_map_found : {X : Type 0} (F : X → List Fact) (ks : List X) (i r n : ℕ) (k : X) (x : Fact) → slice_get ks i ≡ Some k → slice_get (F k) r ≡ Some x
    → n ≡ length (flat_map F (take i ks)) + r → slice_get (flat_map F ks) n ≡ Some x
flat_map_found F [] i r n k x at h e = absurd (none-some k at)
flat_map_found F (z ∷ ks) zero r n k x at h e = in_first (F z) (flat_map F ks) n x (let same : z ≡ k = cc in let here : r ≡ n = omega arith in subst (λ v. slice_get (F z) v ≡ Some x) here (subst (λ v. slice_get (F v) r ≡ Some x) (sym same) h))
flat_map_found F (z ∷ ks) (suc i) r n k x at h e =
    let rest = length (flat_map F (take i ks)) + r in
    let far : n ≡ length (F z) + rest = omega (arith, length-append (F z) (flat_map F (take i ks))) in
    in_second (F z) (flat_map F ks) rest n x far (flat_map_found F ks i r rest k x at h refl)

-- the fact at a place is of the list of some element
pub record InOne {X : Type 0} (F : X → List Fact) (ks : List X) (n : ℕ) (x : Fact) : Type 0 where
  pub number : ℕ
  pub element : X
  pub there : slice_get ks number ≡ Some element
  pub rest : ℕ
  pub found : slice_get (F element) rest ≡ Some x
  pub is : n ≡ length (flat_map F (take number ks)) + rest

pub in_one : {X : Type 0} (F : X → List Fact) (ks : List X) (n : ℕ) (x : Fact) → slice_get (flat_map F ks) n ≡ Some x → InOne F ks n x
in_one F [] n x h = absurd (none-some x h)
in_one F (z ∷ ks) n x h =
    elim (split (F z) (flat_map F ks) n x h) [
      | inl left ↦ record { number = 0; element = z; there = refl; rest = n; found = left; is = omega arith }
      | inr right ↦
          (let w = in_one F ks right.0 x right.2 in
          let at : right.0 ≡ length (flat_map F (take w.number ks)) + w.rest = w.is in
          let far : n ≡ length (F z) + right.0 = right.1 in
          record {
            number = suc w.number;
            element = w.element;
            there = w.there;
            rest = w.rest;
            found = w.found;
            is = omega (arith, length-append (F z) (flat_map F (take w.number ks)));
          })
    ]
