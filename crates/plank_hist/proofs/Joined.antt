-- Which elements a list of two lists, one after the other, has at which places.
use Rattle.std.proofs.Common.{◌≡◌, ℕ, zero, suc, ◌+◌, List, [], ◌∷◌, ◌++◌, length, Some, ◌⊎◌, inl, inr, subst, ⊎_elim, arith}
use Rattle.std.specs.List.{slice_get}

pub slice_get-append_left : {X : Type 0} (xs ys : List X) (k : ℕ) (x : X) → slice_get xs k ≡ Some x → slice_get (xs ++ ys) k ≡ Some x
slice_get-append_left [] ys k x e = cc
slice_get-append_left (y ∷ xs) ys zero x e = e
slice_get-append_left (y ∷ xs) ys (suc k) x e = slice_get-append_left xs ys k x e

pub slice_get-append_right : {X : Type 0} (xs ys : List X) (k l : ℕ) (x : X) → k ≡ length xs + l → slice_get ys l ≡ Some x → slice_get (xs ++ ys) k ≡ Some x
slice_get-append_right [] ys k l x e at = let f : l ≡ k = omega arith in subst (λ n. slice_get ys n ≡ Some x) f at
slice_get-append_right (y ∷ xs) ys zero l x e at = absurd (omega arith)
slice_get-append_right (y ∷ xs) ys (suc k) l x e at = slice_get-append_right xs ys k l x (omega arith) at

-- an element of the whole stands in one of the two
pub slice_get-append : {X : Type 0} (xs ys : List X) (k : ℕ) (x : X) → slice_get (xs ++ ys) k ≡ Some x
    → (slice_get xs k ≡ Some x) ⊎ ((l : ℕ) × (k ≡ length xs + l) × (slice_get ys l ≡ Some x))
slice_get-append [] ys k x e = inr (k, omega arith, e)
slice_get-append (y ∷ xs) ys zero x e = inl e
slice_get-append (y ∷ xs) ys (suc k) x e =
    ⊎_elim (λ left. inl left) (λ right. inr (right.0, (let same = right.1 in omega arith), right.2)) (slice_get-append xs ys k x e)
