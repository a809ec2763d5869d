-- Elements of lists that are written, that grow, and that pass a test.
use Rattle.std.proofs.Common.{◌≡◌, ◌≢◌, ℕ, zero, suc, ◌⊎◌, Bool, true, List, [], ◌∷◌, ◌++◌, length, set, Option, Some, None, refl, ap, subst, inl, inr, arith}
use Rattle.std.specs.Prelude.{All, slice_get, option_map}
use Rattle.std.specs.List.{list_all}
use Rattle.std.specs.Option.{option_flatten}
use Rattle.std.proofs.lemmas.Bool.{and_parts}
use Rattle.std.proofs.lemmas.Option.{none-some, slice_get_within, get_or_from_slice_get}
use Rattle.std.proofs.lemmas.List.Elements.{All-nil, All-cons, All-get_or}
pub use Rattle.plank_prog.proofs.HeaderFacts.{list_all_at as passes_at}
pub use Rattle.plank_hist.proofs.Joined.{slice_get-append_left as push_found}

-- an element that is found has what all have
pub found_of_all : {X : Type 0} (P : X → Type 0) (xs : List X) (i : ℕ) (x : X) → All P xs → slice_get xs i ≡ Some x → P x
found_of_all P xs i x all at = subst P (get_or_from_slice_get xs i x x at) (All-get_or P xs i x (slice_get_within xs i x at) all)

pub All-from_list_all : {X : Type 0} (p : X → Bool) (P : X → Type 0) → ((x : X) → p x ≡ true → P x) → (xs : List X) → list_all p xs ≡ true → All P xs
All-from_list_all p P one [] all = All-nil P
All-from_list_all p P one (x ∷ xs) all =
    let parts = and_parts (p x) (list_all p xs) all in All-cons P x xs (one x parts.0) (All-from_list_all p P one xs parts.1)

-- an element of a list after a write is the one written, at its place, or an old one
pub found_after_set : {X : Type 0} (xs : List X) (i : ℕ) (y : X) (k : ℕ) (x : X) → slice_get (set xs i y) k ≡ Some x
    → ((k ≡ i) × (y ≡ x)) ⊎ ((k ≢ i) × (slice_get xs k ≡ Some x))
found_after_set [] i y k x at = absurd (none-some x at)
found_after_set (z ∷ zs) zero y zero x at = inl (refl, cc)
found_after_set (z ∷ zs) zero y (suc k) x at = inr ((λ same. absurd (cc)), at)
found_after_set (z ∷ zs) (suc i) y zero x at = inr ((λ same. absurd (cc)), at)
found_after_set (z ∷ zs) (suc i) y (suc k) x at =
    elim (found_after_set zs i y k x at) [
      | inl h ↦ inl (ap suc h.0, h.1)
      | inr h ↦ inr ((λ same. h.0 (omega arith)), h.1)
    ]

pub set_found : {X : Type 0} (xs : List X) (i : ℕ) (y x : X) → slice_get xs i ≡ Some x → slice_get (set xs i y) i ≡ Some y
set_found [] i y x at = absurd (none-some x at)
set_found (z ∷ zs) zero y x at = refl
set_found (z ∷ zs) (suc i) y x at = set_found zs i y x at

pub set_elsewhere : {X : Type 0} (xs : List X) (i : ℕ) (y : X) (k : ℕ) → k ≢ i → slice_get (set xs i y) k ≡ slice_get xs k
set_elsewhere [] i y k apart = refl
set_elsewhere (z ∷ zs) zero y zero apart = absurd (apart refl)
set_elsewhere (z ∷ zs) zero y (suc k) apart = refl
set_elsewhere (z ∷ zs) (suc i) y zero apart = refl
set_elsewhere (z ∷ zs) (suc i) y (suc k) apart = set_elsewhere zs i y k (λ same. apart (ap suc same))

-- an element of a longer list is an old one, or the last
pub found_after_push : {X : Type 0} (xs : List X) (y : X) (k : ℕ) (x : X) → slice_get (xs ++ y ∷ []) k ≡ Some x
    → (slice_get xs k ≡ Some x) ⊎ ((k ≡ length xs) × (y ≡ x))
found_after_push [] y zero x at = inr (refl, cc)
found_after_push [] y (suc k) x at = absurd (none-some x at)
found_after_push (z ∷ zs) y zero x at = inl at
found_after_push (z ∷ zs) y (suc k) x at =
    elim (found_after_push zs y k x at) [ inl h ↦ inl h | inr h ↦ inr (ap suc h.0, h.1) ]

pub push_last : {X : Type 0} (xs : List X) (y : X) → slice_get (xs ++ y ∷ []) (length xs) ≡ Some y
push_last [] y = refl
push_last (z ∷ zs) y = push_last zs y

pub flattened : {X : Type 0} (o : Option (Option X)) (x : X) → option_flatten o ≡ Some x → o ≡ Some (Some x)
flattened None x e = absurd (none-some x e)
flattened (Some o) x e = ap (λ p. Some p) e

pub mapped : {A B : Type 0} (f : A → B) (o : Option A) (y : B) → option_map f o ≡ Some y → (x : A) × (o ≡ Some x) × (f x ≡ y)
mapped f None y e = absurd (none-some y e)
mapped f (Some x) y e = (x, refl, cc)
