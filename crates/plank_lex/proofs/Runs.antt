-- The longest front of a list that passes a test.
use Rattle.std.proofs.Common.{◌≡◌, ℕ, suc, ◌+◌, Bool, true, false, cond, ◌&&◌, List, [], ◌∷◌, ◌++◌, length, drop, refl, ap, ◌∙◌, one-add}
use Rattle.std.specs.List.{prefix_len, take_while, list_all}
use Rattle.std.proofs.lemmas.List.Sums.{take_while-cons}
use Rattle.plank_lex.specs.Parts.{EndsBefore}

pub list_all-take_while : (p : ℕ → Bool) (xs : List ℕ) → list_all p (take_while p xs) ≡ true
list_all-take_while p [] = refl
list_all-take_while p (x ∷ xs) =
    rw (take_while-cons p x xs) (elim (p x) as (λ t. p x ≡ t → list_all p (cond t (x ∷ take_while p xs) []) ≡ true) [
      | true ↦ λ passes. rw passes (list_all-take_while p xs)
      | false ↦ λ fails. refl
    ] refl)

pub prefix_len_ends : (p : ℕ → Bool) (xs : List ℕ) → EndsBefore p (drop (prefix_len p xs) xs)
prefix_len_ends p [] = tt
prefix_len_ends p (x ∷ xs) =
    elim (p x) as (λ t. p x ≡ t → EndsBefore p (drop (cond t (1 + prefix_len p xs) 0) (x ∷ xs))) [
      | true ↦ λ passes. rw one-add (prefix_len_ends p xs)
      | false ↦ λ fails. fails
    ] refl

-- a front of bytes that pass, and what does not go on so
pub prefix_len-append : (p : ℕ → Bool) (xs ys : List ℕ) → list_all p xs ≡ true → EndsBefore p ys → prefix_len p (xs ++ ys) ≡ length xs
prefix_len-append p [] [] all ends = refl
prefix_len-append p [] (y ∷ ys) all ends = ap (λ t. cond t (1 + prefix_len p ys) 0) ends
prefix_len-append p (x ∷ xs) ys all ends =
    elim (p x) as (λ t. (t && list_all p xs) ≡ true → cond t (1 + prefix_len p (xs ++ ys)) 0 ≡ suc (length xs)) [
      | true ↦ λ others. one-add _ ∙ ap suc (prefix_len-append p xs ys others ends)
      | false ↦ λ none. cc
    ] all
