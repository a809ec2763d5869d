-- Sets of numbers that are filled one number after the other.
use Rattle.std.proofs.Common.{◌≡◌, ℕ, ◌+◌, ◌<◌, ◌≤◌, ◌==◌, Bool, true, false, List, length, refl, sym, ◌∙◌, ap, ap₂, inl, inr, get_or, arith}
use Rattle.std.specs.Prelude.{◌&&◌, ◌||◌, nat_lt, slice_get, Some, None}
use Rattle.std.specs.Option.{option_map_or}
use Rattle.std.proofs.lemmas.Bool.{cases_Bool, ltb-true, ltb-false, lt-ltb, le-ltb, eqb-true, eq-eqb, ne_eqb, true≢false, false≢true}
use Rattle.std.proofs.lemmas.Option.{slice_get_cases, slice_get_within, get_or_from_slice_get}
use Rattle.plank_past.specs.Answered.{is_on}

-- where k lies: below n, at it or above it
record Lies (k n : ℕ) : Type 0 where
  pub before : Bool
  pub at : Bool
  pub is_before : nat_lt k n ≡ before
  pub is_at : (k == n) ≡ at
  pub is_within : nat_lt k (n + 1) ≡ (before || at)

lies : (k n : ℕ) → Lies k n
lies k n = elim (cases_Bool (nat_lt k n)) [
  | inl below ↦ (let lt = ltb-true k n below in
      record { before = true; at = false; is_before = below; is_at = ne_eqb k n (λ e. absurd (omega (arith, lt, e))); is_within = lt-ltb k (n + 1) (omega (arith, lt)) })
  | inr above ↦ (let ge = ltb-false k n above in elim (cases_Bool (k == n)) [
    | inl same ↦ (let e = eqb-true k n same in
        record { before = false; at = true; is_before = above; is_at = same; is_within = lt-ltb k (n + 1) (omega (arith, e)) })
    | inr other ↦ record { before = false; at = false; is_before = above; is_at = other; is_within = le-ltb k (n + 1) (past ge other) }
  ])
]
  where
    past : n ≤ k → (k == n) ≡ false → n + 1 ≤ k
    past ge other = let ne : k ≡ n → ⊥ = λ e. true≢false (sym (eq-eqb k n e) ∙ other) in omega (arith, ge, ne)

pub below_more : (k n : ℕ) → nat_lt k (n + 1) ≡ (nat_lt k n || (k == n))
below_more k n = let w = lies k n in w.is_within ∙ sym (ap₂ (λ a b. a || b) w.is_before w.is_at)

-- one more answer is read
pub on_more : (xs : List Bool) (k n : ℕ) (b : Bool) → b ≡ is_on xs n → (nat_lt k (n + 1) && is_on xs k) ≡ ((nat_lt k n && is_on xs k) || (b && (k == n)))
on_more xs k n b is = let w = lies k n in by_place w.before w.at w.is_before w.is_at w.is_within
  where
    by_place : (before at : Bool) → nat_lt k n ≡ before → (k == n) ≡ at → nat_lt k (n + 1) ≡ (before || at) → (nat_lt k (n + 1) && is_on xs k) ≡ ((nat_lt k n && is_on xs k) || (b && (k == n)))
    by_place true true lt same within = (let l = ltb-true k n lt in let e = eqb-true k n same in absurd (omega (arith, l, e)))
    by_place true false lt same within = ap (λ a. a && is_on xs k) within ∙ here (is_on xs k) b ∙ sym (ap₂ (λ a c. (a && is_on xs k) || (b && c)) lt same)
      where
        here : (o b : Bool) → o ≡ (o || (b && false))
        here true b = refl
        here false true = refl
        here false false = refl
    by_place false true lt same within = ap (λ a. a && is_on xs k) within ∙ ap (is_on xs) (eqb-true k n same) ∙ sym is ∙ here b ∙ sym (ap₂ (λ a c. (a && is_on xs k) || (b && c)) lt same)
      where
        here : (b : Bool) → b ≡ (b && true)
        here true = refl
        here false = refl
    by_place false false lt same within = ap (λ a. a && is_on xs k) within ∙ here b ∙ sym (ap₂ (λ a c. (a && is_on xs k) || (b && c)) lt same)
      where
        here : (b : Bool) → false ≡ (b && false)
        here true = refl
        here false = refl

-- past the last there is none
pub all_on : (xs : List Bool) (k : ℕ) → (nat_lt k (length xs) && is_on xs k) ≡ is_on xs k
all_on xs k = elim (slice_get_cases xs k).1 [
  | inl w ↦ ap (λ a. a && is_on xs k) (lt-ltb k (length xs) (within w.0 w.2))
  | inr w ↦ none_there w.1
]
  where
    within : (b : Bool) → slice_get xs k ≡ Some b → k < length xs
    within b there = slice_get_within xs k b there

    none_there : slice_get xs k ≡ None → (nat_lt k (length xs) && is_on xs k) ≡ is_on xs k
    none_there none = and_none (nat_lt k (length xs)) (is_on xs k) (ap (λ o. option_map_or (λ b. b) o false) none)
      where
        and_none : (a o : Bool) → o ≡ false → (a && o) ≡ o
        and_none true o e = refl
        and_none false o e = sym e

pub on_yes : (xs : List Bool) (k : ℕ) → is_on xs k ≡ true → slice_get xs k ≡ Some true
on_yes xs k e = elim (slice_get_cases xs k).1 [
  | inl w ↦ w.2 ∙ ap Some (sym (ap (λ o. option_map_or (λ b. b) o false) w.2) ∙ e)
  | inr w ↦ absurd (false≢true (sym (ap (λ o. option_map_or (λ b. b) o false) w.1) ∙ e))
]

pub yes_on : (xs : List Bool) (k : ℕ) → slice_get xs k ≡ Some true → is_on xs k ≡ true
yes_on xs k e = ap (λ o. option_map_or (λ b. b) o false) e

pub on_there : (xs : List Bool) (n : ℕ) → n < length xs → get_or xs n false ≡ is_on xs n
on_there xs n below = elim (slice_get_cases xs n).1 [
  | inl w ↦ get_or_from_slice_get xs n w.0 false w.2 ∙ sym (ap (λ o. option_map_or (λ b. b) o false) w.2)
  | inr w ↦ (let past = w.0 in absurd (omega (arith, below, past)))
]
