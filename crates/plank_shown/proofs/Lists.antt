-- Numbers that are listed, and numbers that are spread from their places into a set.
use Rattle.std.specs.Prelude.{◌≡◌, ◌⊎◌, ℕ, zero, suc, ◌*◌, ◌<◌, ◌≤◌, ◌==◌, nat_lt, Bool, true, false, ◌&&◌, ◌||◌, List, length, slice_get, slice_index_or, Option, Some, None, Contains, if◌then◌else◌}
use Rattle.std.proofs.Common.{refl, sym, ◌∙◌, ap, subst, inl, inr, arith, get_or}
use Rattle.std.proofs.lemmas.Bool.{eqb-true, eq-eqb, lt-ltb, and_parts, and_from, or_cases, or_left, or_right, cond-true}
use Rattle.std.proofs.lemmas.List.{length-append}
use Rattle.std.proofs.lemmas.Option.{same_Some, none-some, slice_get-get_or, slice_get_within}
use Rattle.plank_base.specs.declared.limits.TheConstants.{MARK_WORDS_PER_LOCATION}
use Rattle.plank_pic.specs.Below.{some_below}
use Rattle.plank_pic.proofs.Below.{some_found, some_there}
use Rattle.plank_claim.specs.Claims.{listed, listed_below}
use Rattle.plank_claim.proofs.Added.{below_in, in_below}
use Rattle.plank_shown.specs.Numbers.{picked, is_at}

-- ---- lists

length-listed : (o : Option ℕ) → length (listed o) ≤ 1
length-listed None = omega arith
length-listed (Some n) = omega arith

pub few_listed : (of : ℕ → Option ℕ) (n : ℕ) → length (listed_below of n) ≤ n
unfolding listed_below
few_listed of zero = omega arith
few_listed of (suc n) =
    let sum = length-append (listed_below of n) (listed (of n)) in
    let before = few_listed of n in
    let one = length-listed (of n) in
    omega (arith, sum, before, one)

-- a number at its place
pub number_at : (numbers : List ℕ) (i n : ℕ) → slice_get numbers i ≡ Some n → slice_index_or numbers i 0 ≡ n
number_at numbers i n at =
    same_Some (slice_index_or numbers i 0) n (sym (slice_get-get_or numbers i 0 (slice_get_within numbers i n at)) ∙ at)

module _ (set : ℕ → Bool) (most : ℕ) (numbers : List ℕ) (are : numbers ≡ listed_below (picked set) most) where
  pub few_numbers : length numbers ≤ most
  few_numbers = subst (λ (ns : List ℕ). length ns ≤ most) (sym are) (few_listed (picked set) most)

  picked_is : (i n : ℕ) → picked set i ≡ Some n → (b : Bool) → set i ≡ b → (i ≡ n) × (set i ≡ true)
  picked_is i n e true t = (same_Some i n (sym (cond-true (set i) (Some i) None t) ∙ e), t)
  picked_is i n e false t = absurd (none-some n (sym (ap (λ b. if b then Some i else None) t) ∙ e))

  -- what is listed is in the set
  pub listed_in : (i n : ℕ) → slice_get numbers i ≡ Some n → set n ≡ true
  listed_in i n at =
      let within = slice_get_within numbers i n at in
      let there : Contains numbers n = (i, within, same_Some (get_or numbers i n) n (sym (slice_get-get_or numbers i n within) ∙ at)) in
      let v = in_below (picked set) most n (subst (λ (ns : List ℕ). Contains ns n) are there) in
      let is = picked_is v.0 n v.2 (set v.0) refl in
      subst (λ k. set k ≡ true) is.0 is.1

  -- and the other way round
  pub in_listed : (n : ℕ) → n < most → set n ≡ true → (i : ℕ) × (slice_get numbers i ≡ Some n)
  in_listed n below is =
      let w = subst (λ (ns : List ℕ). Contains ns n) (sym are) (below_in (picked set) most n n below (cond-true (set n) (Some n) None is)) in
      (w.0, slice_get-get_or numbers w.0 n w.1 ∙ ap Some w.2)

-- ---- sets

module _ (old new places : ℕ → Bool) (numbers : List ℕ) (is : (k : ℕ) → new k ≡ (old k || some_below (is_at numbers places k) (length numbers))) where
  pub spread_old : (k : ℕ) → old k ≡ true → new k ≡ true
  spread_old k was = is k ∙ or_left (old k) (some_below (is_at numbers places k) (length numbers)) was

  pub spread_at : (i k : ℕ) → slice_get numbers i ≡ Some k → k < 64 * MARK_WORDS_PER_LOCATION → places i ≡ true → new k ≡ true
  spread_at i k at small there =
      let its = number_at numbers i k at in
      is k ∙ or_right (old k) (some_below (is_at numbers places k) (length numbers)) (some_there (is_at numbers places k) (length numbers) i (slice_get_within numbers i k at)
      (and_from (places i && nat_lt (slice_index_or numbers i 0) (64 * MARK_WORDS_PER_LOCATION)) (k == slice_index_or numbers i 0)
      (and_from (places i) (nat_lt (slice_index_or numbers i 0) (64 * MARK_WORDS_PER_LOCATION)) there (subst (λ n. nat_lt n (64 * MARK_WORDS_PER_LOCATION) ≡ true) (sym its) (lt-ltb k (64 * MARK_WORDS_PER_LOCATION) small)))
      (eq-eqb k (slice_index_or numbers i 0) (sym its))))

  pub at_spread : (k : ℕ) → new k ≡ true → (old k ≡ true) ⊎ ((i : ℕ) × (slice_get numbers i ≡ Some k) × (places i ≡ true))
  at_spread k e =
      elim (or_cases (old k) (some_below (is_at numbers places k) (length numbers)) (sym (is k) ∙ e)) [
        | inl was ↦ inl was
        | inr more ↦
            let w = some_found (is_at numbers places k) (length numbers) more in
            let both = and_parts (places w.0 && nat_lt (slice_index_or numbers w.0 0) (64 * MARK_WORDS_PER_LOCATION)) (k == slice_index_or numbers w.0 0) w.2 in
            inr (
              w.0,
              slice_get-get_or numbers w.0 0 w.1 ∙ ap Some (sym (eqb-true k (slice_index_or numbers w.0 0) both.1)),
              (and_parts (places w.0) (nat_lt (slice_index_or numbers w.0 0) (64 * MARK_WORDS_PER_LOCATION)) both.0).0,
            )
      ]
