-- What is asked of each number below a bound.
use Rattle.std.proofs.Common.{◌≡◌, ℕ, zero, suc, ◌+◌, ◌<◌, Bool, true, false, refl, sym, ◌∙◌, ap, subst, inl, inr, arith, add-one}
use Rattle.std.proofs.lemmas.Bool.{cases_eq, and_parts, and_from, true≢false, false_from_ne_true}
use Rattle.plank_lawful.specs.Asked.{all_below}

pub all_of_none : (t : ℕ → Bool) → all_below t 0 ≡ true
unfolding all_below
all_of_none t = refl

pub all_more : (t : ℕ → Bool) (i : ℕ) → t i ≡ true → all_below t i ≡ true → all_below t (i + 1) ≡ true
unfolding all_below
all_more t i e all = ap (λ m. all_below t m) (add-one i) ∙ and_from (all_below t i) (t i) all e

pub each_passes : (t : ℕ → Bool) (n : ℕ) → all_below t n ≡ true → (i : ℕ) → i < n → t i ≡ true
unfolding all_below
each_passes t zero e i h = absurd (omega arith)
each_passes t (suc n) e i h =
    let both = and_parts (all_below t n) (t n) e in
    elim (cases_eq i n) [
      | inl same ↦ subst (λ v. t v ≡ true) (sym same) both.1
      | inr other ↦ each_passes t n both.0 i (omega arith)
    ]

pub all_pass : (t : ℕ → Bool) (n : ℕ) → ((i : ℕ) → i < n → t i ≡ true) → all_below t n ≡ true
unfolding all_below
all_pass t zero h = refl
all_pass t (suc n) h = and_from (all_below t n) (t n) (all_pass t n (λ i below. h i (omega arith))) (h n (omega arith))

pub one_fails : (t : ℕ → Bool) (n i : ℕ) → i < n → t i ≡ false → all_below t n ≡ false
one_fails t n i h e = false_from_ne_true (all_below t n) (λ all. true≢false (sym (each_passes t n all i h) ∙ e))
