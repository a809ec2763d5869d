-- The least number below a bound that passes a test, and whether one does: what is found, and how a search goes on.
use Rattle.std.proofs.Common.{◌≡◌, ◌⊎◌, ℕ, zero, suc, ◌+◌, ◌<◌, Bool, true, false, Option, Some, None, refl, sym, ◌∙◌, ap, subst, inl, inr, arith, add-one}
use Rattle.std.specs.Prelude.{◌||◌}
use Rattle.std.proofs.lemmas.Bool.{cases_eq, or_cases, or_left, or_right, true≢false, false≢true, false_from_ne_true}
use Rattle.std.proofs.lemmas.Option.{none-some, same_Some}
use Rattle.plank_pic.specs.Below.{some_below, least_below, found_or}

found_cases : (n i : ℕ) (passes : Bool) (o : Option ℕ) → found_or n passes o ≡ Some i → (o ≡ Some i) ⊎ ((o ≡ None) × (passes ≡ true) × (n ≡ i))
found_cases n i passes (Some j) e = inl e
found_cases n i true None e = inr (refl, refl, same_Some n i e)
found_cases n i false None e = absurd (none-some i e)

not_found : (n : ℕ) (passes : Bool) (o : Option ℕ) → found_or n passes o ≡ None → (o ≡ None) × (passes ≡ false)
not_found n passes (Some j) e = absurd (none-some j (sym e))
not_found n true None e = absurd (none-some n (sym e))
not_found n false None e = (refl, refl)

pub least_none : (t : ℕ → Bool) (n : ℕ) → least_below t n ≡ None → (g : ℕ) → g < n → t g ≡ false
unfolding least_below
least_none t zero e g h = absurd (omega arith)
least_none t (suc n) e g h =
    let both = not_found n (t n) (least_below t n) e in
    elim (cases_eq g n) [
      | inl same ↦ subst (λ v. t v ≡ false) (sym same) both.1
      | inr other ↦ least_none t n both.0 g (omega arith)
    ]

pub least_some : (t : ℕ → Bool) (n i : ℕ) → least_below t n ≡ Some i → (i < n) × (t i ≡ true)
unfolding least_below
least_some t zero i e = absurd (none-some i e)
least_some t (suc n) i e =
    elim (found_cases n i (t n) (least_below t n) e) [
      | inl old ↦ (let below : i < n = (least_some t n i old).0 in omega arith, (least_some t n i old).1)
      | inr now ↦ (let same : n ≡ i = now.2 in omega arith, subst (λ v. t v ≡ true) now.2 now.1)
    ]

pub least_first : (t : ℕ → Bool) (n i : ℕ) → least_below t n ≡ Some i → (g : ℕ) → g < i → t g ≡ false
unfolding least_below
least_first t zero i e g h = absurd (none-some i e)
least_first t (suc n) i e g h =
    elim (found_cases n i (t n) (least_below t n) e) [
      | inl old ↦ least_first t n i old g h
      | inr now ↦ least_none t n now.0 g (let same : n ≡ i = now.2 in omega arith)
    ]

pub some_found : (t : ℕ → Bool) (n : ℕ) → some_below t n ≡ true → (i : ℕ) × (i < n) × (t i ≡ true)
unfolding some_below
some_found t zero e = absurd (false≢true e)
some_found t (suc n) e =
    elim (or_cases (some_below t n) (t n) e) [
      | inl old ↦ let w = some_found t n old in (w.0, (let below : w.0 < n = w.1 in omega arith), w.2)
      | inr now ↦ (n, omega arith, now)
    ]

pub some_there : (t : ℕ → Bool) (n i : ℕ) → i < n → t i ≡ true → some_below t n ≡ true
unfolding some_below
some_there t zero i h e = absurd (omega arith)
some_there t (suc n) i h e =
    elim (cases_eq i n) [
      | inl same ↦ or_right (some_below t n) (t n) (subst (λ v. t v ≡ true) same e)
      | inr other ↦ or_left (some_below t n) (t n) (some_there t n i (omega arith) e)
    ]

pub none_there : (t : ℕ → Bool) (n : ℕ) → ((i : ℕ) → i < n → t i ≡ false) → some_below t n ≡ false
none_there t n h = false_from_ne_true (some_below t n) (λ e. let w = some_found t n e in true≢false (sym w.2 ∙ h w.0 w.1))

-- ---- a search from below, one number after the other

pub least_step : (t : ℕ → Bool) (i n : ℕ) → i < n → t i ≡ true → least_below t i ≡ None → least_below t n ≡ Some i
unfolding least_below
least_step t i zero h e none = absurd (omega arith)
least_step t i (suc n) h e none =
    elim (cases_eq i n) [
      | inl same ↦ subst (λ m. found_or m (t m) (least_below t m) ≡ Some i) same (ap (found_or i (t i)) none ∙ ap (λ b. found_or i b None) e)
      | inr other ↦ ap (found_or n (t n)) (least_step t i n (omega arith) e none)
    ]

pub least_more : (t : ℕ → Bool) (i : ℕ) → t i ≡ false → least_below t i ≡ None → least_below t (i + 1) ≡ None
unfolding least_below
least_more t i e none = ap (λ m. least_below t m) (add-one i) ∙ ap (found_or i (t i)) none ∙ ap (λ b. found_or i b None) e

pub some_more : (t : ℕ → Bool) (i : ℕ) → t i ≡ false → some_below t i ≡ false → some_below t (i + 1) ≡ false
unfolding some_below
some_more t i e none = ap (λ m. some_below t m) (add-one i) ∙ ap (λ b. b || t i) none ∙ e

pub no_least : (t : ℕ → Bool) → least_below t 0 ≡ None
unfolding least_below
no_least t = refl

pub none_below : (t : ℕ → Bool) → some_below t 0 ≡ false
unfolding some_below
none_below t = refl

-- two tests that agree below a bound
pub some_below_alike : (t u : ℕ → Bool) (n : ℕ) → ((i : ℕ) → i < n → t i ≡ u i) → some_below t n ≡ some_below u n
unfolding some_below
some_below_alike t u zero h = refl
some_below_alike t u (suc n) h = ap (λ b. b || t n) (some_below_alike t u n (λ i below. h i (omega arith))) ∙ ap (λ b. some_below u n || b) (h n (omega arith))
