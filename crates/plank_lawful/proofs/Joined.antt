-- Lists joined one after the other: how they grow, and what is in them.
use Rattle.std.proofs.Common.{◌≡◌, ℕ, zero, suc, ◌+◌, ◌<◌, List, ◌++◌, sym, ◌∙◌, ap, subst, inl, inr, arith, add-one}
use Rattle.std.specs.List.{Contains}
use Rattle.std.proofs.lemmas.Bool.{cases_eq}
use Rattle.std.proofs.lemmas.List.{append-nil, append_assoc}
use Rattle.std.proofs.lemmas.List.Elements.{Contains-append_left, Contains-append_right, Contains-append_cases}
use Rattle.plank_lawful.specs.Lists.{joined}

pub joined_none : {X : Type 0} (old : List X) (each : ℕ → List X) → old ≡ old ++ joined each 0
unfolding joined
joined_none old each = sym (append-nil old)

pub joined_more : {X : Type 0} (items old : List X) (each : ℕ → List X) (i : ℕ) → items ≡ old ++ joined each i → items ++ each i ≡ old ++ joined each (i + 1)
unfolding joined
joined_more items old each i e = ap (λ v. v ++ each i) e ∙ append_assoc old (joined each i) (each i) ∙ ap (λ m. old ++ joined each m) (sym (add-one i))

pub joined_there : {X : Type 0} (each : ℕ → List X) (n i : ℕ) (x : X) → i < n → Contains (each i) x → Contains (joined each n) x
unfolding joined
joined_there each zero i x h has = absurd (omega arith)
joined_there each (suc n) i x h has =
    elim (cases_eq i n) [
      | inl same ↦ Contains-append_right (joined each n) (each n) x (subst (λ m. Contains (each m) x) same has)
      | inr other ↦ Contains-append_left (joined each n) (each n) x (joined_there each n i x (omega arith) has)
    ]

pub joined_from : {X : Type 0} (each : ℕ → List X) (n : ℕ) (x : X) → Contains (joined each n) x → (i : ℕ) × (i < n) × Contains (each i) x
unfolding joined
joined_from each zero x has = let h : has.0 < 0 = has.1 in absurd (omega arith)
joined_from each (suc n) x has =
    elim (Contains-append_cases (joined each n) (each n) x has) [
      | inl old ↦ let w = joined_from each n x old in (w.0, (let below : w.0 < n = w.1 in omega arith), w.2)
      | inr now ↦ (n, omega arith, now)
    ]
