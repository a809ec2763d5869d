-- One more rule is applied.
use Rattle.std.proofs.Common.{◌≡◌, ◌↔◌, ◌⊎◌, ℕ, ◌+◌, ◌*◌, ◌<◌, Bool, true, List, slice_index_or, sym, subst, inl, inr, arith}
use Rattle.std.proofs.lemmas.Bool.{cases_eq}
use Rattle.plank_crew_tests.specs.declared.tables.Rule.{Rule}
use Rattle.plank_crew_tests.specs.Rules.{Applies, IsForced}

-- the first n rules, and then one more
pub forced_more : (rules : List Rule) (words n m : ℕ) (marks : ℕ → Bool) (k : ℕ) (one : Rule) → ((d : Rule) → slice_index_or rules n d ≡ one) → (b a : Bool) → ((b ≡ true) ↔ IsForced rules words n m marks k) → ((a ≡ true) ↔ ((b ≡ true) ⊎ ((k < 64 * words) × Applies one m marks k))) → (a ≡ true) ↔ IsForced rules words (n + 1) m marks k
forced_more rules words n m marks k one is b a so_far step = (
  λ e. elim (step.0 e) [
    | inl old ↦
        let f = so_far.0 old in
        record { below = f.below; rule = f.rule; within = omega (arith, f.within); applies = f.applies }
    | inr (below, applies) ↦
        record { below = below; rule = n; within = omega arith; applies = λ d. subst (λ r. Applies r m marks k) (sym (is d)) applies }
  ],
  λ f. step.1 (elim (cases_eq f.rule n) [
    | inl e ↦ inr (f.below, subst (λ r. Applies r m marks k) (is one) (subst (λ i. Applies (slice_index_or rules i one) m marks k) e (f.applies one)))
    | inr d ↦ inl (so_far.1 (record { below = f.below; rule = f.rule; within = omega (arith, f.within, d); applies = f.applies }))
  ]),
)
