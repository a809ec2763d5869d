-- How a path goes on.
use Rattle.std.proofs.Common.{◌≡◌, ℕ, zero, suc, ◌+◌, ◌-◌, ◌==◌, ◌<◌, Bool, true, false, List, [], ◌∷◌, ◌++◌, Option, Some, None, if◌then◌else◌, ◌∙◌, ap, arith}
use Rattle.std.specs.Option.{option_map_or}
use Rattle.std.specs.List.{list_any}
use Rattle.plank_base.specs.declared.keys.NodeId.{NodeId}
use Rattle.plank_trace.specs.Paths.{path_from}

abbrev is_met : List NodeId → NodeId → Bool
is_met met x = list_any (λ (y : NodeId). y.0 == x.0) met

module _ (f : ℕ → Option ℕ) (met : List NodeId) where
  abbrev further : ℕ → NodeId → List NodeId
  further n x = option_map_or (λ to. path_from f (met ++ x ∷ []) n (record { 0 = to })) (f x.0) (met ++ x ∷ [])

  pub path_met : (n : ℕ) (x : NodeId) → 0 < n → is_met met x ≡ true → path_from f met n x ≡ met
  path_met zero x some e = absurd (omega arith)
  path_met (suc n) x some e = ap (λ b. if b then met else further n x) e

  pub path_ends : (n : ℕ) (x : NodeId) → 0 < n → is_met met x ≡ false → f x.0 ≡ None → path_from f met n x ≡ met ++ x ∷ []
  path_ends zero x some e none = absurd (omega arith)
  path_ends (suc n) x some e none =
      ap (λ b. if b then met else further n x) e
      ∙ ap (λ o. option_map_or (λ to. path_from f (met ++ x ∷ []) n (record { 0 = to })) o (met ++ x ∷ [])) none

  pub path_goes : (n k : ℕ) (x to : NodeId) → n ≡ suc k → is_met met x ≡ false → f x.0 ≡ Some to.0 → path_from f met n x ≡ path_from f (met ++ x ∷ []) k to
  path_goes n k x to same e step =
      ap (λ i. path_from f met i x) same
      ∙ ap (λ b. if b then met else further k x) e
      ∙ ap (λ o. option_map_or (λ t. path_from f (met ++ x ∷ []) k (record { 0 = t })) o (met ++ x ∷ [])) step

  pub path_goes_on : (n i : ℕ) (x to : NodeId) → i < n → is_met met x ≡ false → f x.0 ≡ Some to.0 → path_from f met (n - i) x ≡ path_from f (met ++ x ∷ []) (n - (i + 1)) to
  path_goes_on n i x to within e step = path_goes (n - i) (n - (i + 1)) x to (omega arith) e step
