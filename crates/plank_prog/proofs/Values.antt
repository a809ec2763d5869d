-- Equations of the value of a condition with parts, and the loops over the parts.
use Rattle.std.proofs.Common.{◌≡◌, ℕ, ◌+◌, ◌<◌, ◌≤◌, ◌&&◌, ◌||◌, Bool, true, false, List, map, length, get_or, drop, sym, ◌∙◌, ap}
use Rattle.std.proofs.lemmas.List.{drop_all}
use Rattle.plank_prog.specs.declared.conditions.Condition.{Condition}
use Rattle.plank_prog.specs.declared.conditions.Condition.TheOpen.{Condition-F}
use Rattle.plank_prog.specs.declared.conditions.Condition.TheVariants.{All, Any, rolls-All, rolls-Any}
use Rattle.plank_prog.specs.declared.conditions.Condition.TheFolds.{fold-roll-Condition}
use Rattle.plank_prog.specs.Conditions.{View, value, value_step, all_true, some_true}
use Rattle.plank_prog.specs.declared.scopes.Scope.{Scope}
use Rattle.plank_prog.specs.Scopes.{condition_fits, fits_step}
use Rattle.plank_prog.proofs.Rests.{rest-cons}

pub value-All : (v : View) (parts : List Condition) → value v (All parts) ≡ all_true (map (value v) parts)
value-All v parts = ap (value v) (sym (rolls-All parts)) ∙ fold-roll-Condition Bool (value_step v) (Condition-F.All parts)

pub value-Any : (v : View) (parts : List Condition) → value v (Any parts) ≡ some_true (map (value v) parts)
value-Any v parts = ap (value v) (sym (rolls-Any parts)) ∙ fold-roll-Condition Bool (value_step v) (Condition-F.Any parts)

pub condition_fits-All : (s : Scope) (parts : List Condition) → condition_fits s (All parts) ≡ all_true (map (condition_fits s) parts)
condition_fits-All s parts = ap (condition_fits s) (sym (rolls-All parts)) ∙ fold-roll-Condition Bool (fits_step s) (Condition-F.All parts)

pub condition_fits-Any : (s : Scope) (parts : List Condition) → condition_fits s (Any parts) ≡ all_true (map (condition_fits s) parts)
condition_fits-Any s parts = ap (condition_fits s) (sym (rolls-Any parts)) ∙ fold-roll-Condition Bool (fits_step s) (Condition-F.Any parts)

-- ---- a loop over parts that asks whether each is true

module _ {X : Type 0} (f : X → Bool) (xs : List X) where
  all_rest : (i : ℕ) (x : X) → i < length xs → x ≡ get_or xs i x → all_true (map f (drop i xs)) ≡ (f x && all_true (map f (drop (i + 1) xs)))
  all_rest i x within same = ap (λ ys. all_true (map f ys)) (rest-cons xs i x within same)

  pub all_stops : (i : ℕ) (x : X) → i < length xs → x ≡ get_or xs i x → f x ≡ false → all_true (map f (drop i xs)) ≡ all_true (map f xs) → false ≡ all_true (map f xs)
  all_stops i x within same fails whole =
      sym (ap (λ b. b && all_true (map f (drop (i + 1) xs))) fails) ∙ sym (all_rest i x within same) ∙ whole

  pub all_goes_on : (i : ℕ) (x : X) → i < length xs → x ≡ get_or xs i x → f x ≡ true → all_true (map f (drop i xs)) ≡ all_true (map f xs) → all_true (map f (drop (i + 1) xs)) ≡ all_true (map f xs)
  all_goes_on i x within same passes whole =
      sym (ap (λ b. b && all_true (map f (drop (i + 1) xs))) passes) ∙ sym (all_rest i x within same) ∙ whole

  pub all_ends : (i : ℕ) → length xs ≤ i → all_true (map f (drop i xs)) ≡ all_true (map f xs) → true ≡ all_true (map f xs)
  all_ends i past whole = sym (ap (λ ys. all_true (map f ys)) (drop_all i xs past)) ∙ whole

  -- ---- and one that asks whether one is true

  some_rest : (i : ℕ) (x : X) → i < length xs → x ≡ get_or xs i x → some_true (map f (drop i xs)) ≡ (f x || some_true (map f (drop (i + 1) xs)))
  some_rest i x within same = ap (λ ys. some_true (map f ys)) (rest-cons xs i x within same)

  pub some_stops : (i : ℕ) (x : X) → i < length xs → x ≡ get_or xs i x → f x ≡ true → some_true (map f (drop i xs)) ≡ some_true (map f xs) → true ≡ some_true (map f xs)
  some_stops i x within same passes whole =
      sym (ap (λ b. b || some_true (map f (drop (i + 1) xs))) passes) ∙ sym (some_rest i x within same) ∙ whole

  pub some_goes_on : (i : ℕ) (x : X) → i < length xs → x ≡ get_or xs i x → f x ≡ false → some_true (map f (drop i xs)) ≡ some_true (map f xs) → some_true (map f (drop (i + 1) xs)) ≡ some_true (map f xs)
  some_goes_on i x within same fails whole =
      sym (ap (λ b. b || some_true (map f (drop (i + 1) xs))) fails) ∙ sym (some_rest i x within same) ∙ whole

  pub some_ends : (i : ℕ) → length xs ≤ i → some_true (map f (drop i xs)) ≡ some_true (map f xs) → false ≡ some_true (map f xs)
  some_ends i past whole = sym (ap (λ ys. some_true (map f ys)) (drop_all i xs past)) ∙ whole
