-- Lists that grow at their end, and pairs of numbers as numbers.
use Rattle.std.specs.Prelude.{◌≡◌, ℕ, zero, suc, ◌+◌, ◌*◌, ◌/◌, ◌%◌, ◌<◌, ◌≤◌, List, [], ◌∷◌, ◌++◌, length, slice_get, Some}
use Rattle.std.proofs.Common.{refl, sym, ◌∙◌, ap, subst, inl, inr, arith}
use Rattle.std.proofs.lemmas.Bool.{cases_eq}
use Rattle.std.proofs.lemmas.List.{length_push}
use Rattle.std.proofs.lemmas.Nat.{div-mul-add, mod-mul-add}
use Rattle.std.proofs.Math.Nat.{mul-le-mul_right, suc-mul}
use Rattle.plank_pic.specs.Blocks.{Turn}
use Rattle.plank_query.specs.declared.goals.Goal.{Goal}
use Rattle.plank_trans.specs.Carried.{move_goal, AreMoveGoals}

module _ {A : Type 0} where
  before_push : (xs : List A) (y : A) (k : ℕ) → k < length xs → slice_get (xs ++ y ∷ []) k ≡ slice_get xs k
  before_push [] y k below = absurd (omega (arith, below))
  before_push (x ∷ xs) y zero below = refl
  before_push (x ∷ xs) y (suc k) below = before_push xs y k (omega (arith, below))

  at_push : (xs : List A) (y : A) → slice_get (xs ++ y ∷ []) (length xs) ≡ Some y
  at_push [] y = refl
  at_push (x ∷ xs) y = at_push xs y

-- the goals of the first pairs
pub record AreMovesBelow (t : Turn) (names count : ℕ) (goals : List Goal) : Type 0 where
  pub as_many : length goals ≡ count
  pub each : (k : ℕ) → k < count → slice_get goals k ≡ Some (move_goal t (k / names) (k % names))

module _ (t : Turn) (names : ℕ) where
  pub no_pairs : (goals : List Goal) → goals ≡ [] → AreMovesBelow t names 0 goals
  no_pairs goals none = record { as_many = ap length none; each = λ k below. absurd (omega (arith, below)) }

  pub one_pair : (count : ℕ) (goals more : List Goal) (g : Goal) → AreMovesBelow t names count goals → more ≡ goals ++ g ∷ [] → g ≡ move_goal t (count / names) (count % names) → AreMovesBelow t names (count + 1) more
  one_pair count goals more g so is looks = record {
    as_many = ap length is ∙ length_push goals g ∙ ap (λ n. n + 1) so.as_many;
    each = λ k below. elim (cases_eq k count) [
      | inl same ↦
          ap (λ xs. slice_get xs k) is ∙ ap (slice_get (goals ++ g ∷ [])) (same ∙ sym so.as_many) ∙ at_push goals g ∙ ap Some looks
          ∙ ap (λ n. Some (move_goal t (n / names) (n % names))) (sym same)
      | inr other ↦
          let less : k < count = omega (arith, below, other) in
          ap (λ xs. slice_get xs k) is ∙ before_push goals g k (subst (λ n. k < n) (sym so.as_many) less) ∙ so.each k less
    ];
  }

  pub all_pairs : (count : ℕ) (goals : List Goal) → AreMovesBelow t names count goals → count ≡ names * names → AreMoveGoals t names goals
  all_pairs count goals so all = record {
    count = so.as_many ∙ all;
    each = λ k below. so.each k (subst (λ n. k < n) (sym all) below);
  }

  pub pair_below : (from to : ℕ) → from < names → to < names → from * names + to < names * names
  pair_below from to a b =
      let rows : suc from * names ≤ names * names = mul-le-mul_right names a in
      let row : suc from * names ≡ from * names + names = suc-mul from names in
      omega (arith, rows, row, b)

  -- the goal of a pair
  pub pair_goal : (goals : List Goal) → AreMoveGoals t names goals → (from to : ℕ) → from < names → to < names → slice_get goals (from * names + to) ≡ Some (move_goal t from to)
  pair_goal goals so from to a b =
      so.each (from * names + to) (pair_below from to a b)
      ∙ ap (λ i. Some (move_goal t i ((from * names + to) % names))) (div-mul-add from names to b)
      ∙ ap (λ j. Some (move_goal t from j)) (mod-mul-add from names to b)
