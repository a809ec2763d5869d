-- A walk along targets, move by move: what was passed so far and what is still to come make the whole.
use Rattle.std.proofs.Common.{◌≡◌, ℕ, zero, suc, ◌+◌, ◌-◌, ◌<◌, ◌≤◌, Bool, true, false, List, [], ◌∷◌, ◌++◌, refl, sym, ◌∙◌, ap, subst, append_assoc, arith}
use Rattle.std.specs.Prelude.{◌||◌}
use Rattle.plank_pic.specs.declared.parts.Target.{Target}
use Rattle.plank_pic.specs.declared.parts.Outcome.{Outcome}
use Rattle.plank_pic.specs.Outcomes.{outcome_by, outcome_after, enters_by, enters_after}
use Rattle.plank_walk.specs.Walks.{path_by, path_after}

pub record IsWalking (to : ℕ → Target) (n start moved at : ℕ) (path : List ℕ) (entered : Bool) : Type 0 where
  pub passed : path ++ path_by to (n - moved) at ≡ path_by to n start
  pub ending : outcome_by to (n - moved) at ≡ outcome_by to n start
  pub entering : (entered || enters_by to (n - moved) at) ≡ enters_by to n start

-- one more move
abbrev pub left_over : (n moved : ℕ) → moved < n → n - moved ≡ suc (n - (moved + 1))
left_over n moved h = omega arith

path_on : (to : ℕ → Target) (n moved at : ℕ) → moved < n → path_by to (n - moved) at ≡ path_after (path_by to (n - (moved + 1))) at (to at)
unfolding path_by
path_on to n moved at h = ap (λ k. path_by to k at) (left_over n moved h)

outcome_on : (to : ℕ → Target) (n moved at : ℕ) → moved < n → outcome_by to (n - moved) at ≡ outcome_after (outcome_by to (n - (moved + 1))) at (to at)
unfolding outcome_by
outcome_on to n moved at h = ap (λ k. outcome_by to k at) (left_over n moved h)

enters_on : (to : ℕ → Target) (n moved at : ℕ) → moved < n → enters_by to (n - moved) at ≡ enters_after (enters_by to (n - (moved + 1))) (to at)
unfolding enters_by
enters_on to n moved at h = ap (λ k. enters_by to k at) (left_over n moved h)

or_true : (b : Bool) → (b || true) ≡ true
or_true true = refl
or_true false = refl

or_false : (b : Bool) → (b || false) ≡ b
or_false true = refl
or_false false = refl

-- nothing is passed yet
pub walk_begins : (to : ℕ → Target) (n start : ℕ) → IsWalking to n start 0 start [] false
walk_begins to n start = record {
  passed = ap (λ k. path_by to k start) (none_less n);
  ending = ap (λ k. outcome_by to k start) (none_less n);
  entering = ap (λ k. enters_by to k start) (none_less n);
}
  where
    none_less : (n : ℕ) → n - 0 ≡ n
    none_less n = omega arith

module _ (to : ℕ → Target) (n start moved at : ℕ) (path : List ℕ) (entered : Bool) (is : IsWalking to n start moved at path entered) (more : moved < n) where
  joined : (rest : List ℕ) → (path ++ at ∷ []) ++ rest ≡ path ++ (at ∷ rest)
  joined rest = append_assoc path (at ∷ []) rest

  -- to a named node
  pub walk_goes : (j : ℕ) → to at ≡ Target.To j → IsWalking to n start (moved + 1) j (path ++ at ∷ []) entered
  walk_goes j e = record {
    passed = joined (path_by to (n - (moved + 1)) j) ∙ ap (λ ps. path ++ ps) (sym (path_on to n moved at more ∙ ap (path_after (path_by to (n - (moved + 1))) at) e)) ∙ is.passed;
    ending = sym (outcome_on to n moved at more ∙ ap (outcome_after (outcome_by to (n - (moved + 1))) at) e) ∙ is.ending;
    entering = ap (λ b. entered || b) (sym (enters_on to n moved at more ∙ ap (enters_after (enters_by to (n - (moved + 1)))) e)) ∙ is.entering;
  }

  -- through a chain
  pub walk_jumps : (q : ℕ) → to at ≡ Target.Jumps q → IsWalking to n start (moved + 1) q (path ++ at ∷ []) true
  walk_jumps q e = record {
    passed = joined (path_by to (n - (moved + 1)) q) ∙ ap (λ ps. path ++ ps) (sym (path_on to n moved at more ∙ ap (path_after (path_by to (n - (moved + 1))) at) e)) ∙ is.passed;
    ending = sym (outcome_on to n moved at more ∙ ap (outcome_after (outcome_by to (n - (moved + 1))) at) e) ∙ is.ending;
    entering = sym (or_true entered) ∙ ap (λ b. entered || b) (sym (enters_on to n moved at more ∙ ap (enters_after (enters_by to (n - (moved + 1)))) e)) ∙ is.entering;
  }

  -- the last move
  pub path_whole : path_after (path_by to (n - (moved + 1))) at (to at) ≡ at ∷ [] → path_by to n start ≡ path ++ at ∷ []
  path_whole e = sym is.passed ∙ ap (λ ps. path ++ ps) (path_on to n moved at more ∙ e)

  pub end_whole : (o : Outcome) → outcome_after (outcome_by to (n - (moved + 1))) at (to at) ≡ o → outcome_by to n start ≡ o
  end_whole o e = sym is.ending ∙ outcome_on to n moved at more ∙ e

  pub entered_whole : (b : Bool) → enters_after (enters_by to (n - (moved + 1))) (to at) ≡ b → enters_by to n start ≡ (entered || b)
  entered_whole b e = sym is.entering ∙ ap (λ c. entered || c) (enters_on to n moved at more ∙ e)

  pub not_entered : enters_after (enters_by to (n - (moved + 1))) (to at) ≡ false → enters_by to n start ≡ entered
  not_entered e = entered_whole false e ∙ or_false entered

  pub now_entered : enters_after (enters_by to (n - (moved + 1))) (to at) ≡ true → enters_by to n start ≡ true
  now_entered e = entered_whole true e ∙ or_true entered

-- as many moves as there are names
module _ (to : ℕ → Target) (n start moved at : ℕ) (path : List ℕ) (entered : Bool) (is : IsWalking to n start moved at path entered) (over : n ≤ moved) where
  none_left : n - moved ≡ 0
  none_left = omega arith

  append_none : (xs : List ℕ) → xs ++ [] ≡ xs
  append_none [] = refl
  append_none (x ∷ xs) = ap (λ ys. x ∷ ys) (append_none xs)

  pub path_over : path_by to n start ≡ path
  unfolding path_by
  path_over = sym is.passed ∙ ap (λ k. path ++ path_by to k at) none_left ∙ append_none path

  pub end_over : outcome_by to n start ≡ Outcome.Cycles
  unfolding outcome_by
  end_over = sym is.ending ∙ ap (λ k. outcome_by to k at) none_left

  pub entered_over : enters_by to n start ≡ entered
  unfolding enters_by
  entered_over = sym is.entering ∙ ap (λ k. entered || enters_by to k at) none_left ∙ or_false entered
