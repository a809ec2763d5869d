-- What is where an outcome comes to; names of one node walk alike; a picture is what it says of the parts of its frame.
use Rattle.std.proofs.Common.{◌≡◌, ℕ, zero, suc, ◌<◌, Bool, true, false, List, [], ◌∷◌, length, Option, Some, None, refl, sym, ◌∙◌, ap, subst, arith}
use Rattle.std.specs.Prelude.{◌||◌, ◌&&◌, unwrap_or}
use Rattle.std.proofs.lemmas.Bool.{true≢false, and_from, false_from_ne_true}
use Rattle.std.proofs.lemmas.Option.{none-some}
use Rattle.plank_pic.specs.declared.parts.KeyName.{KeyName}
use Rattle.plank_pic.specs.declared.parts.Part.{Part}
use Rattle.plank_pic.specs.declared.parts.Target.{Target}
use Rattle.plank_pic.specs.declared.parts.Outcome.{Outcome}
use Rattle.plank_pic.specs.Frames.{Frame}
use Rattle.plank_pic.specs.Below.{least_below, found_or}
use Rattle.plank_pic.specs.Pictures.{Picture, target}
use Rattle.plank_pic.specs.Outcomes.{outcome, outcome_by, outcome_after, passes, passes_by, enters_by, first_name, is_same}
use Rattle.plank_pic.specs.Steps.{enters}
use Rattle.plank_pic.specs.Lawful.{part_fits, IsPicture}
use Rattle.plank_pic.proofs.Below.{least_none}
use Rattle.plank_pic.proofs.EachName.{told}
use Rattle.plank_walk.specs.Walks.{path_by, path_after}
use Rattle.plank_walk.specs.Laws.{ComesTo, WalkAlike}

-- ---- outcomes

abbrev Comes : (ℕ → Target) → ℕ → ℕ → Outcome → Type 0
Comes to n i (Outcome.EndsAt j) = to j ≡ Target.Ends
Comes to n i (Outcome.StopsIn y q s) = (m : ℕ) × (to m ≡ Target.Stops y q s)
Comes to n i (Outcome.Leaves x) = (m : ℕ) × (to m ≡ Target.Out x)
Comes to n i Outcome.Cycles = length (path_by to n i) ≡ n

-- one move before a walk that comes to this
moved : (to : ℕ → Target) (n i j : ℕ) (o : Outcome) → path_by to (suc n) i ≡ i ∷ path_by to n j → Comes to n j o → Comes to (suc n) i o
moved to n i j (Outcome.EndsAt e) path is = is
moved to n i j (Outcome.StopsIn y q s) path is = is
moved to n i j (Outcome.Leaves x) path is = is
moved to n i j Outcome.Cycles path is = ap length path ∙ ap suc is

comes : (to : ℕ → Target) (n i : ℕ) → Comes to n i (outcome_by to n i)
unfolding outcome_by path_by
comes to zero i = refl
comes to (suc n) i = by_target (λ j. comes to n j) (to i) refl
  where
    by_target : ((j : ℕ) → Comes to n j (outcome_by to n j)) → (t : Target) → to i ≡ t → Comes to (suc n) i (outcome_after (outcome_by to n) i t)
    by_target rec Target.Ends e = e
    by_target rec (Target.To j) e = moved to n i j (outcome_by to n j) (ap (path_after (path_by to n) i) e) (rec j)
    by_target rec (Target.Out x) e = (i, e)
    by_target rec (Target.Stops y q s) e = (i, e)
    by_target rec (Target.Jumps q) e = moved to n i q (outcome_by to n q) (ap (path_after (path_by to n) i) e) (rec q)

pub comes_to : (F : Frame) (p : Picture) (k : KeyName) (i : ℕ) → ComesTo F p k i (outcome F p k i)
comes_to F p k i = by_outcome (outcome F p k i) (comes (target F p k) F.names (first_name F p i))
  where
    by_outcome : (o : Outcome) → Comes (target F p k) F.names (first_name F p i) o → ComesTo F p k i o
    by_outcome (Outcome.EndsAt j) is = is
    by_outcome (Outcome.StopsIn y q s) is = is
    by_outcome (Outcome.Leaves x) is = is
    by_outcome Outcome.Cycles is = is

-- ---- names of one node

least_alike : (t u : ℕ → Bool) (n : ℕ) → ((i : ℕ) → i < n → t i ≡ u i) → least_below t n ≡ least_below u n
unfolding least_below
least_alike t u zero h = refl
least_alike t u (suc n) h = ap (found_or n (t n)) (least_alike t u n (λ i below. h i (omega arith))) ∙ ap (λ b. found_or n b (least_below u n)) (h n (omega arith))

module _ (F : Frame) (p : Picture) (is : IsPicture F p) (i j : ℕ) (bi : i < F.names) (bj : j < F.names) (same : p (Part.Same i j) ≡ true) where
  same_tests : (m : ℕ) → m < F.names → is_same p i m ≡ is_same p j m
  same_tests m bm = by_bits (p (Part.Same i m)) (p (Part.Same j m)) refl refl
    where
      back : p (Part.Same j i) ≡ true
      back = told (p (Part.Same i j)) (p (Part.Same j i)) (is.symmetric i j bi bj) same

      by_bits : (a b : Bool) → p (Part.Same i m) ≡ a → p (Part.Same j m) ≡ b → p (Part.Same i m) ≡ p (Part.Same j m)
      by_bits true b e d = e ∙ sym (told (p (Part.Same j i) && p (Part.Same i m)) (p (Part.Same j m)) (is.transitive j i m bj bi bm) (and_from _ _ back e))
      by_bits false true e d = absurd (true≢false (sym (told (p (Part.Same i j) && p (Part.Same j m)) (p (Part.Same i m)) (is.transitive i j m bi bj bm) (and_from _ _ same d)) ∙ e))
      by_bits false false e d = e ∙ sym d

  one_first : first_name F p i ≡ first_name F p j
  one_first = by_least (least_below (is_same p i) F.names) refl
    where
      by_least : (o : Option ℕ) → least_below (is_same p i) F.names ≡ o → first_name F p i ≡ first_name F p j
      by_least (Some m) e = ap (λ o. unwrap_or o i) e ∙ sym (ap (λ o. unwrap_or o j) (sym (least_alike (is_same p i) (is_same p j) F.names same_tests) ∙ e))
      by_least None e = absurd (true≢false (sym same ∙ least_none (is_same p i) F.names e j bj))

  pub walk_alike : (k : KeyName) → WalkAlike F p k i j
  walk_alike k = record {
    end = ap (outcome_by (target F p k) F.names) one_first;
    entered = ap (enters_by (target F p k) F.names) one_first;
    passed = λ m. ap (passes_by (target F p k) (λ a. p (Part.Same a m)) F.names) one_first;
  }

-- ---- a picture is what it says of its frame

pub frame_decides : (F : Frame) (p r : Picture) → IsPicture F p → IsPicture F r → ((part : Part) → part_fits F part ≡ true → p part ≡ r part) → p ≡ r
frame_decides F p r is also agree = λ i part. each part i
  where
    by_fit : (part : Part) (b : Bool) → part_fits F part ≡ b → p part ≡ r part
    by_fit part true e = agree part e
    by_fit part false e = is.fits part e ∙ sym (also.fits part e)

    each : (part : Part) → p part ≡ r part
    each part = by_fit part (part_fits F part) refl
