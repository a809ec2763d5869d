-- Whether each rule of joined lists holds, one list after the other; and rules of lawful pictures from their list.
use Rattle.std.proofs.Common.{◌≡◌, ℕ, zero, suc, ◌+◌, ◌<◌, Bool, true, false, List, [], ◌∷◌, ◌++◌, refl, sym, ◌∙◌, ap, subst, inl, inr, arith, add-one}
use Rattle.std.specs.Prelude.{◌&&◌}
use Rattle.std.specs.List.{list_all}
use Rattle.std.proofs.lemmas.Bool.{cases_eq, and_parts, and_from, true≢false, false_from_ne_true}
use Rattle.std.proofs.lemmas.List.Folds.{list_all-append}
use Rattle.plank_lawful.specs.declared.families.Family.{Family}
use Rattle.plank_lawful.specs.Families.{count, shape_of}
use Rattle.plank_lawful.specs.Lists.{joined, rule, rule_alone, rules_by_third}
use Rattle.plank_whole.specs.declared.wholes.Picture.{Picture}
use Rattle.plank_whole.specs.Wholes.{frame_of}
use Rattle.plank_whole.specs.Judging.{meets}

pub all_joined_none : {X : Type 0} (test : X → Bool) (each : ℕ → List X) → list_all test (joined each 0) ≡ true
unfolding joined
all_joined_none test each = refl

pub all_joined_more : {X : Type 0} (test : X → Bool) (each : ℕ → List X) (i : ℕ) → list_all test (each i) ≡ true → list_all test (joined each i) ≡ true → list_all test (joined each (i + 1)) ≡ true
unfolding joined
all_joined_more test each i now all =
    ap (λ m. list_all test (joined each m)) (add-one i)
    ∙ list_all-append test (joined each i) (each i)
    ∙ and_from (list_all test (joined each i)) (list_all test (each i)) all now

all_joined_at : {X : Type 0} (test : X → Bool) (each : ℕ → List X) (n i : ℕ) → i < n → list_all test (joined each n) ≡ true → list_all test (each i) ≡ true
unfolding joined
all_joined_at test each zero i h all = absurd (omega arith)
all_joined_at test each (suc n) i h all =
    let both = and_parts (list_all test (joined each n)) (list_all test (each n)) (sym (list_all-append test (joined each n) (each n)) ∙ all) in
    elim (cases_eq i n) [
      | inl same ↦ subst (λ m. list_all test (each m) ≡ true) (sym same) both.1
      | inr other ↦ all_joined_at test each n i (omega arith) both.0
    ]

pub one_joined_fails : {X : Type 0} (test : X → Bool) (each : ℕ → List X) (n i : ℕ) → i < n → list_all test (each i) ≡ false → list_all test (joined each n) ≡ false
one_joined_fails test each n i h e = false_from_ne_true (list_all test (joined each n)) (λ all. true≢false (sym (all_joined_at test each n i h all) ∙ e))

pub alone_holds : {X : Type 0} (test : X → Bool) (x : X) → test x ≡ true → list_all test (x ∷ []) ≡ true
alone_holds test x e = ap (λ b. b && true) e

pub alone_fails : {X : Type 0} (test : X → Bool) (x : X) → test x ≡ false → list_all test (x ∷ []) ≡ false
alone_fails test x e = ap (λ b. b && true) e

-- of a list after another, where each of the first holds, or one does not
pub all_first : {X : Type 0} (test : X → Bool) (xs rest : List X) (b : Bool) → list_all test xs ≡ true → list_all test (xs ++ rest) ≡ b → list_all test rest ≡ b
all_first test xs rest b e h = sym (list_all-append test xs rest ∙ ap (λ v. v && list_all test rest) e) ∙ h

pub one_first_fails : {X : Type 0} (test : X → Bool) (xs rest : List X) → list_all test xs ≡ false → list_all test (xs ++ rest) ≡ false
one_first_fails test xs rest e = list_all-append test xs rest ∙ ap (λ v. v && list_all test rest) e

-- six lists after each other
pub six_hold : {X : Type 0} (test : X → Bool) (a b c d e f : List X) →
    list_all test (a ++ b ++ c ++ d ++ e ++ f)
    ≡ (list_all test a && list_all test b && list_all test c && list_all test d && list_all test e && list_all test f)
six_hold test a b c d e f =
    list_all-append test (a ++ b ++ c ++ d ++ e) f
    ∙ ap (λ v. v && list_all test f) (list_all-append test (a ++ b ++ c ++ d) e
    ∙ ap (λ v. v && list_all test e) (list_all-append test (a ++ b ++ c) d
    ∙ ap (λ v. v && list_all test d) (list_all-append test (a ++ b) c
    ∙ ap (λ v. v && list_all test c) (list_all-append test a b))))

-- ---- rules, each of which holds

pub all_joined : {X : Type 0} (test : X → Bool) (each : ℕ → List X) (n : ℕ) → ((i : ℕ) → i < n → list_all test (each i) ≡ true) → list_all test (joined each n) ≡ true
unfolding joined
all_joined test each zero h = refl
all_joined test each (suc n) h =
    list_all-append test (joined each n) (each n)
    ∙ and_from (list_all test (joined each n)) (list_all test (each n)) (all_joined test each n (λ i below. h i (omega arith))) (h n (omega arith))

pub third_meets : (w : Picture) (family : Family) (a b : ℕ) → ((c : ℕ) → meets w (rule family a b c) ≡ true) → list_all (meets w) (rules_by_third (frame_of w) family a b) ≡ true
third_meets w family a b h =
    all_joined (meets w) (rule_alone family a b) (count (frame_of w) (shape_of family).third a) (λ c below. alone_holds (meets w) (rule family a b c) (h c))
