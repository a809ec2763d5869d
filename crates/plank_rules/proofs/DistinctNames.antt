-- Names without repetitions are the same names.
use Rattle.std.proofs.Common.{◌≡◌, ℕ, Bool, true, false, ◌||◌, if◌then◌else◌, List, [], ◌∷◌, ◌++◌, map, fold, refl, ap, sym, ◌∙◌, rules}
use Rattle.std.proofs.lemmas.Cmp.{nat_list_eq_equiv}
use Rattle.std.proofs.lemmas.Map.Steps.{list_any_congr}
use Rattle.std.proofs.lemmas.List.Folds.{list_any-append}
use Rattle.plank_rules.specs.Declarations.{same_name, is_among, with_name, distinct}
use Rattle.plank_rules.specs.Occurrences.{Occurrence, labels_of}

-- a name that is equal to one of them is one of them
equal_is_among : (names : List (List ℕ)) (l n : List ℕ) → is_among names l ≡ true → (test : Bool) → same_name n l ≡ test → is_among names n ≡ (is_among names n || test)
equal_is_among names l n here true same = let e = list_any_congr nat_list_eq_equiv n l names same in rw (e ∙ here) refl
equal_is_among names l n here false same = grind rules

or_false : (b : Bool) → (b || false) ≡ b
or_false true = refl
or_false false = refl

or_assoc : (a b c : Bool) → ((a || b) || c) ≡ (a || (b || c))
or_assoc true b c = refl
or_assoc false b c = refl

joined : (names : List (List ℕ)) (l n : List ℕ) (here : Bool) → is_among names l ≡ here → is_among (if here then names else names ++ l ∷ []) n ≡ (is_among names n || same_name n l)
joined names l n true here = equal_is_among names l n here (same_name n l) refl
joined names l n false here = list_any-append (same_name n) names (l ∷ []) ∙ ap (λ b. is_among names n || b) (or_false (same_name n l))

among-with_name : (names : List (List ℕ)) (l n : List ℕ) → is_among (with_name names l) n ≡ (is_among names n || same_name n l)
among-with_name names l n = joined names l n (is_among names l) refl

among-fold : (names xs : List (List ℕ)) (n : List ℕ) → is_among (fold with_name names xs) n ≡ (is_among names n || is_among xs n)
among-fold names [] n = sym (or_false (is_among names n))
among-fold names (x ∷ xs) n =
    among-fold (with_name names x) xs n ∙ ap (λ b. b || is_among xs n) (among-with_name names x n)
    ∙ or_assoc (is_among names n) (same_name n x) (is_among xs n)

pub among-distinct : (xs : List (List ℕ)) (n : List ℕ) → is_among (distinct xs) n ≡ is_among xs n
among-distinct xs n = among-fold [] xs n

-- the labels of occurrences that are made of parts
pub labels-map : {X : Type 0} (occurs : X → Occurrence) (xs : List X) → labels_of (map occurs xs) ≡ map (λ x. (occurs x).label) xs
labels-map occurs [] = refl
labels-map occurs (x ∷ xs) = ap (λ rest. (occurs x).label ∷ rest) (labels-map occurs xs)
