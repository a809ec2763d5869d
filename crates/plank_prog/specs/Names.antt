-- Lists in which each part may stand beside each other one.
use Rattle.std.specs.Prelude.{ℕ, Bool, true, not, ◌&&◌, ◌==◌, List, [], ◌∷◌}
use Rattle.std.specs.List.{list_all}
use lib.Pointwise.{pointwise}

-- whether a test holds of each item and each later one
abbrev pub all_pairs : {X : Type 0} → (X → X → Bool) → List X → Bool
all_pairs test [] = true
all_pairs test (x ∷ xs) = list_all (test x) xs && all_pairs test xs

-- whether two names differ
abbrev pub names_differ : List ℕ → List ℕ → Bool
names_differ a b = not (pointwise ◌==◌ a b)
