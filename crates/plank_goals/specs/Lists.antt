-- Lists that are put together of lists, one for each number below a bound.
use Rattle.std.specs.Prelude.{ℕ, zero, suc, List, [], ◌∷◌, ◌++◌, Option, Some, None}

unfoldable pub gathered : {A : Type 0} → (ℕ → List A) → ℕ → List A
gathered of zero = []
gathered of (suc n) = gathered of n ++ of n

abbrev pub listed : {A : Type 0} → Option A → List A
listed None = []
listed (Some a) = a ∷ []
