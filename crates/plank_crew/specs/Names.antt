-- That a board's name is the name of a forcing.
use Rattle.std.specs.Prelude.{◌≡◌, ◌↔◌, ℕ, Bool}

-- the methods and words of a name are those of a forcing, and each method forces the same and is still at the same marks
pub record IsNameOf (named named_words : ℕ) (named_forces : ℕ → (ℕ → Bool) → ℕ → Type 0) (named_still : ℕ → (ℕ → Bool) → Type 0) (count size : ℕ) (found : ℕ → (ℕ → Bool) → ℕ → Type 0) (at_rest : ℕ → (ℕ → Bool) → Type 0) : Type 0 where
  pub methods : named ≡ count
  pub words : named_words ≡ size
  pub forces : (m : ℕ) (marks : ℕ → Bool) (k : ℕ) → named_forces m marks k ↔ found m marks k
  pub still : (m : ℕ) (marks : ℕ → Bool) → named_still m marks ↔ at_rest m marks
