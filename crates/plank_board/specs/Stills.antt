-- Methods that ask nothing more at some marks.
use Rattle.std.specs.Prelude.{◌≡◌, ℕ, ◌<◌, Bool, true}

-- what is still at the marks forces no other there
abbrev pub IsClosing : (ℕ → (ℕ → Bool) → ℕ → Type 0) → (ℕ → (ℕ → Bool) → Type 0) → ℕ → Type 0
IsClosing forces still n = (m k : ℕ) (a : ℕ → Bool) → m < n → still m a → forces m a k → a k ≡ true

-- each of n methods is still at the marks
abbrev pub AreStill : (ℕ → (ℕ → Bool) → Type 0) → ℕ → (ℕ → Bool) → Type 0
AreStill still n a = (m : ℕ) → m < n → still m a
