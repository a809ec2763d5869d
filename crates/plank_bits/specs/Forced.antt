-- Marks that methods force at marks that are set already: closed marks, the least closed marks, and rounds.
use Rattle.std.specs.Prelude.{◌≡◌, ◌⊎◌, ◌↔◌, ℕ, suc, ◌<◌, Bool, true, false}
use Rattle.plank_bits.specs.Words.{IsWithin}

-- whether some of n methods forces a mark at the marks a; `forces m a k` says that method m forces the mark k there
abbrev pub IsForced : (ℕ → (ℕ → Bool) → ℕ → Type 0) → ℕ → (ℕ → Bool) → ℕ → Type 0
IsForced forces n a k = (m : ℕ) × (m < n) × forces m a k

-- every mark that is forced at the marks is one of them
abbrev pub IsClosed : (ℕ → (ℕ → Bool) → ℕ → Type 0) → ℕ → (ℕ → Bool) → Type 0
IsClosed forces n a = (k : ℕ) → IsForced forces n a k → a k ≡ true

-- the least closed marks: closed, and within all closed marks
pub record IsLeast (forces : ℕ → (ℕ → Bool) → ℕ → Type 0) (n : ℕ) (a : ℕ → Bool) : Type 0 where
  pub closed : IsClosed forces n a
  pub within : (b : ℕ → Bool) → IsClosed forces n b → IsWithin a b

-- b are the marks a, with all that are forced at a
abbrev pub IsRound : (ℕ → (ℕ → Bool) → ℕ → Type 0) → ℕ → (ℕ → Bool) → (ℕ → Bool) → Type 0
IsRound forces n a b = (k : ℕ) → (b k ≡ true) ↔ ((a k ≡ true) ⊎ IsForced forces n a k)

-- the rounds: no marks at first, and then round after round
pub record AreRounds (forces : ℕ → (ℕ → Bool) → ℕ → Type 0) (n : ℕ) (rounds : ℕ → ℕ → Bool) : Type 0 where
  pub first : (k : ℕ) → rounds 0 k ≡ false
  pub each : (i : ℕ) → IsRound forces n (rounds i) (rounds (suc i))

-- a mark is in the union exactly where it is in some round
abbrev pub IsUnion : (ℕ → ℕ → Bool) → (ℕ → Bool) → Type 0
IsUnion rounds a = (k : ℕ) → (a k ≡ true) ↔ ((i : ℕ) × (rounds i k ≡ true))

-- the more marks there are, the more are forced
abbrev pub IsMonotone : (ℕ → (ℕ → Bool) → ℕ → Type 0) → ℕ → Type 0
IsMonotone forces n = (m k : ℕ) (a b : ℕ → Bool) → m < n → IsWithin a b → forces m a k → forces m b k

-- only marks below the bound are forced
abbrev pub IsBounded : (ℕ → (ℕ → Bool) → ℕ → Type 0) → ℕ → ℕ → Type 0
IsBounded forces n bound = (m k : ℕ) (a : ℕ → Bool) → m < n → forces m a k → k < bound
