-- What is known of a picture, and what an answer found in it tells. Each evaluator's contract says `Settles`.
use Rattle.std.specs.Prelude.{◌≡◌, ℕ, Bool, Option, Some, None, Result, Ok, Err}

-- a full assignment of the things that a reader reads, by their numbers, that agrees with what is known of them
pub record Agrees (known : ℕ → Option Bool) (full : ℕ → Bool) : Type 0 where
  pub decided : (n : ℕ) (b : Bool) → known n ≡ Some b → full n ≡ b

-- the value that something of this meaning has at each full assignment that agrees, or the number of an open thing
abbrev pub Settles : {A : Type 0} → ((ℕ → Bool) → A) → (ℕ → Option Bool) → Result A ℕ → Type 0
Settles meaning known (Ok a) = (full : ℕ → Bool) → Agrees known full → meaning full ≡ a
Settles meaning known (Err n) = known n ≡ None
