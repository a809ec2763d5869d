-- What follows by hindsight, from past facts and from what is true in each of the pictures: by one use of the rule, and by
-- uses one after the other.
use Rattle.std.specs.Prelude.{◌≡◌, ◌⊎◌, ℕ, ◌<◌, Bool, true, List, slice_get, Option, Some, None, Contains}
use Rattle.plank_prog.specs.declared.headers.Header.{Header}
use Rattle.plank_prog.specs.declared.methods.Method.{Method}
use Rattle.plank_pic.specs.declared.literals.Literal.{Literal}
use Rattle.plank_fact.specs.declared.facts.Fact.{Fact}
use Rattle.plank_fact.specs.Tables.{IsNumbered, IsFactOf}
use Rattle.plank_fact.specs.Outlines.{Outline}
use Rattle.plank_fact.specs.Hindsight.{IsHindsight}

-- by one use, where the listed literals are true and last
abbrev pub IsGiven : Outline → Method → List Literal → Literal → Option Literal → Literal → Type 0
IsGiven O m lasting past now = IsHindsight O m (λ L. Contains lasting L) past now

-- with one of the first listed literals as what is true now
abbrev pub IsGivenBelow : Outline → Method → (lasting presents : List Literal) → Literal → ℕ → Literal → Type 0
IsGivenBelow O m lasting presents past count C =
    IsGiven O m lasting past None C ⊎ ((i : ℕ) × (b : Literal) × (i < count) × (slice_get presents i ≡ Some b) × IsGiven O m lasting past (Some b) C)

-- with nothing, or with some listed literal as what is true now
abbrev pub IsFollowing : Outline → Method → (lasting presents : List Literal) → Literal → Literal → Type 0
IsFollowing O m lasting presents past C =
    IsGiven O m lasting past None C ⊎ ((b : Literal) × Contains presents b × IsGiven O m lasting past (Some b) C)

-- from the past fact of a number
abbrev pub IsFollowingFrom : Outline → Method → (lasting presents : List Literal) → ℕ → Literal → Type 0
IsFollowingFrom O m lasting presents n C = (P : Literal) × IsNumbered O.header m n (Fact.Past P) × IsFollowing O m lasting presents P C

-- by uses one after the other, from past facts whose numbers are in a set
pub data Follows (O : Outline) (m : Method) (lasting presents : List Literal) (start : ℕ → Bool) : Literal → Type 0 where
  begins : {C : Literal} (n : ℕ) → IsNumbered O.header m n (Fact.Past C) → start n ≡ true → Follows O m lasting presents start C
  goes_on : {C : Literal} → IsFactOf O.header m (Fact.Past C) → (past : Literal) → Follows O m lasting presents start past
      → IsFollowing O m lasting presents past C → Follows O m lasting presents start C

-- ---- sets of numbers

-- the past facts of which this holds are added, and no others
pub record AddsPast (h : Header) (m : Method) (Added : Literal → Type 0) (old new : ℕ → Bool) : Type 0 where
  pub kept : (k : ℕ) → old k ≡ true → new k ≡ true
  pub added : (k : ℕ) (C : Literal) → IsNumbered h m k (Fact.Past C) → Added C → new k ≡ true
  pub only : (k : ℕ) → new k ≡ true → (old k ≡ true) ⊎ ((C : Literal) × IsNumbered h m k (Fact.Past C) × Added C)

-- all wanted past facts that follow are found, and none that does not
pub record AreFollowing (O : Outline) (m : Method) (lasting presents : List Literal) (start wanted found : ℕ → Bool) : Type 0 where
  pub kept : (k : ℕ) → start k ≡ true → found k ≡ true
  pub only : (k : ℕ) → found k ≡ true → (start k ≡ true) ⊎ ((C : Literal) × IsNumbered O.header m k (Fact.Past C) × Follows O m lasting presents start C)
  pub all : (k : ℕ) (C : Literal) → wanted k ≡ true → IsNumbered O.header m k (Fact.Past C) → Follows O m lasting presents start C → found k ≡ true
