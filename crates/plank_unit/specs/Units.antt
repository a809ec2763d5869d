-- The units of a program: what each forces at marks, and where it is still.
use Rattle.std.specs.Prelude.{◌≡◌, ◌⊎◌, ℕ, ◌+◌, ◌*◌, Bool, true, List, sum_by}
use Rattle.plank_bits.specs.Forced.{IsLeast}
use Rattle.plank_prog.specs.declared.headers.Header.{Header}
use Rattle.plank_prog.specs.declared.methods.Method.{Method}
use Rattle.plank_prog.specs.Methods.{location_count}
use Rattle.plank_pic.specs.declared.literals.Literal.{Literal}
use Rattle.plank_pic.specs.declared.literals.Exit.{Exit}
use Rattle.plank_fact.specs.declared.facts.Fact.{Fact}
use Rattle.plank_fact.specs.Outlines.{Outline, Point, location_number, IsMarkOf, IsClaimed}
use Rattle.plank_fact.specs.OwnSteps.{LeadsTo}
use Rattle.plank_fact.specs.After.{IsAfter, IsAtEntry}
use Rattle.plank_fact.specs.Forced.{outline, IsBroken}

-- two for each location
abbrev pub unit_count : List Method → ℕ
unit_count methods = 2 * sum_by location_count methods

-- ---- what a unit looks at

-- the fact is not to be claimed at the location, since a call does not have it where it begins there or after a step that leads there
pub data IsRefutedBySteps (O : Outline) (x : Point O.methods) (f : Fact) : Type 0 where
  at_entry : x.l ≡ 0 → (IsAtEntry O x.method f → ⊥) → IsRefutedBySteps O x f
  after : (from : Point O.methods) (e : Exit) → LeadsTo from e x → (IsAfter O from e f → ⊥) → IsRefutedBySteps O x f

-- a call has it where it begins there, and after each step that leads there
pub record IsHadBySteps (O : Outline) (x : Point O.methods) (f : Fact) : Type 0 where
  pub entry : x.l ≡ 0 → IsAtEntry O x.method f
  pub after : (from : Point O.methods) (e : Exit) → LeadsTo from e x → IsAfter O from e f

-- a step of another call may break the fact, which says what is true now
abbrev pub IsBrokenFact : (O : Outline) → Point O.methods → Fact → Type 0
IsBrokenFact O x f = (L : Literal) × (f ≡ Fact.Now L) × IsBroken O x L

-- no step of another call breaks it
abbrev pub IsKept : (O : Outline) → Point O.methods → Fact → Type 0
IsKept O x f = IsBrokenFact O x f → ⊥

-- ---- what is forced at the location of a number, and what holds there

-- the mark k of a fact of the location is set already, or the fact is refuted there
pub record IsForcedThere (h : Header) (methods : List Method) (Refutes : (O : Outline) → Point O.methods → Fact → Type 0) (number : ℕ) (marks : ℕ → Bool) (k : ℕ) : Type 0 where
  pub at : Point methods
  pub of_number : location_number methods at.m at.l ≡ number
  pub fact : Fact
  pub is : IsMarkOf h at fact k
  pub forced : (marks k ≡ true) ⊎ Refutes (outline h methods marks) at fact

-- this holds of each fact that is claimed at the location
abbrev pub HoldsThere : Header → (methods : List Method) → ((O : Outline) → Point O.methods → Fact → Type 0) → ℕ → (ℕ → Bool) → Type 0
HoldsThere h methods Holds number marks =
    (x : Point methods) → location_number methods x.m x.l ≡ number → (f : Fact) → IsClaimed (outline h methods marks) x f → Holds (outline h methods marks) x f

-- ---- units, by their numbers: those of a location follow one another, first the one by own steps

pub data UnitForces (h : Header) (methods : List Method) (unit : ℕ) (marks : ℕ → Bool) (k : ℕ) : Type 0 where
  by_steps : (number : ℕ) → unit ≡ 2 * number → IsForcedThere h methods IsRefutedBySteps number marks k → UnitForces h methods unit marks k
  by_others : (number : ℕ) → unit ≡ 2 * number + 1 → IsForcedThere h methods IsBrokenFact number marks k → UnitForces h methods unit marks k

-- what it looks at holds of each claim
pub record UnitIsStill (h : Header) (methods : List Method) (unit : ℕ) (marks : ℕ → Bool) : Type 0 where
  pub steps : (number : ℕ) → unit ≡ 2 * number → HoldsThere h methods IsHadBySteps number marks
  pub others : (number : ℕ) → unit ≡ 2 * number + 1 → HoldsThere h methods IsKept number marks
