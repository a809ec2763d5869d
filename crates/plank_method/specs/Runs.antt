-- How a run goes over the facts that are claimed at a location: which are left, and which are forced.
use Rattle.std.specs.Prelude.{◌≡◌, ◌⊎◌, ◌↔◌, ℕ, ◌<◌, ◌==◌, Bool, true, false, List, length, slice_get, Option, Some, None, IsTrue}
use Rattle.std.specs.Option.{option_map_or}
use Rattle.plank_bits.specs.Words.{has}
use Rattle.plank_prog.specs.declared.headers.Header.{Header}
use Rattle.plank_prog.specs.declared.methods.Method.{Method}
use Rattle.plank_prog.specs.declared.programs.Program.{Program}
use Rattle.plank_pic.specs.declared.literals.Exit.{Exit}
use Rattle.plank_fact.specs.declared.facts.Fact.{Fact}
use Rattle.plank_fact.specs.Tables.{IsNumbered}
use Rattle.plank_fact.specs.Outlines.{Outline, Point, location_number, mark_number, IsMarkOf}
use Rattle.plank_fact.specs.OwnSteps.{location_after, LeadsTo}
use Rattle.plank_fact.specs.After.{IsAfter, IsAtEntry}
use Rattle.plank_unit.specs.Units.{IsForcedThere}
use Rattle.plank_method.specs.Deciding.{outline_of}

-- ---- steps

abbrev pub is_at : ℕ → Option ℕ → Bool
is_at to None = false
is_at to (Some l) = l == to

-- whether the exit of a location of a method leads to a location
abbrev pub leads : List Method → ℕ → ℕ → Exit → ℕ → Bool
leads methods m from e to =
    option_map_or (λ (method : Method). option_map_or (λ location. is_at to (location_after e location.action)) (slice_get method.locations from) false) (slice_get methods m) false

-- ---- what a location leaves of the facts that are claimed there

-- of some facts of a method those are left that hold, and those that are gone are refuted
pub record IsSifted (h : Header) (m : Method) (before after : ℕ → Bool) (Holds IsGone : Fact → Type 0) : Type 0 where
  pub within : (n : ℕ) → after n ≡ true → before n ≡ true
  pub left : (n : ℕ) (f : Fact) → IsNumbered h m n f → after n ≡ true → Holds f
  pub gone : (n : ℕ) (f : Fact) → IsNumbered h m n f → before n ≡ true → after n ≡ false → IsGone f

-- a call that begins there has the fact
abbrev pub IsHadAtEntry : (O : Outline) → Point O.methods → Fact → Type 0
IsHadAtEntry O x f = x.l ≡ 0 → IsAtEntry O x.method f

-- a call has it after each step that leads there from this location by this exit
abbrev pub IsHadAfter : ℕ → Exit → (O : Outline) → Point O.methods → Fact → Type 0
IsHadAfter l e O x f = (from : Point O.methods) → from.l ≡ l → LeadsTo from e x → IsAfter O from e f

-- by either exit
abbrev pub IsHadAfterBoth : ℕ → (O : Outline) → Point O.methods → Fact → Type 0
IsHadAfterBoth l O x f = (e : Exit) → IsHadAfter l e O x f

-- from each location before this one
abbrev pub IsHadFrom : ℕ → (O : Outline) → Point O.methods → Fact → Type 0
IsHadFrom count O x f = (l : ℕ) → l < count → IsHadAfterBoth l O x f

-- at entry, and after the steps of each location before this one
abbrev pub IsHad : ℕ → (O : Outline) → Point O.methods → Fact → Type 0
IsHad count O x f = IsHadAtEntry O x f × IsHadFrom count O x f

-- what is left at the l-th location of the m-th method holds, and what is gone is refuted there
abbrev pub IsSiftedAt : Program → List ℕ → ℕ → ℕ → List ℕ → List ℕ → (Holds Refutes : (O : Outline) → Point O.methods → Fact → Type 0) → Type 0
IsSiftedAt p marks m l before after Holds Refutes =
    (x : Point p.methods) → x.m ≡ m → x.l ≡ l → IsSifted p.header x.method (has before) (has after) (Holds (outline_of p marks) x) (Refutes (outline_of p marks) x)

-- ---- what is forced

-- the fact of number n is forced at the location: it is marked already, or refuted
pub record IsForcedAt (Refutes : (O : Outline) → Point O.methods → Fact → Type 0) (O : Outline) (x : Point O.methods) (n : ℕ) : Type 0 where
  pub fact : Fact
  pub numbered : IsNumbered O.header x.method n fact
  pub forced : (O.marks (mark_number O.methods x.m x.l n) ≡ true) ⊎ Refutes O x fact

-- just the marks of the facts that are forced at the location of a number were found; of each other fact there this holds
pub record AreFound (p : Program) (marks : List ℕ) (number : ℕ) (found : List ℕ) (Holds Refutes : (O : Outline) → Point O.methods → Fact → Type 0) : Type 0 where
  pub same_length : length found ≡ length marks
  pub forced : (k : ℕ) → IsTrue (has found k) ↔ IsForcedThere p.header p.methods Refutes number (has marks) k
  pub others : (x : Point p.methods) → location_number p.methods x.m x.l ≡ number → (f : Fact) (k : ℕ) → IsMarkOf p.header x f k → has found k ≡ false → Holds (outline_of p marks) x f
