-- What a step carries along: names that stay those of nodes, and past facts of them.
use Rattle.std.specs.Prelude.{◌≡◌, ◌↔◌, ◌⊎◌, ℕ, ◌+◌, ◌*◌, ◌/◌, ◌%◌, ◌<◌, Bool, true, false, List, length, slice_get, Some}
use Rattle.plank_pic.specs.declared.literals.Literal.{Literal}
use Rattle.plank_pic.specs.declared.literals.Exit.{Exit}
use Rattle.plank_pic.specs.Pictures.{Picture}
use Rattle.plank_pic.specs.Steps.{Source, Of}
use Rattle.plank_pic.specs.Steps as steps
use Rattle.plank_pic.specs.Blocks.{Turn, source}
use Rattle.plank_step.specs.declared.turns.Origin.{Origin}
use Rattle.plank_fact.specs.declared.facts.Fact.{Fact}
use Rattle.plank_fact.specs.Literals.{said_of}
use Rattle.plank_fact.specs.Tables.{name_at, IsNumbered}
use Rattle.plank_fact.specs.Outlines.{Outline, Point, IsClaimed}
use Rattle.plank_fact.specs.OwnSteps.{turn_at, IsOwnStep}
use Rattle.plank_fact.specs.After.{named_before, IsCarried}
use Rattle.plank_query.specs.declared.goals.Goal.{Goal}
use Rattle.plank_query.specs.declared.goals.Moment.{Moment}
use Rattle.plank_query.specs.declared.predicates.Predicate.{Predicate}

-- ---- names

-- after each step of the location by the exit, a name names what another named before
abbrev pub Stays : (O : Outline) → Point O.methods → Exit → ℕ → ℕ → Type 0
Stays O x e from to = (p after : Picture) → IsOwnStep O x e p after → named_before p (source (turn_at O x e) to) from ≡ true

-- a set has the pairs of names, as numbers, of which this is not so
abbrev pub AreMoves : (O : Outline) → Point O.methods → Exit → ℕ → (ℕ → Bool) → Type 0
AreMoves O x e names moved = (from to : ℕ) → from < names → to < names → (moved (from * names + to) ≡ false) ↔ Stays O x e from to

-- where a name comes from, as questions have it
abbrev pub origin_of : Source → Origin
origin_of (Of n) = Origin.Name n
origin_of steps.Null = Origin.Null
origin_of steps.Fresh = Origin.Fresh

-- in some step the name does not name what the other did
abbrev pub move_goal : Turn → ℕ → ℕ → Goal
move_goal t from to = Goal.Fails Moment.Before (Predicate.NamedBefore (origin_of (source t to)) from)

-- the goals of all pairs of names
pub record AreMoveGoals (t : Turn) (names : ℕ) (goals : List Goal) : Type 0 where
  pub count : length goals ≡ names * names
  pub each : (k : ℕ) → k < names * names → slice_get goals k ≡ Some (move_goal t (k / names) (k % names))

-- ---- past facts

-- it is claimed of one name, and another names what that did
abbrev pub IsCarriedFrom : (O : Outline) → Point O.methods → Exit → Literal → ℕ → ℕ → Type 0
IsCarriedFrom O x e L to from = IsClaimed O x (Fact.Past (said_of (name_at from) L)) × Stays O x e from to

-- the same of one of the first names
abbrev pub IsCarriedBelow : (O : Outline) → Point O.methods → Exit → Literal → ℕ → ℕ → Type 0
IsCarriedBelow O x e L to count = (from : ℕ) × (from < count) × IsCarriedFrom O x e L to from

-- the past facts that are carried are just those of a set
abbrev pub AreCarried : (O : Outline) → Point O.methods → Exit → (ℕ → Bool) → Type 0
AreCarried O x e set = (n : ℕ) (L : Literal) → IsNumbered O.header x.method n (Fact.Past L) → (set n ≡ true) ↔ IsCarried O x e L

-- those of a set are carried; and all that are carried are in it, if some wanted one is not
pub record AreEnough (O : Outline) (x : Point O.methods) (e : Exit) (wanted set : ℕ → Bool) : Type 0 where
  pub carried : (n : ℕ) (L : Literal) → IsNumbered O.header x.method n (Fact.Past L) → set n ≡ true → IsCarried O x e L
  pub all : (n : ℕ) (L : Literal) → IsNumbered O.header x.method n (Fact.Past L) → wanted n ≡ true → (set n ≡ true) ⊎ AreCarried O x e set
