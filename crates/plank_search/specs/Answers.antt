-- What the answers of a look, of a step of the search and of the search itself say.
use Rattle.std.specs.Prelude.{◌≡◌, ◌<◌, ℕ, Bool, true, false, List, length, Option, Some, None}
use Rattle.plank_search.specs.Assignments.{Agrees, IsOpen, full_of, NoneAgrees, AllAgree, Narrows, open_count}
use Rattle.plank_search.specs.declared.rules.Look.{Look}
use Rattle.plank_search.specs.declared.rules.Look.TheVariants.{Fails, Holds, Needs}
use Rattle.plank_search.specs.Meanings.{literal_holds, clause_holds, claims_hold, some_goal}
use Rattle.plank_search.specs.declared.clauses.Literal.{Literal}
use Rattle.plank_search.specs.declared.steps.Step.{Step}
use Rattle.plank_search.specs.declared.steps.Step.TheVariants as step
use Rattle.plank_search.specs.declared.steps.Standing.{Standing}
use Rattle.plank_search.specs.declared.steps.Standing.TheVariants as standing

-- a look at something of this meaning: it is false, or true, of all that agree, or it needs an open part
abbrev pub Tells : ((ℕ → Bool) → Type 0) → List (Option Bool) → Look → Type 0
Tells meets values Fails = NoneAgrees meets values
Tells meets values Holds = AllAgree meets values
Tells meets values (Needs part) = IsOpen values part

-- a propagation: the new values follow from the old, or nothing of this kind agrees with the old
abbrev pub Propagates : ((ℕ → Bool) → Type 0) → List (Option Bool) → List (Option Bool) → Bool → Type 0
Propagates meets old new true = Narrows meets old new
Propagates meets old new false = NoneAgrees meets old

-- a step: a conflict, nothing new, or new values with fewer open parts
abbrev pub Steps : ((ℕ → Bool) → Type 0) → List (Option Bool) → List (Option Bool) → Step → Type 0
Steps meets old new step.Conflict = NoneAgrees meets old
Steps meets old new step.Kept = new ≡ old
Steps meets old new step.Narrowed = Narrows meets old new × (open_count new < open_count old)

-- a probe of a part at a value: where it fails, nothing of this kind agrees and gives the part this value
abbrev pub Probes : ((ℕ → Bool) → Type 0) → List (Option Bool) → ℕ → Bool → Look → Type 0
Probes meets values part value Fails = (full : ℕ → Bool) → meets full → Agrees values full → full part ≡ value → ⊥
Probes meets values part value Holds = Unit {0}
Probes meets values part value (Needs other) = Unit {0}

-- values that follow nothing but the old ones and leave no choice: all that agree are of this kind
pub record Settles (meets : (ℕ → Bool) → Type 0) (old new : List (Option Bool)) : Type 0 where
  pub every : AllAgree meets new
  pub within : (full : ℕ → Bool) → Agrees new full → Agrees old full
  pub same_length : length new ≡ length old

-- a search: all that agree with the new values are of this kind and agreed before, or nothing of this kind agreed
abbrev pub Searches : ((ℕ → Bool) → Type 0) → List (Option Bool) → List (Option Bool) → Bool → Type 0
Searches meets old new true = Settles meets old new
Searches meets old new false = NoneAgrees meets old

-- values that let in none that disagreed with the old ones
pub record IsWithin (old new : List (Option Bool)) : Type 0 where
  pub within : (full : ℕ → Bool) → Agrees new full → Agrees old full
  pub same_length : length new ≡ length old

-- open parts that were given values, with no regard to what meets; nothing is said where that failed
abbrev pub Fills : List (Option Bool) → List (Option Bool) → Bool → Type 0
Fills old new true = IsWithin old new
Fills old new false = Unit {0}

-- one try of a full assignment: it does, or all is as it was
abbrev pub Completes : ((ℕ → Bool) → Type 0) → List (Option Bool) → List (Option Bool) → Bool → Type 0
Completes meets old new true = Settles meets old new
Completes meets old new false = new ≡ old

-- a decision: nothing agrees, all that agree now are of this kind, or an open part to split on
abbrev pub Decides : ((ℕ → Bool) → Type 0) → List (Option Bool) → List (Option Bool) → Look → Type 0
Decides meets old new Fails = NoneAgrees meets old
Decides meets old new Holds = Settles meets old new
Decides meets old new (Needs part) = (new ≡ old) × IsOpen new part

-- how a clause stands: broken, kept, as true as one open literal, or undecided with an open part
abbrev pub Stands : List Literal → List (Option Bool) → Standing → Type 0
Stands clause values standing.Broken = NoneAgrees (λ full. clause_holds full clause ≡ true) values
Stands clause values standing.Kept = AllAgree (λ full. clause_holds full clause ≡ true) values
Stands clause values (standing.Unit literal) = IsOpen values literal.part × ((full : ℕ → Bool) → Agrees values full → clause_holds full clause ≡ literal_holds full literal)
Stands clause values (standing.Loose part) = IsOpen values part

-- the part, if there is one, is open
abbrev pub IsOpenIfSome : List (Option Bool) → Option ℕ → Type 0
IsOpenIfSome values None = Unit {0}
IsOpenIfSome values (Some part) = IsOpen values part

-- the answer of a pass that found nothing false
abbrev pub look_for : Option ℕ → Look
look_for None = Holds
look_for (Some part) = Needs part

-- claims that were put: the new values follow from the old and leave no choice of them, or nothing that claims so agrees
abbrev pub Puts : ((ℕ → Bool) → Type 0) → List (Option Bool) → List (Option Bool) → Bool → Type 0
Puts meets old new true = Narrows meets old new × AllAgree meets new
Puts meets old new false = NoneAgrees meets old

-- of this kind, with each of the claims
pub record MeetsClaims (meets : (ℕ → Bool) → Type 0) (claims : List Literal) (full : ℕ → Bool) : Type 0 where
  pub system : meets full
  pub claimed : claims_hold full claims ≡ true

-- of this kind, with at least one of the goals yes
pub record MeetsWithGoal (meets : (ℕ → Bool) → Type 0) (goals : List ℕ) (full : ℕ → Bool) : Type 0 where
  pub system : meets full
  pub goal : some_goal goals full ≡ true

-- a full assignment of this kind, a value for each part, that agrees with the values given
pub record IsSolution (meets : (ℕ → Bool) → Type 0) (given : List (Option Bool)) (found : List Bool) : Type 0 where
  pub meets_all : meets (full_of found)
  pub agrees : Agrees given (full_of found)
  pub every_part : length found ≡ length given
