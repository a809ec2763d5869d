-- What is claimed of the pictures of a question about a location, and what is asked of them.
use Rattle.std.specs.Prelude.{◌≡◌, ◌↔◌, ℕ, true, false, List, [], ◌∷◌, slice_get, Some, Contains}
use Rattle.plank_prog.specs.declared.headers.Header.{Header}
use Rattle.plank_pic.specs.declared.parts.Part.{Part}
use Rattle.plank_pic.specs.Pictures.{Picture}
use Rattle.plank_fact.specs.Outlines.{Outline, Point}
use Rattle.plank_query.specs.declared.situations.Situation.{Situation}
use Rattle.plank_query.specs.declared.predicates.Speaker.{Speaker}
use Rattle.plank_query.specs.declared.predicates.Predicate.{Predicate}
use Rattle.plank_query.specs.declared.predicates.Claim.{Claim}
use Rattle.plank_query.specs.declared.goals.Moment.{Moment}
use Rattle.plank_query.specs.declared.goals.Goal.{Goal}
use Rattle.plank_query.specs.Predicates.{AreRight}
use Rattle.plank_claim.specs.declared.known.Known.{Known}
use Rattle.plank_claim.specs.Claims.{AreTrue}
use Rattle.plank_claim.specs.Asked.{IsReachedFrom}

-- the claims say that what is claimed at the location is true of the own call
abbrev pub SayOf : (O : Outline) → Point O.methods → List Claim → Type 0
SayOf O x claims = (S : Situation) (p : Picture) → AreRight O.header S p claims ↔ AreTrue O x Speaker.Own Known.All S p

-- one of the goals is reached by pictures of which the claims are right
pub record IsOneReached (h : Header) (S : Situation) (claims : List Claim) (goals : List Goal) : Type 0 where
  pub goal : Goal
  pub asked : Contains goals goal
  pub reached : IsReachedFrom h S claims goal

-- the first two goals are
pub record AreBothReached (h : Header) (S : Situation) (claims : List Claim) (goals : List Goal) : Type 0 where
  pub first : Goal
  pub second : Goal
  pub first_there : slice_get goals 0 ≡ Some first
  pub second_there : slice_get goals 1 ≡ Some second
  pub first_reached : IsReachedFrom h S claims first
  pub second_reached : IsReachedFrom h S claims second

-- ---- target

abbrev pub not_null : ℕ → Claim
not_null i = record { predicate = Predicate.Says (Part.Null i); value = false }

abbrev pub not_own : ℕ → Goal
not_own i = Goal.Fails Moment.Before (Predicate.IsOwned i)

abbrev pub not_shared : ℕ → Goal
not_shared i = Goal.Fails Moment.Before (Predicate.Says (Part.Shared i))

-- ---- edges

abbrev pub is_shared : ℕ → Claim
is_shared i = record { predicate = Predicate.Says (Part.Shared i); value = true }

-- its pointer field f admits any key
abbrev pub admits : ℕ → ℕ → Claim
admits i f = record { predicate = Predicate.Admits i f; value = true }

-- the one name is of a shared node, whose two pointer fields admit any key
abbrev pub twice_claims : List Claim
twice_claims = not_null 0 ∷ is_shared 0 ∷ admits 0 0 ∷ admits 0 1 ∷ []
