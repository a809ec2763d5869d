-- What the answer to a question says that claims something of the picture before a step alone.
use Rattle.std.specs.Prelude.{◌≡◌, ◌↔◌, ℕ, Bool, true, List, slice_get, Some}
use Rattle.plank_prog.specs.declared.headers.Header.{Header}
use Rattle.plank_pic.specs.Pictures.{Picture}
use Rattle.plank_query.specs.declared.situations.Situation.{Situation}
use Rattle.plank_query.specs.declared.predicates.Claim.{Claim}
use Rattle.plank_query.specs.declared.goals.Goal.{Goal}
use Rattle.plank_query.specs.Situations.{IsSituated}
use Rattle.plank_query.specs.Predicates.{AreRight}
use Rattle.plank_query.specs.Goals.{goal_holds}

-- some pictures of the situation, of which the claims are right, have what the goal looks for
pub record IsReachedFrom (h : Header) (S : Situation) (claims : List Claim) (goal : Goal) : Type 0 where
  pub before : Picture
  pub after : Picture
  pub situated : IsSituated h S before after
  pub right : AreRight h S before claims
  pub holds : goal_holds h S before after goal ≡ true

abbrev pub AreReached : Header → Situation → List Claim → List Goal → List Bool → Type 0
AreReached h S claims goals answers = (i : ℕ) (goal : Goal) → slice_get goals i ≡ Some goal → (slice_get answers i ≡ Some true) ↔ IsReachedFrom h S claims goal
