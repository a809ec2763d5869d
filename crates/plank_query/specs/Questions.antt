-- Questions: which goals are reached by pictures of a situation of which these claims are right.
use Rattle.std.specs.Prelude.{◌≡◌, ◌↔◌, ℕ, Bool, true, List, slice_get, Some}
use Rattle.plank_pic.specs.Pictures.{Picture}
use Rattle.plank_query.specs.declared.goals.Goal.{Goal}
use Rattle.plank_query.specs.declared.questions.Question.{Question}
use Rattle.plank_query.specs.Situations.{IsSituated}
use Rattle.plank_query.specs.Predicates.{AreRight}
use Rattle.plank_query.specs.Goals.{goal_holds}

-- the pictures are in the situation, and what is claimed of them is right
pub record Meets (q : Question) (before after : Picture) : Type 0 where
  pub situated : IsSituated q.header.now q.situation before after
  pub right_before : AreRight q.header.now q.situation before q.before.now
  pub right_after : AreRight q.header.now q.situation after q.after.now

-- some pictures that meet the question have what the goal looks for
pub record IsReached (q : Question) (goal : Goal) : Type 0 where
  pub before : Picture
  pub after : Picture
  pub meets : Meets q before after
  pub holds : goal_holds q.header.now q.situation before after goal ≡ true

-- the answers say of each goal whether it is reached
abbrev pub AreAnswers : Question → List Bool → Type 0
AreAnswers q answers = (n : ℕ) (goal : Goal) → slice_get q.goals.now n ≡ Some goal → (slice_get answers n ≡ Some true) ↔ IsReached q goal
