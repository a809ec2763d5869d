-- The goals that are reached, as a set of their numbers.
use Rattle.std.specs.Prelude.{◌≡◌, ◌↔◌, ℕ, ◌<◌, Bool, true, false, List, length, slice_get, Some}
use Rattle.std.specs.Option.{option_map_or}
use Rattle.plank_query.specs.declared.goals.Goal.{Goal}
use Rattle.plank_query.specs.declared.questions.Question.{Question}
use Rattle.plank_query.specs.Questions.{IsReached}

-- the k-th answer is yes
abbrev pub is_on : List Bool → ℕ → Bool
is_on answers k = option_map_or (λ b. b) (slice_get answers k) false

-- the set has the numbers of just those goals that are reached
pub record AreReached (q : Question) (found : ℕ → Bool) : Type 0 where
  pub within : (k : ℕ) → found k ≡ true → k < length q.goals.now
  pub each : (k : ℕ) (goal : Goal) → slice_get q.goals.now k ≡ Some goal → (found k ≡ true) ↔ IsReached q goal
