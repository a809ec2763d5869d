-- What a search is a search for: full assignments under which all that is asked of a question's pictures holds. Which goals
-- are reached by now, and what another round finds.
use Rattle.std.specs.Prelude.{◌≡◌, ◌⊎◌, ℕ, ◌+◌, ◌<◌, Bool, true, false, not, ◌||◌, List, [], ◌∷◌, length, slice_get, slice_index_or, Option, Some, if◌then◌else◌}
use Rattle.std.specs.Option.{option_map_or}
use Rattle.plank_bits.specs.Words.{count_below}
use Rattle.plank_search.specs.Assignments.{IsOpen}
use Rattle.plank_pic.specs.declared.parts.Part.{Part}
use Rattle.plank_pic.specs.Lawful.{part_fits}
use Rattle.plank_lawful.specs.Lists.{joined}
use Rattle.plank_parts.specs.declared.sides.Side.{Side}
use Rattle.plank_parts.specs.Numbers.{Numbers, is_moved, picture_of, IsNumbering, HasAssignments}
use Rattle.plank_query.specs.declared.goals.Goal.{Goal}
use Rattle.plank_query.specs.declared.situations.Situation.{Situation}
use Rattle.plank_query.specs.declared.questions.Question.{Question}
use Rattle.plank_query.specs.Situations.{frame}
use Rattle.plank_query.specs.Goals.{goal_holds}
use Rattle.plank_query.specs.Questions.{IsReached}
use Rattle.plank_reach.specs.Steps.{step_of}
use Rattle.plank_reach.specs.Kept.{is_kept_by}
use Rattle.plank_solve.specs.declared.asks.Ask.{Ask}
use Rattle.plank_solve.specs.declared.ruling.Ruling.{Ruling}
use Rattle.plank_solve.specs.Pictured.{holds_under}
use Rattle.plank_solve.specs.Lists.{asks_of}

-- whether an ask, by its number, holds under a full assignment
abbrev pub ruled_by : Numbers → Situation → List Ask → ℕ → (ℕ → Bool) → Bool
ruled_by N S asks c full = holds_under N S full (slice_index_or asks c Ask.Runs)

abbrev pub ruled : Ruling → ℕ → (ℕ → Bool) → Bool
ruled r = ruled_by r.numbering.now r.situation r.asks.now

-- all that is asked of the pictures of the question, by numbers in which what its step keeps has one
pub record IsAskedOf (q : Question) (N : Numbers) (S : Situation) (asks : List Ask) : Type 0 where
  pub situation : S ≡ q.situation
  pub framed : N.frame ≡ frame q.header.now q.situation
  pub moved : (part : Part) → part_fits N.frame part ≡ true → is_moved N.table part ≡ not (is_kept_by (step_of q.situation) part)
  pub numbered : IsNumbering N.frame N.table
  pub assigned : HasAssignments N
  pub listed : asks ≡ asks_of q N.frame N.table

abbrev pub IsRulingOf : Question → Ruling → Type 0
IsRulingOf q r = IsAskedOf q r.numbering.now r.situation r.asks.now

-- nothing is open
pub record IsWhole (values : List (Option Bool)) : Type 0 where
  pub none_open : (n : ℕ) → IsOpen values n → ⊥

-- ---- which goals are reached

abbrev pub was_reached : List Bool → ℕ → Bool
was_reached reached n = option_map_or (λ b. b) (slice_get reached n) false

-- whether the pictures of an assignment have what the goal of a number looks for
abbrev pub is_reached_under : Numbers → Situation → (ℕ → Bool) → List Goal → ℕ → Bool
is_reached_under N S full goals n = option_map_or (goal_holds N.frame.header S (picture_of N Side.Before full) (picture_of N Side.After full)) (slice_get goals n) false

abbrev pub reached_now : Numbers → Situation → (ℕ → Bool) → List Goal → List Bool → ℕ → List Bool
reached_now N S full goals reached n = (was_reached reached n || is_reached_under N S full goals n) ∷ []

-- the numbers of the switches of the goals that are not reached
abbrev pub is_left_out : List Bool → ℕ → Bool
is_left_out reached n = option_map_or not (slice_get reached n) false

abbrev pub open_at : ℕ → List Bool → ℕ → List ℕ
open_at first reached n = if is_left_out reached n then (first + n) ∷ [] else []

abbrev pub open_numbers : ℕ → List Bool → List ℕ
open_numbers first reached = joined (open_at first reached) (length reached)

-- another round: more goals are reached
pub record IsMore (q : Question) (reached more : List Bool) : Type 0 where
  pub same_length : length more ≡ length reached
  pub fewer : count_below (is_left_out more) (length reached) < count_below (is_left_out reached) (length reached)
  pub sound : (n : ℕ) (g : Goal) → slice_get q.goals.now n ≡ Some g → slice_get more n ≡ Some true → (slice_get reached n ≡ Some true) ⊎ IsReached q g

-- or none of those that are left is
abbrev pub NoMore : Question → List Bool → Type 0
NoMore q reached = (n : ℕ) (g : Goal) → slice_get q.goals.now n ≡ Some g → slice_get reached n ≡ Some false → IsReached q g → ⊥

-- what is marked is reached
abbrev pub AreSound : Question → List Bool → Type 0
AreSound q reached = (n : ℕ) (g : Goal) → slice_get q.goals.now n ≡ Some g → slice_get reached n ≡ Some true → IsReached q g
