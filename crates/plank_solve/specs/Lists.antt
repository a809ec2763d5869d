-- The list of all that a search asks of a question's pictures, and what meets it.
use Rattle.std.specs.Prelude.{◌≡◌, ℕ, ◌+◌, ◌<◌, Bool, true, false, ◌&&◌, List, [], ◌∷◌, ◌++◌, map, length, slice_get, Option, Some, None, if◌then◌else◌}
use Rattle.std.specs.Option.{option_map_or}
use Rattle.std.specs.List.{All}
use Rattle.plank_pic.specs.declared.parts.KeyName.{KeyName}
use Rattle.plank_pic.specs.Frames.{Frame}
use Rattle.plank_pic.specs.Lawful.{part_fits}
use Rattle.plank_lawful.specs.Lists.{joined, rules_of_possible, rules_of_lawful}
use Rattle.plank_parts.specs.declared.sides.Side.{Side}
use Rattle.plank_parts.specs.declared.sides.Numbered.{Numbered}
use Rattle.plank_parts.specs.Numbers.{Table}
use Rattle.plank_query.specs.declared.goals.Goal.{Goal}
use Rattle.plank_query.specs.declared.questions.Question.{Question}
use Rattle.plank_query.specs.Situations.{names}
use Rattle.plank_reach.specs.declared.stepping.Stepping.{Stepping}
use Rattle.plank_reach.specs.Steps.{step_of}
use Rattle.plank_stay.specs.declared.ways.Way.{Way}
use Rattle.plank_solve.specs.declared.asks.Ask.{Ask}

-- ---- one name, one number, one goal at a time

abbrev pub fits_at : ℕ → List Ask
fits_at i = Ask.Fits i ∷ []

abbrev pub is_after : Side → Bool
is_after Side.Before = false
is_after Side.After = true

-- a part of the frame that has a number of its own after the step
abbrev pub is_moved_entry : Frame → Numbered → Bool
is_moved_entry F e = is_after e.side && part_fits F e.part

abbrev pub left_of_entry : Frame → Numbered → List Ask
left_of_entry F e = if is_moved_entry F e then Ask.Left e.part ∷ [] else []

abbrev pub left_at : Frame → List Numbered → ℕ → List Ask
left_at F parts n = option_map_or (left_of_entry F) (slice_get parts n) []

-- the switches of goals are the numbers past those of parts
abbrev pub reaches_at : ℕ → List Goal → ℕ → List Ask
reaches_at first goals n = option_map_or (λ g. Ask.Reaches (first + n) g ∷ []) (slice_get goals n) []

-- each key, for a name and the name of where the written node's edge led
abbrev pub way : KeyName → ℕ → ℕ → Way
way k i j = record { key = k; name = i; out = j }

abbrev pub stays_at : ℕ → ℕ → List Ask
stays_at i j = Ask.Stays (way KeyName.Own i j) ∷ Ask.Stays (way KeyName.Other i j) ∷ Ask.Stays (way KeyName.Any i j) ∷ []

abbrev pub stays_of : ℕ → ℕ → List Ask
stays_of names i = joined (stays_at i) names

-- ---- the lists

abbrev pub tests_of_step : Frame → Table → List Ask
tests_of_step F T = Ask.Runs ∷ Ask.Writes ∷ map Ask.Possible (rules_of_possible F) ++ joined (left_at F T.parts) (length T.parts)

-- of steps that keep each name its node, what stays visited, which follows from these
abbrev pub stays_if : Frame → Bool → List Ask
stays_if F kept = if kept then joined (stays_of F.names) F.names else []

abbrev pub asks_of_step : Frame → Table → Bool → List Ask
asks_of_step F T kept = tests_of_step F T ++ stays_if F kept

abbrev pub asks_of_turn : Frame → Table → Option Stepping → List Ask
asks_of_turn F T None = []
asks_of_turn F T (Some s) = asks_of_step F T s.kept

abbrev pub asks_of : Question → Frame → Table → List Ask
asks_of q F T =
    map Ask.Before q.before.now ++ map Ask.After q.after.now ++ joined fits_at (names q.situation) ++ asks_of_turn F T (step_of q.situation)
    ++ joined (reaches_at (length T.parts) q.goals.now) (length q.goals.now) ++ map Ask.Lawful (rules_of_lawful F)

-- ---- what meets them

pub record MeetsAsksOfStep (F : Frame) (T : Table) (kept : Bool) (P : Ask → Type 0) : Type 0 where
  pub runs : P Ask.Runs
  pub writes : P Ask.Writes
  pub possible : All (λ r. P (Ask.Possible r)) (rules_of_possible F)
  pub left : (n : ℕ) (e : Numbered) → slice_get T.parts n ≡ Some e → e.side ≡ Side.After → part_fits F e.part ≡ true → P (Ask.Left e.part)
  pub stays : kept ≡ true → (k : KeyName) (i j : ℕ) → i < F.names → j < F.names → P (Ask.Stays (way k i j))

pub record MeetsAsks (q : Question) (F : Frame) (T : Table) (P : Ask → Type 0) : Type 0 where
  pub before : All (λ c. P (Ask.Before c)) q.before.now
  pub after : All (λ c. P (Ask.After c)) q.after.now
  pub fits : (i : ℕ) → i < names q.situation → P (Ask.Fits i)
  pub step : (s : Stepping) → step_of q.situation ≡ Some s → MeetsAsksOfStep F T s.kept P
  pub goals : (n : ℕ) (g : Goal) → slice_get q.goals.now n ≡ Some g → P (Ask.Reaches (length T.parts + n) g)
  pub lawful : All (λ r. P (Ask.Lawful r)) (rules_of_lawful F)
