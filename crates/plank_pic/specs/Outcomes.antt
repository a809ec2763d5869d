-- Outcomes: where the walk of a key comes to from a named node along targets, which nodes it passes, and whether it enters
-- a chain. The movement of a key at a write compares two of them.
use Rattle.std.specs.Prelude.{ℕ, zero, suc, Bool, true, false, ◌||◌, unwrap_or}
use Rattle.plank_pic.specs.declared.parts.KeyName.{KeyName}
use Rattle.plank_pic.specs.declared.parts.Part.{Part}
use Rattle.plank_pic.specs.Frames.{Frame}
use Rattle.plank_pic.specs.declared.parts.Target.{Target}
use Rattle.plank_pic.specs.declared.parts.Outcome.{Outcome}
use Rattle.plank_pic.specs.Below.{least_below}
use Rattle.plank_pic.specs.Pictures.{Picture, target}

-- where a walk comes to from i, by the target there and where it comes to after that
abbrev pub outcome_after : (ℕ → Outcome) → ℕ → Target → Outcome
outcome_after on i Target.Ends = Outcome.EndsAt i
outcome_after on i (Target.To j) = on j
outcome_after on i (Target.Out x) = Outcome.Leaves x
outcome_after on i (Target.Stops y q s) = Outcome.StopsIn y q s
outcome_after on i (Target.Jumps q) = on q

-- the walk from i along targets, for so many moves; in more moves than there are names it meets a node twice
unfoldable pub outcome_by : (ℕ → Target) → ℕ → ℕ → Outcome
outcome_by to zero i = Outcome.Cycles
outcome_by to (suc n) i = outcome_after (outcome_by to n) i (to i)

-- whether a walk goes on so after a target
abbrev pub goes_on_so : (ℕ → Bool) → Target → Bool
goes_on_so on Target.Ends = false
goes_on_so on (Target.To j) = on j
goes_on_so on (Target.Out x) = false
goes_on_so on (Target.Stops y q s) = false
goes_on_so on (Target.Jumps q) = on q

-- whether that walk passes a node of this kind
unfoldable pub passes_by : (ℕ → Target) → (ℕ → Bool) → ℕ → ℕ → Bool
passes_by to is_it zero i = false
passes_by to is_it (suc n) i = is_it i || goes_on_so (passes_by to is_it n) (to i)

-- whether a walk enters a chain at a target, or after it
abbrev pub enters_after : (ℕ → Bool) → Target → Bool
enters_after on Target.Ends = false
enters_after on (Target.To j) = on j
enters_after on (Target.Out x) = false
enters_after on (Target.Stops y q s) = true
enters_after on (Target.Jumps q) = true

unfoldable pub enters_by : (ℕ → Target) → ℕ → ℕ → Bool
enters_by to zero i = false
enters_by to (suc n) i = enters_after (enters_by to n) (to i)

-- both names name one node
abbrev pub is_same : Picture → ℕ → ℕ → Bool
is_same p i j = p (Part.Same i j)

-- the first name of the node that i names
abbrev pub first_name : Frame → Picture → ℕ → ℕ
first_name F p i = unwrap_or (least_below (is_same p i) F.names) i

-- the outcome of a key from the node that i names
abbrev pub outcome : Frame → Picture → KeyName → ℕ → Outcome
outcome F p k i = outcome_by (target F p k) F.names (first_name F p i)

-- whether the part from i has the node that j names
abbrev pub passes : Frame → Picture → KeyName → ℕ → ℕ → Bool
passes F p k i j = passes_by (target F p k) (λ m. p (Part.Same m j)) F.names (first_name F p i)
