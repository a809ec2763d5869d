-- What a write leaves of a key, read off the two walks from the written node: before the write, and with its new fields.
-- Questions on two pictures are answered where both are known far enough.
use Rattle.std.specs.Prelude.{◌≡◌, ◌⊎◌, ℕ, Bool, true, not, ◌&&◌, ◌||◌, if◌then◌else◌, List, Option, Some, None, Result, Ok, Err}
use Rattle.plank_pic.specs.declared.parts.KeyName.{KeyName}
use Rattle.plank_pic.specs.declared.parts.Part.{Part}
use Rattle.plank_pic.specs.declared.moves.Moved.{Moved}
use Rattle.plank_pic.specs.Frames.{Frame}
use Rattle.plank_pic.specs.Pictures.{Picture, is_fast, is_picked}
use Rattle.plank_pic.specs.Steps.{by_outcomes}
use Rattle.plank_walk.specs.Settles.{Agrees}
use Rattle.plank_walk.specs.Walks.{IsWalk, is_on}
use Rattle.plank_step.specs.declared.footprints.Footprint.{Footprint}

-- ---- two readers

abbrev pub IsOpenIn : (ℕ → Option Bool) → (ℕ → Option Bool) → ℕ → Type 0
IsOpenIn known other n = (known n ≡ None) ⊎ (other n ≡ None)

-- as `Settles`, of two pictures at once
abbrev pub SettlesBoth : {A : Type 0} → ((ℕ → Bool) → A) → (ℕ → Option Bool) → (ℕ → Option Bool) → Result A ℕ → Type 0
SettlesBoth meaning known other (Ok a) = (full : ℕ → Bool) → Agrees known full → Agrees other full → meaning full ≡ a
SettlesBoth meaning known other (Err n) = IsOpenIn known other n

-- ---- the two walks

pub record IsFootprint (F : Frame) (B M : Picture) (k : KeyName) (at : ℕ) (w : Footprint) : Type 0 where
  pub before : IsWalk F B k at w.before
  pub after : IsWalk F M k at w.after

abbrev pub SettlesFootprint : Frame → ((ℕ → Bool) → Picture) → ((ℕ → Bool) → Picture) → (ℕ → Option Bool) → (ℕ → Option Bool) → KeyName → ℕ → Result Footprint ℕ → Type 0
SettlesFootprint F before mixed known other k at (Ok w) = (full : ℕ → Bool) → Agrees known full → Agrees other full → IsFootprint F (before full) (mixed full) k at w
SettlesFootprint F before mixed known other k at (Err n) = IsOpenIn known other n

-- ---- what is read off them

abbrev pub has_entered : Footprint → Bool
has_entered w = w.before.entered || w.after.entered

-- how the key moves
abbrev pub moved_along : Frame → Picture → Picture → KeyName → ℕ → Footprint → Moved
moved_along F B M k at w =
    if not (B (Part.Visits k at)) then Moved.Untouched
    else if is_fast F.header B at && has_entered w then Moved.Apart
    else by_outcomes F.header B M k w.before.end w.after.end

-- the visit bit of a name, where the key ends or leaves alike
abbrev pub visit_along : Frame → Picture → Picture → KeyName → ℕ → Footprint → Option Bool
visit_along F B M k i w =
    if is_on M w.after.path.items i then Some true
    else if is_on B w.before.path.items i || (has_entered w && is_fast F.header B i) then None
    else Some (B (Part.Visits k i))

-- the visit bit of a name after the write, or None where it is free
abbrev pub visit_left : Frame → Picture → Picture → KeyName → ℕ → Moved → Footprint → Option Bool
visit_left F B M k i Moved.Untouched w = Some (B (Part.Visits k i))
visit_left F B M k i Moved.Same w = visit_along F B M k i w
visit_left F B M k i (Moved.BothEnd was now) w = visit_along F B M k i w
visit_left F B M k i Moved.Apart w = None

-- that of a stop node
abbrev pub stop_along : Frame → Picture → KeyName → ℕ → ℕ → Footprint → Option Bool
stop_along F B k at s w =
    if is_picked F B k s && not (has_entered w) && not (is_fast F.header B at) then Some (B (Part.StopVisited k s)) else None

abbrev pub stop_left : Frame → Picture → KeyName → ℕ → ℕ → Moved → Footprint → Option Bool
stop_left F B k at s Moved.Untouched w = Some (B (Part.StopVisited k s))
stop_left F B k at s Moved.Same w = stop_along F B k at s w
stop_left F B k at s (Moved.BothEnd was now) w = stop_along F B k at s w
stop_left F B k at s Moved.Apart w = None
