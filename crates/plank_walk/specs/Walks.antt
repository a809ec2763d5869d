-- A walk of a picture in one pass: the names that it passes in order, where it comes to, and whether it enters a chain.
-- What a write leaves of the visit bits is read off it.
use Rattle.std.specs.Prelude.{◌≡◌, ℕ, zero, suc, Bool, List, [], ◌∷◌, Option, None, Result, Ok, Err}
use Rattle.std.specs.List.{list_any}
use Rattle.plank_pic.specs.declared.parts.KeyName.{KeyName}
use Rattle.plank_pic.specs.declared.parts.Part.{Part}
use Rattle.plank_pic.specs.declared.parts.Target.{Target}
use Rattle.plank_pic.specs.Frames.{Frame}
use Rattle.plank_pic.specs.Pictures.{Picture, target}
use Rattle.plank_pic.specs.Outcomes.{first_name, outcome}
use Rattle.plank_pic.specs.Steps.{enters}
use Rattle.plank_walk.specs.Settles.{Agrees}
use Rattle.plank_walk.specs.declared.walks.Walk.{Walk}

-- the names passed from i, by the target there and the names passed after that
abbrev pub path_after : (ℕ → List ℕ) → ℕ → Target → List ℕ
path_after on i Target.Ends = i ∷ []
path_after on i (Target.To j) = i ∷ on j
path_after on i (Target.Out x) = i ∷ []
path_after on i (Target.Stops y q s) = i ∷ []
path_after on i (Target.Jumps q) = i ∷ on q

unfoldable pub path_by : (ℕ → Target) → ℕ → ℕ → List ℕ
path_by to zero i = []
path_by to (suc n) i = path_after (path_by to n) i (to i)

-- the walk of a key from the node that i names
pub record IsWalk (F : Frame) (p : Picture) (k : KeyName) (i : ℕ) (w : Walk) : Type 0 where
  pub path : path_by (target F p k) F.names (first_name F p i) ≡ w.path.items
  pub end : outcome F p k i ≡ w.end
  pub entered : enters F p k i ≡ w.entered

abbrev pub SettlesWalk : Frame → ((ℕ → Bool) → Picture) → (ℕ → Option Bool) → KeyName → ℕ → Result Walk ℕ → Type 0
SettlesWalk F picture known k i (Ok w) = (full : ℕ → Bool) → Agrees known full → IsWalk F (picture full) k i w
SettlesWalk F picture known k i (Err n) = known n ≡ None

-- the node that j names is on the path
abbrev pub is_on : Picture → List ℕ → ℕ → Bool
is_on p path j = list_any (λ m. p (Part.Same m j)) path
