-- Laws of pictures: what is where an outcome comes to, that names of one node walk alike, and that a picture is what it
-- says of the parts of its frame.
use Rattle.std.specs.Prelude.{◌≡◌, ℕ, ◌<◌, true, length}
use Rattle.plank_pic.specs.declared.parts.KeyName.{KeyName}
use Rattle.plank_pic.specs.declared.parts.Part.{Part}
use Rattle.plank_pic.specs.declared.parts.Target.{Target}
use Rattle.plank_pic.specs.declared.parts.Outcome.{Outcome}
use Rattle.plank_pic.specs.Frames.{Frame}
use Rattle.plank_pic.specs.Pictures.{Picture, target}
use Rattle.plank_pic.specs.Outcomes.{outcome, passes, first_name}
use Rattle.plank_pic.specs.Steps.{enters}
use Rattle.plank_pic.specs.Lawful.{part_fits, IsPicture}
use Rattle.plank_walk.specs.Walks.{path_by}

-- a walk from i that comes to this: it ends at a name, or goes on from some name into a chain or out; or it turns in a
-- circle, and passes as many names as there are
abbrev pub ComesTo : Frame → Picture → KeyName → ℕ → Outcome → Type 0
ComesTo F p k i (Outcome.EndsAt j) = target F p k j ≡ Target.Ends
ComesTo F p k i (Outcome.StopsIn y q s) = (n : ℕ) × (target F p k n ≡ Target.Stops y q s)
ComesTo F p k i (Outcome.Leaves x) = (n : ℕ) × (target F p k n ≡ Target.Out x)
ComesTo F p k i Outcome.Cycles = length (path_by (target F p k) F.names (first_name F p i)) ≡ F.names

-- two names whose walks come to the same, enter chains alike and pass the same nodes
pub record WalkAlike (F : Frame) (p : Picture) (k : KeyName) (i j : ℕ) : Type 0 where
  pub end : outcome F p k i ≡ outcome F p k j
  pub entered : enters F p k i ≡ enters F p k j
  pub passed : (m : ℕ) → passes F p k i m ≡ passes F p k j m

abbrev pub NamesWalkAlike : Frame → Picture → Type 0
NamesWalkAlike F p = IsPicture F p → (k : KeyName) (i j : ℕ) → i < F.names → j < F.names → p (Part.Same i j) ≡ true → WalkAlike F p k i j

abbrev pub FrameDecides : Frame → Picture → Picture → Type 0
FrameDecides F p r = IsPicture F p → IsPicture F r → ((part : Part) → part_fits F part ≡ true → p part ≡ r part) → p ≡ r
