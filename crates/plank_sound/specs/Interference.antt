-- What is true in every world of every run of a program whose outline is valid and whose obligations hold.
use Rattle.std.specs.Prelude.{◌≡◌, ℕ, true, List, [], ◌∷◌, slice_get, Option, Some}
use Rattle.std.specs.FinMap.{get}
use Rattle.plank_prog.specs.declared.methods.Method.{Method}
use Rattle.plank_hist.specs.declared.events.Event.{Event}
use Rattle.plank_sem.specs.declared.calls.Call.{Call}
use Rattle.plank_sem.specs.declared.steps.Choice.{Choice}
use Rattle.plank_sem.specs.Kept.{GhostWorld}
use Rattle.plank_pic.specs.declared.literals.Literal.{Literal}
use Rattle.plank_fact.specs.declared.facts.Fact.{Fact}
use Rattle.plank_fact.specs.Outlines.{Outline, Point, IsClaimed}
use Rattle.plank_scene.specs.Worlds.{IsOrderlyWorld}
use Rattle.plank_sound.specs.Sights.{holds, sight_of, IsTrueFact}

-- the call stands at the point
pub record IsAt {methods : List Method} (x : Point methods) (call : Call) : Type 0 where
  pub method : x.m ≡ call.method
  pub location : x.l ≡ call.location

-- each fact that is claimed where a pending call stands is true of it
abbrev pub AreClaimsTrue : (O : Outline) → List Choice → GhostWorld → List GhostWorld → Type 0
AreClaimsTrue O choices g ghosts = (thread : ℕ) (call : Call) → get g.world.calls thread ≡ Some call → (x : Point O.methods) → IsAt x call → (f : Fact) → IsClaimed O x f
    → IsTrueFact O.header choices g ghosts thread call x.method f

-- those of now
abbrev pub AreNowTrue : (O : Outline) → GhostWorld → Type 0
AreNowTrue O g = (thread : ℕ) (call : Call) → get g.world.calls thread ≡ Some call → (x : Point O.methods) → IsAt x call → (L : Literal) → IsClaimed O x (Fact.Now L)
    → holds O.header (sight_of O.header g thread call x.method) L ≡ true

-- of the newest world of a run, and as far as claims of now go of the older ones
pub record IsKeptSo (O : Outline) (choices : List Choice) (g : GhostWorld) (ghosts : List GhostWorld) : Type 0 where
  pub orderly : IsOrderlyWorld O.header g
  pub claims : AreClaimsTrue O choices g ghosts
  pub older : (i : ℕ) (w : GhostWorld) → slice_get ghosts i ≡ Some w → IsOrderlyWorld O.header w × AreNowTrue O w

-- of the newest world of a run
abbrev pub Inv : Outline → List Choice → List (Option Event) → List GhostWorld → Type 0
Inv O choices told [] = ⊥
Inv O choices told (g ∷ ghosts) = IsKeptSo O choices g ghosts
