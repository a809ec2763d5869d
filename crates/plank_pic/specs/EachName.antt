-- A form of the rule on visits that a search likes: a visited name sends its key on to each name that its edge leads to,
-- where `visit_goes_on` asks it of the least of them. On pictures the two are equal.
use Rattle.std.specs.Prelude.{◌≡◌, ℕ, ◌<◌, Bool, not, ◌&&◌, Option, Some, None}
use Rattle.plank_pic.specs.declared.parts.KeyName.{KeyName}
use Rattle.plank_pic.specs.declared.parts.Place.{Place}
use Rattle.plank_pic.specs.declared.parts.Part.{Part}
use Rattle.plank_pic.specs.declared.parts.Target.{Target}
use Rattle.plank_pic.specs.Frames.{Frame}
use Rattle.plank_pic.specs.Below.{some_below}
use Rattle.plank_pic.specs.Pictures.{Picture, place, edge, outer_target}
use Rattle.plank_pic.specs.Lawful.{◌⇒◌, arrives, visit_goes_on, IsPicture}

-- the pointer leads to a name that the key does not visit
abbrev pub leads_unvisited : Picture → KeyName → Place → ℕ → Bool
leads_unvisited p k x j = p (Part.Leads x j) && not (p (Part.Visits k j))

-- each name that the edge leads to is visited; one that leads outside arrives as before
abbrev pub arrives_by : Frame → Picture → KeyName → ℕ → Option ℕ → Bool
arrives_by F p k i None = arrives F p k i Target.Ends
arrives_by F p k i (Some f) =
    not (some_below (leads_unvisited p k (place i f)) F.names) && (p (Part.Beyond (place i f)) ⇒ arrives F p k i (outer_target F p k i f))

abbrev pub visit_goes_on_each : Frame → Picture → KeyName → ℕ → Bool
visit_goes_on_each F p k i = p (Part.Visits k i) ⇒ arrives_by F p k i (edge F.header p k i)

abbrev pub VisitsGoOnAlike : Frame → Picture → Type 0
VisitsGoOnAlike F p = IsPicture F p → (k : KeyName) (i : ℕ) → i < F.names → visit_goes_on F p k i ≡ visit_goes_on_each F p k i
