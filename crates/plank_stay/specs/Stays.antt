-- What a write of one node leaves visited, where the walks from it before and after the write meet again at once: what is
-- put leads on to where the edge led, or that leads on to what is put. Then each visited node stays visited, but for the
-- one that is cut out. It follows from the step of pictures, and a search is faster that is told so.
use Rattle.std.specs.Prelude.{◌≡◌, ℕ, ◌<◌, Bool, true, false, not, ◌&&◌, ◌||◌, if◌then◌else◌}
use Rattle.std.specs.Bool.{beq}
use Rattle.std.specs.Option.{option_map_or}
use Rattle.plank_pic.specs.declared.parts.KeyName.{KeyName}
use Rattle.plank_pic.specs.declared.parts.Part.{Part}
use Rattle.plank_pic.specs.Frames.{Frame}
use Rattle.plank_pic.specs.Pictures.{Picture, place, edge, is_fast}
use Rattle.plank_pic.specs.Lawful.{◌⇒◌, IsPicture}
use Rattle.plank_pic.specs.Steps.{Change, mixed, written, agrees_with}
use Rattle.plank_stay.specs.declared.ways.Way.{Way}

-- the edge of the key at the node that i names leads to the node that j names
abbrev pub leads_on : Frame → Picture → KeyName → ℕ → ℕ → Bool
leads_on F p k i j = option_map_or (λ f. p (Part.Leads (place i f) j)) (edge F.header p k i) false

-- the node v that is put: it is where the edge led, or it leads on there, or that leads on to it, and is cut out
abbrev pub meets_by : Frame → Picture → ℕ → Way → ℕ → Bool
meets_by F B at w v =
    B (Part.Same v w.out) || ((not (B (Part.Same v at)) && leads_on F B w.key v w.out) || (leads_on F B w.key w.out v && not (B (Part.Same w.out w.name))))

-- of a write of the node that `at` names: the pointer f is the edge after it, by what was put there or as before
abbrev pub meets_at : Frame → Picture → Change → ℕ → Way → ℕ → Bool
meets_at F B c at w f = option_map_or (λ to. option_map_or (meets_by F B at w) to false) (c.pointer f) (B (Part.Leads (place at f) w.out))

abbrev pub meets_after : Frame → Picture → Change → ℕ → Way → Bool
meets_after F B c at w = option_map_or (meets_at F B c at w) (edge F.header (mixed B c) w.key at) false

abbrev pub meets_again : Frame → Picture → Change → ℕ → Way → Bool
meets_again F B c at w = leads_on F B w.key at w.out && meets_after F B c at w

-- for a node that is not fast, and where the written node is not fast
abbrev pub meets_behind : Frame → Picture → Change → ℕ → Way → Bool
meets_behind F B c at w = not (is_fast F.header B w.name) && meets_again F B c at w

abbrev pub meets_slowly : Frame → Picture → Change → ℕ → Way → Bool
meets_slowly F B c at w = not (is_fast F.header B at) && meets_behind F B c at w

-- a visited node, where the walks meet again
abbrev pub is_met : Frame → Picture → Change → ℕ → Way → Bool
is_met F B c at w = B (Part.Visits w.key w.name) && meets_slowly F B c at w

-- a node stays visited where the walks meet again; where the written node is not visited, nothing moves
abbrev pub stays_at : Frame → Picture → Picture → Change → ℕ → Way → Bool
stays_at F B A c at w =
    if B (Part.Visits w.key at) then is_met F B c at w ⇒ A (Part.Visits w.key w.name)
    else beq (A (Part.Visits w.key w.name)) (B (Part.Visits w.key w.name))

abbrev pub stays : Frame → Picture → Picture → Change → Way → Bool
stays F B A c w = stays_at F B A c c.at w

-- the law: what the write leaves of a visit bit says so
abbrev pub WritesLeaveSo : Frame → Picture → Picture → Change → Type 0
WritesLeaveSo F B A c =
    IsPicture F B → (w : Way) → w.name < F.names
    → agrees_with (written F B c (Part.Visits w.key w.name)) (A (Part.Visits w.key w.name)) ≡ true → stays F B A c w ≡ true
