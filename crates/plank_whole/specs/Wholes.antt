-- A whole picture as the picture of the definitions. Its calls say what they answer of it.
use Rattle.std.specs.Prelude.{◌≡◌, ℕ, Bool, true, false, ◌&&◌, List, Option, Some, None, Result, Ok, Err, slice_index_or, if◌then◌else◌}
use Rattle.plank_pic.specs.declared.parts.KeyName.{KeyName}
use Rattle.plank_pic.specs.declared.parts.Part.{Part}
use Rattle.plank_pic.specs.Frames.{Frame}
use Rattle.plank_pic.specs.Pictures as pictures
use Rattle.plank_pic.specs.Pictures.{place, is_fast}
use Rattle.plank_pic.specs.Lawful.{part_fits, chains_are_there}
use Rattle.plank_parts.specs.Codes.{part_code}
use Rattle.plank_parts.specs.Shapes as shapes
use Rattle.plank_whole.specs.declared.wholes.Picture.{Picture}

abbrev pub frame_of : Picture → Frame
frame_of w = shapes.frame_of w.shape

-- what is said of a part, by its code: nothing of a part that the frame does not have
abbrev pub said_in : Frame → List Bool → pictures.Picture
said_in F said part = part_fits F part && slice_index_or said (part_code part) false

abbrev pub shown : Picture → pictures.Picture
shown w = said_in (frame_of w) w.said

-- one picture says yes of a part of the frame, and of each other part what another says
pub record SaysBesides (F : Frame) (part : Part) (p r : pictures.Picture) : Type 0 where
  pub said : part_fits F part ≡ true → r part ≡ true
  pub others : (other : Part) → (other ≡ part → ⊥) → r other ≡ p other

-- a shared frozen node leads to another
abbrev pub leads_on : Frame → pictures.Picture → ℕ → ℕ → Bool
leads_on F p q r = is_fast F.header p q && p (Part.Leads (place q 0) r)

-- a chain to q is one to r too: there is one pointer field, q is shared and frozen, and its pointer leads to r
abbrev pub chain_extends : Frame → pictures.Picture → ℕ → ℕ → Bool
chain_extends F p q r = chains_are_there F && leads_on F p q r

-- the slot of the stop node that a chain has for a key
abbrev pub stop_slot : pictures.Picture → KeyName → ℕ → ℕ → Option ℕ
stop_slot p k i q = if p (Part.Picks k i q 0) then Some 0 else if p (Part.Picks k i q 1) then Some 1 else None

-- the answer of a rule that needs nothing
abbrev pub is_true_of : Result Bool ℕ → Bool
is_true_of (Ok b) = b
is_true_of (Err n) = false
