-- A form of the step that a search likes: no picture between, but one test a part of the picture after. What the write
-- leaves of a part is read under the names that come after. From pictures the two forms are equal.
use Rattle.std.specs.Prelude.{◌≡◌, ◌↔◌, ℕ, ◌<◌, Bool, true, false, if◌then◌else◌, Option, Some, None, unwrap_or}
use Rattle.plank_pic.specs.declared.parts.Place.{Place}
use Rattle.plank_pic.specs.declared.parts.Part.{Part}
use Rattle.plank_pic.specs.Frames.{Frame}
use Rattle.plank_pic.specs.Pictures.{Picture, place}
use Rattle.plank_pic.specs.Lawful.{part_fits, IsPicture, IsPossible}
use Rattle.plank_pic.specs.Steps.{Change, written, agrees_with, spent_after, Source, Of, Null, Fresh, renamed, IsPictureStep}

-- what a write leaves of a part, or what is there without one
abbrev pub left_of : Frame → Picture → Option Change → Part → Option Bool
left_of F B None part = Some (B part)
left_of F B (Some c) part = written F B c part

-- the parts that a write determines
abbrev pub settled : Frame → Picture → Option Change → Picture
settled F B o part = unwrap_or (left_of F B o part) false

abbrev pub left_of_name : (ℕ → Option Bool) → Source → Option Bool
left_of_name left (Of n) = left n
left_of_name left Null = Some false
left_of_name left Fresh = Some false

abbrev pub left_of_both : (ℕ → ℕ → Option Bool) → Source → Source → Option Bool
left_of_both left (Of n) (Of m) = left n m
left_of_both left Fresh Fresh = Some true
left_of_both left s t = Some false

abbrev pub left_of_pick : Picture → (ℕ → ℕ → Option Bool) → Source → Source → Option Bool
left_of_pick W left (Of n) (Of m) = if W (Part.Beyond (place n 0)) then left n m else None
left_of_pick W left s t = Some false

-- what a part is after the whole step, or None where it is free; whether the call is spent is said apart
abbrev pub stepped : Frame → Option Change → (ℕ → Source) → Picture → Part → Option Bool
stepped F o from B (Part.Visits k i) = left_of_name (λ n. left_of F B o (Part.Visits k n)) (from i)
stepped F o from B (Part.InSet k) = left_of F B o (Part.InSet k)
stepped F o from B Part.Spent = None
stepped F o from B (Part.Chain i j) = left_of_both (λ n m. left_of F B o (Part.Chain n m)) (from i) (from j)
stepped F o from B (Part.Picks k i j s) = left_of_pick (settled F B o) (λ n m. left_of F B o (Part.Picks k n m s)) (from i) (from j)
stepped F o from B (Part.StopFlag k s f) = left_of F B o (Part.StopFlag k s f)
stepped F o from B (Part.StopVisited k s) = left_of F B o (Part.StopVisited k s)
stepped F o from B part = renamed F from (settled F B o) part

-- the written name is not null, and the call is spent as the step says
abbrev pub IsWritable : Option Change → Picture → Picture → Type 0
IsWritable None B A = A Part.Spent ≡ B Part.Spent
IsWritable (Some c) B A = (B (Part.Null c.at) ≡ false) × (A Part.Spent ≡ spent_after B A c.own)

pub record IsTestedStep (F : Frame) (o : Option Change) (from : ℕ → Source) (B A : Picture) : Type 0 where
  pub writable : IsWritable o B A
  pub parts : (part : Part) → part_fits F part ≡ true → agrees_with (stepped F o from B part) (A part) ≡ true
  pub possible : IsPossible F A

-- the names after come from names before
abbrev pub ComesFromNames : Frame → (ℕ → Source) → Type 0
ComesFromNames F from = (i n : ℕ) → i < F.names → from i ≡ Of n → n < F.names

abbrev pub StepsAlike : Frame → Option Change → (ℕ → Source) → Picture → Picture → Type 0
StepsAlike F o from B A = ComesFromNames F from → IsPictureStep F o from B A ↔ IsTestedStep F o from B A
