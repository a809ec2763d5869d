-- The tests of a step between two whole pictures: a part that is determined is so, and what is said of the call is right.
use Rattle.std.specs.Prelude.{ℕ, Bool, not, ◌&&◌, Option, Some, None}
use Rattle.std.specs.Bool.{beq}
use Rattle.plank_pic.specs.declared.parts.Part.{Part}
use Rattle.plank_pic.specs.Frames.{Frame}
use Rattle.plank_pic.specs.Pictures.{Picture}
use Rattle.plank_pic.specs.Lawful.{part_fits, ◌⇒◌}
use Rattle.plank_pic.specs.Steps.{Change, Source, agrees_with, spent_after}
use Rattle.plank_pic.specs.TestedSteps.{stepped}
use Rattle.plank_parts.specs.Codes.{part_of}

-- what the step determines of a part is so after it, where the frame has the part
abbrev pub part_agrees : Frame → Option Change → (ℕ → Source) → Picture → Picture → Part → Bool
part_agrees F o from B A part = part_fits F part ⇒ agrees_with (stepped F o from B part) (A part)

abbrev pub coded_agrees : Frame → Option Change → (ℕ → Source) → Picture → Picture → ℕ → Bool
coded_agrees F o from B A code = part_agrees F o from B A (part_of code)

-- the written name is not null, and the call is spent as the step says
abbrev pub is_writable : Option Change → Picture → Picture → Bool
is_writable None B A = beq (A Part.Spent) (B Part.Spent)
is_writable (Some c) B A = not (B (Part.Null c.at)) && beq (A Part.Spent) (spent_after B A c.own)
