-- Where names come from in a turn's step, or each from itself where the turn's binds are left out; and what a part says
-- under such names of a picture that is known.
use Rattle.std.specs.Prelude.{ℕ, Bool, true, false, not, ◌&&◌, unwrap_or}
use Rattle.plank_pic.specs.declared.parts.Place.{Place}
use Rattle.plank_pic.specs.declared.parts.Part.{Part}
use Rattle.plank_pic.specs.Frames.{Frame}
use Rattle.plank_pic.specs.Pictures.{Picture, place}
use Rattle.plank_pic.specs.Steps.{Source, Of, renamed}
use Rattle.plank_pic.specs.Blocks.{Turn, source}

-- with the binds, or without them
abbrev pub sources : Turn → Bool → ℕ → Source
sources s true = Of
sources s false = source s

-- the value of a part under other names, where it has one whatever the write leaves
abbrev pub named_as : Frame → (ℕ → Source) → Picture → Part → Bool
named_as F from W part = unwrap_or (renamed F from W part) false

-- two pointers lead to one named node
abbrev pub both_lead : Picture → Place → Place → ℕ → Bool
both_lead W x y m = W (Part.Leads x m) && W (Part.Leads y m)

-- a name's pointer leads somewhere
abbrev pub has_pointer : Picture → ℕ → ℕ → Bool
has_pointer W f n = not (W (Part.Null n)) && not (W (Part.PointerNull (place n f)))

-- the value of a part of one name and no pointer
abbrev pub said_of_name : Frame → (ℕ → Source) → Picture → Part → Bool
said_of_name F from W (Part.Null i) = named_as F from W (Part.Null i)
said_of_name F from W (Part.Flag i f) = named_as F from W (Part.Flag i f)
said_of_name F from W (Part.Shared i) = named_as F from W (Part.Shared i)
said_of_name F from W (Part.Mine i) = named_as F from W (Part.Mine i)
said_of_name F from W (Part.Locked i) = named_as F from W (Part.Locked i)
said_of_name F from W (Part.LockMine i) = named_as F from W (Part.LockMine i)
said_of_name F from W (Part.LockOthers i) = named_as F from W (Part.LockOthers i)
said_of_name F from W (Part.Same i j) = false
said_of_name F from W (Part.PointerNull x) = false
said_of_name F from W (Part.Beyond x) = false
said_of_name F from W (Part.Leads x j) = false
said_of_name F from W (Part.SameBeyond x y) = false
said_of_name F from W (Part.AtMost s t) = false
said_of_name F from W (Part.Visits k i) = false
said_of_name F from W (Part.InSet k) = false
said_of_name F from W Part.Spent = false
said_of_name F from W (Part.Chain i j) = false
said_of_name F from W (Part.Picks k i j s) = false
said_of_name F from W (Part.StopFlag k s f) = false
said_of_name F from W (Part.StopVisited k s) = false

-- the value of a part that the write determines; nothing is said of the others here
abbrev pub settled_as : Frame → (ℕ → Source) → Picture → Part → Bool
settled_as F from W (Part.Same i j) = named_as F from W (Part.Same i j)
settled_as F from W (Part.PointerNull x) = named_as F from W (Part.PointerNull x)
settled_as F from W (Part.Beyond x) = named_as F from W (Part.Beyond x)
settled_as F from W (Part.Leads x j) = named_as F from W (Part.Leads x j)
settled_as F from W (Part.SameBeyond x y) = named_as F from W (Part.SameBeyond x y)
settled_as F from W (Part.AtMost s t) = named_as F from W (Part.AtMost s t)
settled_as F from W part = said_of_name F from W part
