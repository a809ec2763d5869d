-- What follows in a picture: clauses of two or three parts that every picture of a frame meets, and what is known of a
-- picture that a search has decided in part.
use Rattle.std.specs.Prelude.{◌≡◌, ℕ, Bool, not, List, Option, Some, None}
use Rattle.plank_pic.specs.declared.parts.Part.{Part}
use Rattle.plank_pic.specs.Frames.{Frame}
use Rattle.plank_pic.specs.Pictures.{Picture}
use Rattle.plank_pic.specs.Lawful.{IsPicture}
use Rattle.plank_search.specs.Assignments.{Agrees}
use Rattle.plank_parts.specs.declared.sides.Side.{Side}
use Rattle.plank_parts.specs.Numbers.{Numbers, picture_of}
use Rattle.plank_close.specs.declared.saying.Said.{Said}

abbrev pub said : Part → Bool → Said
said part value = record { part = part; value = value }

-- a full assignment under which names, nodes, pointers and keys fit together
abbrev pub Shows : Numbers → Side → (ℕ → Bool) → Type 0
Shows N side full = IsPicture N.frame (picture_of N side full)

-- the value of a part of the picture, where it is known
abbrev pub Knows : Numbers → Side → List (Option Bool) → Part → Option Bool → Type 0
Knows N side values part (Some value) = (full : ℕ → Bool) → Agrees values full → picture_of N side full part ≡ value
Knows N side values part None = Unit {0}

-- the picture says so, or says the opposite, whatever is still open
abbrev pub IsSaid : Numbers → Side → List (Option Bool) → Said → Type 0
IsSaid N side values a = (full : ℕ → Bool) → Agrees values full → picture_of N side full a.part ≡ a.value

abbrev pub IsDenied : Numbers → Side → List (Option Bool) → Said → Type 0
IsDenied N side values a = (full : ℕ → Bool) → Agrees values full → picture_of N side full a.part ≡ not a.value

-- each picture that agrees says so
abbrev pub Follows : Numbers → Side → List (Option Bool) → Said → Type 0
Follows N side values a = (full : ℕ → Bool) → Shows N side full → Agrees values full → picture_of N side full a.part ≡ a.value

-- of each picture of the frame: the one implies the other; where two are denied the third is so
abbrev pub Implies : Frame → Said → Said → Type 0
Implies F a b = (p : Picture) → IsPicture F p → p a.part ≡ a.value → p b.part ≡ b.value

abbrev pub IsClause : Frame → Said → Said → Said → Type 0
IsClause F a b c = (p : Picture) → IsPicture F p → p a.part ≡ not a.value → p b.part ≡ not b.value → p c.part ≡ c.value
