-- Which parts a step keeps, as can be read off its turn: those of names that come from themselves and of fields that are
-- not written. A search has one number for such a part of the picture before and of the picture after.
use Rattle.std.specs.Prelude.{◌≡◌, ℕ, Bool, true, false, ◌&&◌, ◌==◌, Option, Some, is_none}
use Rattle.std.specs.Option.{option_map_or}
use Rattle.plank_pic.specs.declared.parts.Term.{Term}
use Rattle.plank_pic.specs.declared.parts.Part.{Part}
use Rattle.plank_pic.specs.Frames.{Frame}
use Rattle.plank_pic.specs.Pictures.{Picture}
use Rattle.plank_pic.specs.Steps.{Change, Source, Of, Null, Fresh}
use Rattle.plank_pic.specs.TestedSteps.{stepped}
use Rattle.plank_reach.specs.declared.stepping.Stepping.{Stepping}
use Rattle.plank_reach.specs.Steps.{change_in, names_in}

-- ---- what is not written

abbrev pub leaves_flag : Option Change → ℕ → Bool
leaves_flag o f = option_map_or (λ c. is_none (c.flag f)) o true

abbrev pub leaves_pointer : Option Change → ℕ → Bool
leaves_pointer o f = option_map_or (λ c. is_none (c.pointer f)) o true

abbrev pub leaves_lock : Option Change → Bool
leaves_lock o = option_map_or (λ c. is_none c.lock) o true

-- ---- names that come from themselves

abbrev pub is_from : Source → ℕ → Bool
is_from (Of n) i = n == i
is_from Null i = false
is_from Fresh i = false

abbrev pub stays : (ℕ → Source) → ℕ → Bool
stays from i = is_from (from i) i

abbrev pub both_stay : (ℕ → Source) → ℕ → ℕ → Bool
both_stay from i j = stays from i && stays from j

abbrev pub term_stays : (ℕ → Source) → Term → Bool
term_stays from (Term.Node i) = stays from i
term_stays from Term.Min = true
term_stays from Term.Max = true
term_stays from (Term.Walked k) = true
term_stays from (Term.Stop k s) = true

-- ---- the parts

-- the parts of names alone, of keys alone, and of flags, locks and pointers
abbrev pub is_kept : Option Change → (ℕ → Source) → Part → Bool
is_kept o from (Part.Null i) = stays from i
is_kept o from (Part.Same i j) = both_stay from i j
is_kept o from (Part.Flag i f) = stays from i && leaves_flag o f
is_kept o from (Part.Shared i) = stays from i && is_none o
is_kept o from (Part.Mine i) = stays from i && is_none o
is_kept o from (Part.Locked i) = stays from i && leaves_lock o
is_kept o from (Part.LockMine i) = stays from i && leaves_lock o
is_kept o from (Part.LockOthers i) = stays from i && leaves_lock o
is_kept o from (Part.PointerNull x) = stays from x.name && leaves_pointer o x.pointer
is_kept o from (Part.Leads x j) = both_stay from x.name j && leaves_pointer o x.pointer
is_kept o from (Part.AtMost s t) = term_stays from s && term_stays from t
is_kept o from (Part.Visits k i) = stays from i && is_none o
is_kept o from (Part.InSet k) = is_none o
is_kept o from (Part.StopFlag k s f) = is_none o
is_kept o from (Part.StopVisited k s) = is_none o
is_kept o from (Part.Chain i j) = both_stay from i j && is_none o
is_kept o from (Part.Beyond x) = false
is_kept o from (Part.SameBeyond x y) = false
is_kept o from (Part.Picks k i j s) = false
is_kept o from Part.Spent = false

-- a step keeps such parts; where there is no step each part is kept
abbrev pub is_kept_by : Option Stepping → Part → Bool
is_kept_by o part = option_map_or (λ s. is_kept (change_in s) (names_in s) part) o true

-- what it keeps is after it as before
abbrev pub KeepsPart : Frame → Option Change → (ℕ → Source) → Picture → Part → Type 0
KeepsPart F o from before part = is_kept o from part ≡ true → stepped F o from before part ≡ Some (before part)
