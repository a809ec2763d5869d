-- A part with other names in the place of its names. Lawful pictures use it to say that a part says the same of each name
-- of a node.
use Rattle.std.specs.Prelude.{ℕ, ◌==◌, if◌then◌else◌}
use Rattle.plank_pic.specs.declared.parts.Term.{Term}
use Rattle.plank_pic.specs.declared.parts.Place.{Place}
use Rattle.plank_pic.specs.declared.parts.Part.{Part}

abbrev pub rename : (ℕ → ℕ) → Place → Place
rename r x = record { name = r x.name; pointer = x.pointer }

abbrev pub rename_term : (ℕ → ℕ) → Term → Term
rename_term r (Term.Node i) = Term.Node (r i)
rename_term r Term.Min = Term.Min
rename_term r Term.Max = Term.Max
rename_term r (Term.Walked k) = Term.Walked k
rename_term r (Term.Stop k s) = Term.Stop k s

-- the part with each name i in it read as r i
abbrev pub rename_part : (ℕ → ℕ) → Part → Part
rename_part r (Part.Null i) = Part.Null (r i)
rename_part r (Part.Same i j) = Part.Same (r i) (r j)
rename_part r (Part.Flag i f) = Part.Flag (r i) f
rename_part r (Part.Shared i) = Part.Shared (r i)
rename_part r (Part.Mine i) = Part.Mine (r i)
rename_part r (Part.Locked i) = Part.Locked (r i)
rename_part r (Part.LockMine i) = Part.LockMine (r i)
rename_part r (Part.LockOthers i) = Part.LockOthers (r i)
rename_part r (Part.PointerNull x) = Part.PointerNull (rename r x)
rename_part r (Part.Beyond x) = Part.Beyond (rename r x)
rename_part r (Part.Leads x j) = Part.Leads (rename r x) (r j)
rename_part r (Part.SameBeyond x y) = Part.SameBeyond (rename r x) (rename r y)
rename_part r (Part.AtMost s t) = Part.AtMost (rename_term r s) (rename_term r t)
rename_part r (Part.Visits k i) = Part.Visits k (r i)
rename_part r (Part.InSet k) = Part.InSet k
rename_part r Part.Spent = Part.Spent
rename_part r (Part.Chain i j) = Part.Chain (r i) (r j)
rename_part r (Part.Picks k i j s) = Part.Picks k (r i) (r j) s
rename_part r (Part.StopFlag k s f) = Part.StopFlag k s f
rename_part r (Part.StopVisited k s) = Part.StopVisited k s

-- i in the place of j
abbrev pub instead : ℕ → ℕ → ℕ → ℕ
instead i j m = if m == j then i else m
