-- A code for each part, whatever its frame: a kind and two digits. The tables of a numbering are read by it.
use Rattle.std.specs.Prelude.{ℕ, ◌+◌, ◌-◌, ◌*◌, ◌/◌, ◌%◌, ◌==◌, nat_lt, if◌then◌else◌}
use Rattle.plank_pic.specs.declared.parts.KeyName.{KeyName}
use Rattle.plank_pic.specs.declared.parts.Term.{Term}
use Rattle.plank_pic.specs.declared.parts.Place.{Place}
use Rattle.plank_pic.specs.declared.parts.Part.{Part}
use Rattle.plank_pic.specs.Pictures.{place}

abbrev pub key_digit : KeyName → ℕ
key_digit KeyName.Own = 0
key_digit KeyName.Other = 1
key_digit KeyName.Any = 2

-- below 6
abbrev pub stop_digit : KeyName → ℕ → ℕ
stop_digit k s = 2 * key_digit k + s

-- below 32
abbrev pub place_digit : Place → ℕ
place_digit x = x.pointer * 16 + x.name

-- names are apart from the other terms, each below 16
abbrev pub term_kind : Term → ℕ
term_kind (Term.Node i) = 0
term_kind Term.Min = 1
term_kind Term.Max = 1
term_kind (Term.Walked k) = 1
term_kind (Term.Stop k s) = 1

abbrev pub term_digit : Term → ℕ
term_digit (Term.Node i) = i
term_digit Term.Min = 0
term_digit Term.Max = 1
term_digit (Term.Walked k) = 2 + key_digit k
term_digit (Term.Stop k s) = 5 + stop_digit k s

-- a kind, a digit below 16 and one below 32
abbrev pub code_of : ℕ → ℕ → ℕ → ℕ
code_of kind a b = (kind * 16 + a) * 32 + b

abbrev pub part_code : Part → ℕ
part_code (Part.Null i) = code_of 0 0 i
part_code (Part.Shared i) = code_of 0 1 i
part_code (Part.Mine i) = code_of 0 2 i
part_code (Part.Locked i) = code_of 0 3 i
part_code (Part.LockMine i) = code_of 0 4 i
part_code (Part.LockOthers i) = code_of 0 5 i
part_code (Part.Visits k i) = code_of 0 (6 + key_digit k) i
part_code (Part.PointerNull x) = code_of 0 (9 + x.pointer) x.name
part_code (Part.Beyond x) = code_of 0 (11 + x.pointer) x.name
part_code (Part.InSet k) = code_of 0 13 (key_digit k)
part_code Part.Spent = code_of 0 14 0
part_code (Part.StopVisited k s) = code_of 0 15 (stop_digit k s)
part_code (Part.Flag i f) = code_of 1 i f
part_code (Part.StopFlag k s f) = code_of 2 (stop_digit k s) f
part_code (Part.Same i j) = code_of 3 i j
part_code (Part.Chain i j) = code_of 4 i j
part_code (Part.Leads x j) = code_of (5 + x.pointer) x.name j
part_code (Part.SameBeyond x y) = code_of (7 + x.pointer) x.name (place_digit y)
part_code (Part.AtMost s t) = code_of (9 + term_kind s) (term_digit s) (16 * term_kind t + term_digit t)
part_code (Part.Picks k i j s) = code_of (11 + stop_digit k s) i j

-- ---- back

abbrev pub key_from : ℕ → KeyName
key_from n = if n == 0 then KeyName.Own else if n == 1 then KeyName.Other else KeyName.Any

abbrev pub place_from : ℕ → Place
place_from n = place (n % 16) (n / 16)

abbrev pub fixed_term : ℕ → Term
fixed_term n =
    if n == 0 then Term.Min else if n == 1 then Term.Max
    else if nat_lt n 5 then Term.Walked (key_from (n - 2)) else Term.Stop (key_from ((n - 5) / 2)) ((n - 5) % 2)

abbrev pub term_from : ℕ → Term
term_from n = if nat_lt n 16 then Term.Node n else fixed_term (n - 16)

-- the parts of one name and no pointer
abbrev pub name_part : ℕ → ℕ → Part
name_part a i =
    if a == 0 then Part.Null i else if a == 1 then Part.Shared i else if a == 2 then Part.Mine i
    else if a == 3 then Part.Locked i else if a == 4 then Part.LockMine i else if a == 5 then Part.LockOthers i
    else Part.Visits (key_from (a - 6)) i

-- the parts of a pointer alone, and those of no name
abbrev pub lone_part : ℕ → ℕ → Part
lone_part a b =
    if nat_lt a 11 then Part.PointerNull (place b (a - 9)) else if nat_lt a 13 then Part.Beyond (place b (a - 11))
    else if a == 13 then Part.InSet (key_from b) else if a == 14 then Part.Spent
    else Part.StopVisited (key_from (b / 2)) (b % 2)

-- the parts of two names
abbrev pub pair_part : ℕ → ℕ → ℕ → Part
pair_part kind a b =
    if kind == 3 then Part.Same a b else if kind == 4 then Part.Chain a b
    else if nat_lt kind 7 then Part.Leads (place a (kind - 5)) b else Part.SameBeyond (place a (kind - 7)) (place_from b)

abbrev pub part_from : ℕ → ℕ → ℕ → Part
part_from kind a b =
    if kind == 0 then (if nat_lt a 9 then name_part a b else lone_part a b)
    else if kind == 1 then Part.Flag a b else if kind == 2 then Part.StopFlag (key_from (a / 2)) (a % 2) b
    else if nat_lt kind 9 then pair_part kind a b
    else if nat_lt kind 11 then Part.AtMost (term_from (16 * (kind - 9) + a)) (term_from b)
    else Part.Picks (key_from ((kind - 11) / 2)) a b ((kind - 11) % 2)

-- the part of a code
abbrev pub part_of : ℕ → Part
part_of code = part_from (code / 32 / 16) (code / 32 % 16) (code % 32)
