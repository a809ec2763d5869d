-- What the indexes of rules stand for: numbers of keys, of pointer fields of named nodes and of terms.
use Rattle.std.specs.Prelude.{ℕ, ◌+◌, ◌-◌, ◌*◌, ◌/◌, ◌%◌, ◌==◌, nat_lt, if◌then◌else◌}
use Rattle.plank_pic.specs.declared.parts.KeyName.{KeyName}
use Rattle.plank_pic.specs.declared.parts.Term.{Term}
use Rattle.plank_pic.specs.declared.parts.Place.{Place}
use Rattle.plank_pic.specs.Frames.{Frame}
use Rattle.plank_pic.specs.Pictures.{place}
use Rattle.plank_pic.specs.Lawful.{slot_count}

abbrev pub key_at : ℕ → KeyName
key_at n = if n == 0 then KeyName.Own else if n == 1 then KeyName.Other else KeyName.Any

-- the first pointer field of each name, then the second
abbrev pub place_at : Frame → ℕ → Place
place_at F n = place (n % F.names) (n / F.names)

-- the terms that are no names': the ends, the walked keys, and the stop nodes slot by slot
abbrev pub fixed_term : ℕ → Term
fixed_term n =
    if n == 0 then Term.Min else if n == 1 then Term.Max else if nat_lt n 5 then Term.Walked (key_at (n - 2))
    else Term.Stop (key_at ((n - 5) % 3)) ((n - 5) / 3)

abbrev pub fixed_count : Frame → ℕ
fixed_count F = 5 + 3 * slot_count F

-- the names' terms, and then the others
abbrev pub term_at : Frame → ℕ → Term
term_at F n = if nat_lt n F.names then Term.Node n else fixed_term (n - F.names)
