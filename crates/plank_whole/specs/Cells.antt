-- Cells of a whole picture that say no, in rows of 32; a picture has at most half so many names.
use Rattle.std.specs.Prelude.{ℕ, ◌+◌, ◌*◌, Bool, false, not, ◌&&◌, List, slice_index_or}
use Rattle.plank_pic.specs.declared.parts.KeyName.{KeyName}
use Rattle.plank_pic.specs.declared.parts.Part.{Part}
use Rattle.plank_lawful.specs.Asked.{all_below}
use Rattle.plank_parts.specs.Codes.{part_code}

-- a cell says no
abbrev pub is_unsaid : List Bool → ℕ → ℕ → Bool
is_unsaid said base b = not (slice_index_or said (base + b) false)

-- the first n cells of a row, and those of n rows
abbrev pub row_is_unsaid : List Bool → ℕ → ℕ → Bool
row_is_unsaid said n base = all_below (is_unsaid said base) n

abbrev pub are_unsaid : List Bool → ℕ → ℕ → Bool
are_unsaid said n base = all_below (λ i. row_is_unsaid said n (base + 32 * i)) n

-- no chain from i has a stop node for the key k
abbrev pub chain_picks_neither : List Bool → ℕ → KeyName → ℕ → Bool
chain_picks_neither said n k i = row_is_unsaid said n (part_code (Part.Picks k i 0 0)) && row_is_unsaid said n (part_code (Part.Picks k i 0 1))
