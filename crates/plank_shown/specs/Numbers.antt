-- Numbers of facts that are in a set, one after the other, and numbers that stand at some places of a list.
use Rattle.std.specs.Prelude.{ℕ, ◌*◌, ◌==◌, nat_lt, Bool, ◌&&◌, List, slice_index_or, Option, Some, None, if◌then◌else◌}
use Rattle.plank_base.specs.declared.limits.TheConstants.{MARK_WORDS_PER_LOCATION}

abbrev pub picked : (ℕ → Bool) → ℕ → Option ℕ
picked set n = if set n then Some n else None

-- the number at a place of the list is k, and the place is one of these
abbrev pub is_at : List ℕ → (ℕ → Bool) → ℕ → ℕ → Bool
is_at numbers places k i =
    places i && (nat_lt (slice_index_or numbers i 0) (64 * MARK_WORDS_PER_LOCATION)) && (k == slice_index_or numbers i 0)
