-- Relations of numbers as rows of bits: row a has the numbers to which a is related.
use Rattle.std.specs.Prelude.{ℕ, ◌==◌, Bool, List, slice_index}
use Rattle.std.specs.Int.{bit_at}

-- whether a number is in a row
abbrev pub is_set : ℕ → ℕ → Bool
is_set row b = bit_at row b == 1

-- whether a is related to b
abbrev pub relates : List ℕ → ℕ → ℕ → Bool
relates rows a b = is_set (slice_index rows a) b
