-- A strict order on twelve terms, as an example of a closure: the part 12 a + b says that term a lies below term b.
use Rattle.std.specs.Prelude.{ℕ, ◌+◌, ◌*◌, ◌/◌, ◌%◌, Bool, not, ◌&&◌, ◌||◌}

-- row 144 a + 12 b + c: where a lies below b and b below c, a lies below c
abbrev pub order_row : ℕ → (ℕ → Bool) → Bool
order_row row full = not (full (row / 12) && full (row % 144)) || full (row / 144 * 12 + row % 12)
