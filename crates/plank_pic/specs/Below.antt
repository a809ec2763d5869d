-- Tests of the numbers below a bound: whether one passes, and the least that does. Pictures use them for names, for
-- pointer fields and for slots of stop nodes.
use Rattle.std.specs.Prelude.{ℕ, zero, suc, Bool, false, ◌||◌, if◌then◌else◌, Option, Some, None}

-- whether a number below n passes
unfoldable pub some_below : (ℕ → Bool) → ℕ → Bool
some_below test zero = false
some_below test (suc n) = some_below test n || test n

-- what was found, or else this number where it passes
abbrev pub found_or : ℕ → Bool → Option ℕ → Option ℕ
found_or n passes (Some i) = Some i
found_or n passes None = if passes then Some n else None

-- the least number below n that passes
unfoldable pub least_below : (ℕ → Bool) → ℕ → Option ℕ
least_below test zero = None
least_below test (suc n) = found_or n (test n) (least_below test n)
