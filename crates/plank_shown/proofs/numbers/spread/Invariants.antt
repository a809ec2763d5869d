use Rattle.std.specs.Prelude.{◌≡◌, ℕ, ◌||◌}
use Rattle.plank_bits.specs.Words.{has}
use Rattle.plank_pic.specs.Below.{some_below}
use Rattle.plank_shown.specs.Numbers.{is_at}
use Rattle.plank_shown.proofs.numbers.spread.Given as goal

abbrev pub invariant-loop-place : goal.invariant-loop-place
invariant-loop-place l = (k : ℕ) → has l.all k ≡ (has l.set k || some_below (is_at l.numbers (has l.places) k) l.place)
