use Rattle.std.specs.Prelude.{◌≡◌, ℕ}
use Rattle.plank_bits.specs.Words.{has}
use Rattle.plank_pic.specs.Below.{some_below}
use Rattle.plank_rely.specs.Candidates.{is_reached}
use Rattle.plank_rely.proofs.candidates.reached.Given as goal

abbrev pub invariant-loop-i : goal.invariant-loop-i
invariant-loop-i l = (k : ℕ) → has l.set k ≡ some_below (is_reached l.numbers l.answers k) l.i
