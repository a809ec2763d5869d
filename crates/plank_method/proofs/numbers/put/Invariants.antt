use Rattle.std.specs.Prelude.{◌≡◌, ℕ, ◌||◌, length}
use Rattle.plank_bits.specs.Words.{has}
use Rattle.plank_pic.specs.Below.{some_below}
use Rattle.plank_method.specs.Marks.{is_put}
use Rattle.plank_method.proofs.numbers.put.Given as goal

abbrev pub invariant-loop-number : goal.invariant-loop-number
invariant-loop-number l = record {
  same_length : length l.marks ≡ length l.initial.marks;
  set : (k : ℕ) → has l.marks k ≡ (has l.initial.marks k || some_below (is_put (has l.facts) l.first k) l.number);
}
