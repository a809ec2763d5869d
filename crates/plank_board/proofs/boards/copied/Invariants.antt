-- The words so far are the same.
use Rattle.std.proofs.Common.{◌≡◌, ℕ, ◌<◌, length, slice_index}
use Rattle.plank_board.proofs.boards.copied.Given as goal

abbrev pub invariant-loop-i : goal.invariant-loop-i
invariant-loop-i l = record {
  same_length : length l.copy ≡ length l.marks;
  so_far : (j : ℕ) → j < l.i → slice_index l.copy j ≡ slice_index l.marks j;
}
