-- The words so far are 0.
use Rattle.std.proofs.Common.{◌≡◌, ℕ, ◌<◌, length, slice_index}
use Rattle.plank_board.proofs.boards.no_marks.Given as goal

abbrev pub invariant-loop-i : goal.invariant-loop-i
invariant-loop-i l = record {
  same_length : length l.marks ≡ l.words;
  so_far : (j : ℕ) → j < l.i → slice_index l.marks j ≡ 0;
}
