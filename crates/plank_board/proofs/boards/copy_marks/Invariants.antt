-- The words so far are copied.
use Rattle.std.proofs.Common.{◌≡◌, ℕ, ◌<◌, length, slice_index}
use Rattle.std.specs.Mem.Slots.{slots_items}
use Rattle.plank_board.specs.Words.{mark_word}
use Rattle.plank_board.proofs.boards.copy_marks.Given as goal

abbrev pub invariant-loop-i : goal.invariant-loop-i
invariant-loop-i l = record {
  same_length : length l.last ≡ length l.fn.last;
  so_far : (j : ℕ) → j < l.i → slice_index l.last j ≡ mark_word l.methods (slots_items l.closed.words) j;
}
