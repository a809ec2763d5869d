-- None so far is behind.
use Rattle.std.proofs.Common.{ℕ, ◌<◌, slice_index}
use Rattle.plank_board.proofs.questions.first_behind.Given as goal

abbrev pub invariant-loop-m : goal.invariant-loop-m
invariant-loop-m l = (j : ℕ) → j < l.m → l.epoch < slice_index l.noted j
