-- The methods so far are settled.
use Rattle.std.proofs.Common.{ℕ, ◌<◌, ◌≤◌, slice_index}
use Rattle.plank_crew.proofs.rounds.first_behind.Given as goal

abbrev pub invariant-loop-m : goal.invariant-loop-m
invariant-loop-m g l =
    (n : ℕ) → l.from ≤ n → n < l.m → l.seat.view.epoch < slice_index l.seat.view.noted n
