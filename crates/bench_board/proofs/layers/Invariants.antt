-- The rules so far are for so many methods and words.
use Rattle.std.proofs.Common.{◌≡◌}
use Rattle.bench_board.proofs.layers.Given as goal

abbrev pub invariant-loop-i : goal.invariant-loop-i
invariant-loop-i l = (l.table.methods ≡ 16) × (l.table.words ≡ 3072)
