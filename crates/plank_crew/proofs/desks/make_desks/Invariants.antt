-- The desks so far have a part each, and the seat has the others.
use Rattle.std.proofs.Common.{◌≡◌, ◌+◌, All, vec_len}
use Rattle.plank_board.specs.Seats.{IsSeatOfOne}
use Rattle.plank_crew.proofs.desks.make_desks.Given as goal

abbrev pub invariant-loop-worker : goal.invariant-loop-worker
invariant-loop-worker g l = record {
  board : l.seat.table ≡ l.board.table;
  parts : l.seat.view.parts + l.worker ≡ l.workers + 1;
  many : vec_len l.desks + 1 ≡ l.worker;
  seats : All (λ d. IsSeatOfOne l.board.table d.seat) l.desks.items;
}
