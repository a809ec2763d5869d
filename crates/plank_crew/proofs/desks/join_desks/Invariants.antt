-- The seats so far are joined.
use Rattle.std.proofs.Common.{◌≡◌, ◌+◌, All, vec_len}
use Rattle.plank_board.specs.Seats.{IsSeatOfOne}
use Rattle.plank_crew.specs.Desks.{HasLeft}
use Rattle.plank_crew.proofs.desks.join_desks.Given as goal

abbrev pub invariant-loop-desk : goal.invariant-loop-desk
invariant-loop-desk g l = record {
  board : l.all.seat.table ≡ l.board.table;
  parts : l.all.seat.view.parts + vec_len l.desks ≡ 1 + vec_len l.fn.desks;
  left : HasLeft l.all.left l.all.seat;
  seats : All (λ d. IsSeatOfOne l.board.table d.seat × HasLeft d.left d.seat) l.desks.items;
}

abbrev pub decreases-loop-desk : goal.decreases-loop-desk
decreases-loop-desk g l = vec_len l.desks
