-- The other seat is spent, and the seat is idle.
use Rattle.std.proofs.Common.{◌≡◌, ◌∙◌, ap, arith, rules}
use Rattle.plank_board.specs.Events.{joined}
use Rattle.plank_board.proofs.Idle.{idle_by, sits_joined, joins_kept}
use Rattle.plank_board.proofs.boards.Board.join.Goals as goal

pub join_seat-requires : goal.join_seat-requires
join_seat-requires g c =
    let N = g.N.Named in
    let here : c.seat.inside.place.table_id ≡ c.self.inside.table.shared.table_id = search rules in
    let there : c.other.inside.place.table_id ≡ c.self.inside.table.shared.table_id = search rules in
    (here, there, c.other.invariant.0, omega (arith, c.self.invariant.0), joins_kept N.methods N.words N.forces N.still N.monotone c.self.inside.table.shared.key c.seat.inside.place.id c.other.inside.place.id c.seat.inside.place.me.0 c.other.inside.place.me.0 c.seat.invariant.1.parts c.seat.invariant.2 c.other.invariant.2)

pub invariant_of-seat : goal.invariant_of-seat
invariant_of-seat g c =
    let N = g.N.Named in
    let v = c.seat.inside.place.me.0 in
    let w = c.other.inside.place.me.0 in
    let inv = c.seat.invariant in
    idle_by N.methods N.words N.forces _ (joined v w) _ _ _ (c.join_seat.ensures.2 ∙ ap (λ m. (joined v w, m)) inv.0) (sits_joined N.methods N.words N.forces v w inv.1 c.other.invariant.1) inv.2 inv.3 inv.4 inv.5
