-- The parts are cut, and both seats are idle.
use Rattle.std.proofs.Common.{◌≡◌, ◌<◌, ◌∙◌, ap, arith, rules}
use Rattle.plank_board.specs.Events.{kept_part, given_part}
use Rattle.plank_board.proofs.Idle.{idle_by, sits_parts, splits_kept}
use Rattle.plank_board.proofs.boards.Board.split.Goals as goal

pub split_seat-place-requires : goal.split_seat-place-requires
split_seat-place-requires g c =
    let N = g.N.Named in
    let here : c.seat.inside.place.table_id ≡ c.self.inside.table.shared.table_id = search rules in
    let several : 1 < c.seat.inside.place.me.0.parts = search rules in
    (here, omega (arith, c.self.invariant.0), splits_kept N.methods N.words N.forces N.still N.monotone c.self.inside.table.shared.key c.seat.inside.place.id c.seat.inside.place.me.0 several c.seat.invariant.2)

pub invariant_of-result : goal.invariant_of-result
invariant_of-result g c =
    let N = g.N.Named in
    let v = c.seat.inside.place.me.0 in
    let inv = c.seat.invariant in
    idle_by N.methods N.words N.forces _ (given_part v) _ _ _ c.split_seat-place.ensures.4 (sits_parts N.methods N.words N.forces v v.events 1 (omega arith) inv.1) inv.2 inv.3 (c.in_ok-look.ensures ∙ inv.4) (search rules)

pub invariant_of-seat : goal.invariant_of-seat
invariant_of-seat g c =
    let N = g.N.Named in
    let v = c.seat.inside.place.me.0 in
    let inv = c.seat.invariant in
    let several : 1 < c.seat.inside.place.me.0.parts = search rules in
    idle_by N.methods N.words N.forces _ (kept_part v) _ _ _ (c.split_seat-place.ensures.2 ∙ ap (λ m. (kept_part v, m)) inv.0) (sits_parts N.methods N.words N.forces v _ _ (omega arith) inv.1) inv.2 inv.3 inv.4 inv.5
