-- The desks but one.
use Rattle.std.proofs.Common.{◌≡◌, length, rules}
use Rattle.std.proofs.lemmas.List.Elements.{All-same}
use Rattle.plank_crew.specs.declared.desks.Desk.{Desk}
use Rattle.plank_board.specs.Seats.{IsSeatOfOne}
use Rattle.plank_crew.specs.Desks.{HasLeft}
use Rattle.plank_crew.proofs.Joining.{written_front}
use Rattle.plank_crew.proofs.crews.crew_named.Goals as goal

pub join_desks-all-requires-clause-seats : goal.join_desks-all-requires-clause-seats
join_desks-all-requires-clause-seats g c κs within =
    let IsDesk = λ (d : Desk g.row.N.Denot). IsSeatOfOne c.in_ok-board.board.table d.seat × HasLeft d.left d.seat in
    let size : length c.work_all.new.desks ≡ length c.in_ok-desks.desks.items = search rules in
    All-same IsDesk _ _ c.pop.ensures.rest (written_front IsDesk _ _ c.work_all.new.desks c.in_ok-desks.desks.items size c.work_all.ensures)
