-- One more seat is joined.
use Rattle.std.proofs.Common.{◌∙◌, Option, sym, subst, arith}
use Rattle.std.specs.Option.{IfSome}
use Rattle.std.proofs.lemmas.Bool.{false≢true}
use Rattle.std.proofs.lemmas.List.Elements.{All-pop}
use Rattle.plank_crew.specs.declared.desks.Desk.{Desk}
use Rattle.plank_board.specs.Seats.{IsSeatOfOne}
use Rattle.plank_crew.specs.Desks.{HasLeft}
use Rattle.plank_crew.proofs.Joining.{parts_joined, left_joined}
use Rattle.plank_crew.proofs.desks.join_desks.Goals as goal

pub loop-desk-preserved-then-all : goal.loop-desk-preserved-then-all
loop-desk-preserved-then-all g c =
    let IsDesk = λ (d : Desk g.row.N.Denot). IsSeatOfOne c.args.board.now.table d.seat × HasLeft d.left d.seat in
    let popped = All-pop IsDesk _ _ _ c.pop.ensures.items c.loop-desk.invariant.seats in
    let one = subst (λ (r : Option (Desk g.row.N.Denot)). IfSome r IsDesk) c.in-Some.is popped.1 in
    record {
      board = c.join.ensures.board ∙ c.loop-desk.invariant.board;
      parts = omega (arith, parts_joined c.join.new.seat.view c.loop-desk.all.seat.view c.in-Some.desk.seat.view c.join.ensures.joined one.0.1, c.loop-desk.invariant.parts, c.in-Some.ensures.cases);
      left = λ e. left_joined c.join.new.seat.view c.loop-desk.all.seat.view c.in-Some.desk.seat.view c.join.ensures.joined (c.loop-desk.invariant.left c.if-all.true) (one.1 e);
      seats = popped.0;
    }

pub loop-desk-preserved : goal.loop-desk-preserved
loop-desk-preserved g c =
    let IsDesk = λ (d : Desk g.row.N.Denot). IsSeatOfOne c.args.board.now.table d.seat × HasLeft d.left d.seat in
    let popped = All-pop IsDesk _ _ _ c.pop.ensures.items c.loop-desk.invariant.seats in
    let one = subst (λ (r : Option (Desk g.row.N.Denot)). IfSome r IsDesk) c.in-Some.is popped.1 in
    record {
      board = c.join.ensures.board ∙ c.loop-desk.invariant.board;
      parts = omega (arith, parts_joined c.join.new.seat.view c.loop-desk.all.seat.view c.in-Some.desk.seat.view c.join.ensures.joined one.0.1, c.loop-desk.invariant.parts, c.in-Some.ensures.cases);
      left = λ e. absurd (false≢true (sym c.if-all.false ∙ e));
      seats = popped.0;
    }
