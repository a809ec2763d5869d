-- One more desk.
use Rattle.std.proofs.Common.{◌≡◌, ◌-◌, ◌∙◌, false, [], ◌∷◌, ◌++◌, ap, rules, arith}
use Rattle.std.proofs.lemmas.List.Elements.{All-push, All-same}
use Rattle.plank_board.specs.declared.views.View.{View}
use Rattle.plank_crew.specs.declared.desks.Desk.{Desk}
use Rattle.plank_board.specs.Seats.{IsSeatOfOne}
use Rattle.plank_crew.proofs.desks.make_desks.Goals as goal

pub loop-worker-preserved : goal.loop-worker-preserved
loop-worker-preserved g c =
    let kept : c.split.new.seat.view.parts ≡ c.loop-worker.seat.view.parts - 1 = ap (λ (v : View). v.parts) c.in_ok-part.ensures.kept in
    let given : c.in_ok-part.part.view.parts ≡ 1 = ap (λ (v : View). v.parts) c.in_ok-part.ensures.given in
    let IsDesk = λ (d : Desk g.row.N.Denot). IsSeatOfOne c.args.board.now.table d.seat in
    record {
      board = c.in_ok-part.ensures.board.0 ∙ c.loop-worker.invariant.board;
      parts = omega (arith, kept, c.loop-worker.invariant.parts, c.loop-worker-test.true);
      many = search rules;
      seats = All-same IsDesk c.push.new.self.items (c.loop-worker.desks.items ++ record { seat = c.in_ok-part.part; worker = c.loop-worker.worker; left = false } ∷ []) c.in_ok-push.ensures.items (All-push IsDesk c.loop-worker.desks.items (record { seat = c.in_ok-part.part; worker = c.loop-worker.worker; left = false }) c.loop-worker.invariant.seats (c.in_ok-part.ensures.board.1 ∙ c.loop-worker.invariant.board, given));
    }
