-- The two walks say how the key moves.
use Rattle.std.proofs.Common.{sym, ◌∙◌, ap}
use Rattle.plank_pic.specs.Steps.{mixed, movement}
use Rattle.plank_step.specs.Turns.{change_over}
use Rattle.plank_step.proofs.TwoWalks.{movement_is}
use Rattle.plank_whole.specs.Wholes.{frame_of, shown}
use Rattle.plank_whole.proofs.Sure.{nothing, agrees_whole}
use Rattle.plank_whole.proofs.wholes.Picture.moved.Goals as goal

pub returns-in-Ok-moved_along : goal.returns-in-Ok-moved_along
returns-in-Ok-moved_along g c =
    sym (ap (movement (frame_of c.args.self.now) (shown c.args.self.now) (mixed (shown c.args.self.now) (change_over (g.T.TakesTurn.turn c.args.turn.now) c.args.writes.now)) c.args.key) (sym c.written_name-at.ensures)
    ∙ movement_is (frame_of c.args.self.now) (shown c.args.self.now) (mixed (shown c.args.self.now) (change_over (g.T.TakesTurn.turn c.args.turn.now) c.args.writes.now)) c.args.key c.written_name-at.result c.in-Ok.footprint (c.in-Ok.ensures nothing agrees_whole agrees_whole)
    ∙ c.in-Ok-moved_along.ensures nothing agrees_whole agrees_whole)
