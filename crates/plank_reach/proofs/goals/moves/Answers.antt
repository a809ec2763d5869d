-- By the two walks.
use Rattle.plank_pic.specs.declared.parts.KeyName.{KeyName}
use Rattle.plank_step.specs.Turns.{change_over}
use Rattle.plank_reach.proofs.Moving.{moves_settle}
use Rattle.plank_reach.proofs.goals.moves.Goals as goal

pub returns : goal.returns
returns g c =
    moves_settle (g.S.Reader.frame c.args.before.now) (g.S.Reader.picture c.args.before.now) (g.S.Reader.known c.args.before.now) (change_over (g.T.TakesTurn.turn c.args.turn.now) c.args.writes.now) KeyName.Any
    c.written_name-at.result c.written_name-at.ensures c.in_ok-footprint.footprint (λ full agrees. c.in_ok-footprint.ensures full agrees agrees) c.moved_along.result c.moved_along.ensures
