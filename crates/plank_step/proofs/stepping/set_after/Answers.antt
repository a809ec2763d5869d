-- By the two walks.
use Rattle.plank_step.specs.Turns.{change_over}
use Rattle.plank_step.proofs.Lefts.{set_settles}
use Rattle.plank_step.proofs.stepping.set_after.Goals as goal

pub returns : goal.returns
returns g c =
    set_settles (g.S.Reader.frame c.args.before.now) (g.S.Reader.picture c.args.before.now) (g.S.Reader.known c.args.before.now) (change_over (g.T.TakesTurn.turn c.args.turn.now) c.args.writes.now) c.args.key
    c.written_name-at.result c.written_name-at.ensures c.in_ok-footprint.footprint c.in_ok-moved.moved
    (λ full agrees. c.in_ok-footprint.ensures full agrees agrees) (λ full agrees. c.in_ok-moved.ensures full agrees agrees) c.set_left.result c.set_left.ensures
