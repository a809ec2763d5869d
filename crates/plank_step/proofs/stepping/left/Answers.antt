-- Where the turn writes, what the writes leave.
use Rattle.std.proofs.Common.{arith}
use Rattle.plank_pic.specs.Steps.{written}
use Rattle.plank_pic.specs.Blocks.{change_of}
use Rattle.plank_pic.specs.TestedSteps.{left_of}
use Rattle.plank_step.specs.Turns.{change_over}
use Rattle.plank_step.proofs.Lefts.{left_some, settles_as}
use Rattle.plank_step.proofs.stepping.left.Goals as goal

pub returns-in-len1-up : goal.returns-in-len1-up
returns-in-len1-up g c =
    settles_as (λ full. written (g.S.Reader.frame c.args.before.now) (g.S.Reader.picture c.args.before.now full) (change_over (g.T.TakesTurn.turn c.args.turn.now) c.writes_of-writes.result.now) c.args.part)
    (λ full. left_of (g.S.Reader.frame c.args.before.now) (g.S.Reader.picture c.args.before.now full) (change_of (g.T.TakesTurn.turn c.args.turn.now)) c.args.part)
    (g.S.Reader.known c.args.before.now) c.written.result
    (λ full agrees. left_some (g.S.Reader.frame c.args.before.now) (g.S.Reader.picture c.args.before.now full) (g.T.TakesTurn.turn c.args.turn.now) c.writes_of-writes.result.now c.args.part c.writes_of-writes.ensures (omega arith))
    c.written.ensures
