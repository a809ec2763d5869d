use Rattle.std.proofs.Common.{ℕ, ◌∙◌, arith}
use Rattle.plank_pic.specs.Blocks.{pointed}
use Rattle.plank_pic.proofs.Below.{some_there}
use Rattle.plank_step.specs.Turns.{both_are}
use Rattle.plank_step.proofs.blocks.have_one_target.Goals as goal

pub returns-then-branch : goal.returns-then-branch
returns-then-branch g c = λ full agrees.
    some_there (both_are (pointed (g.T.TakesTurn.turn c.args.turn.now) (g.S.Reader.picture c.args.source.now full) c.args.left) (pointed (g.T.TakesTurn.turn c.args.turn.now) (g.S.Reader.picture c.args.source.now full) c.args.right))
    (g.S.Reader.frame c.args.source.now).names c.loop-to.to (omega arith) (c.in_ok-meet_at.ensures full agrees ∙ c.if-branch.true)
