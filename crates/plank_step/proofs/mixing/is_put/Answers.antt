use Rattle.std.proofs.Common.{ℕ, length, ◌∙◌, arith}
use Rattle.plank_pic.proofs.Below.{some_there}
use Rattle.plank_step.specs.Turns.{change_over, puts}
use Rattle.plank_step.proofs.mixing.is_put.Goals as goal

pub returns-then-branch : goal.returns-then-branch
returns-then-branch g c = λ full agrees.
    some_there (puts (g.S.Reader.picture c.args.before.now full) (change_over (g.T.TakesTurn.turn c.args.turn.now) c.args.writes.now) c.args.name) (length (g.S.Reader.frame c.args.before.now).header.pointers)
    c.loop-pointer.pointer (omega arith) (c.in_ok-puts.ensures full agrees ∙ c.if-branch.true)
