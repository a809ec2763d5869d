use Rattle.std.proofs.Common.{ℕ, ◌∙◌, arith}
use Rattle.plank_pic.specs.Pictures.{picks_from}
use Rattle.plank_pic.proofs.Below.{some_there}
use Rattle.plank_walk.proofs.edges.is_picked_from.Goals as goal

pub returns-then-branch : goal.returns-then-branch
returns-then-branch g c = λ full agrees.
    some_there (picks_from (g.S.Reader.picture c.args.source.now full) c.args.key c.args.slot c.args.from) (g.S.Reader.frame c.args.source.now).names
    c.loop-to.to (omega arith) (c.in_ok-says.ensures full agrees ∙ c.if-branch.true)
