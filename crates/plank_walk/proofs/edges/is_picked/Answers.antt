use Rattle.std.proofs.Common.{ℕ, ◌∙◌, arith}
use Rattle.plank_pic.specs.Pictures.{is_picked_from}
use Rattle.plank_pic.proofs.Below.{some_there}
use Rattle.plank_walk.proofs.edges.is_picked.Goals as goal

pub returns-then-branch : goal.returns-then-branch
returns-then-branch g c = λ full agrees.
    some_there (is_picked_from (g.S.Reader.frame c.args.source.now) (g.S.Reader.picture c.args.source.now full) c.args.key c.args.slot) (g.S.Reader.frame c.args.source.now).names
    c.loop-from.from (omega arith) (c.in_ok-is_picked_from.ensures full agrees ∙ c.if-branch.true)
