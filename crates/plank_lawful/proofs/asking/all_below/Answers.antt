use Rattle.std.proofs.Common.{◌∙◌, arith}
use Rattle.plank_lawful.specs.Asked.{passes}
use Rattle.plank_lawful.proofs.Asked.{one_fails}
use Rattle.plank_lawful.proofs.asking.all_below.Goals as goal

pub returns-then-not-branch : goal.returns-then-not-branch
returns-then-not-branch g c = λ full agrees.
    one_fails (passes (g.S.Reader.picture c.args.source.now full) c.args.asked) c.args.count
    c.loop-number.number (omega arith) (c.in_ok-passes.ensures full agrees ∙ c.if-not-branch.true)
