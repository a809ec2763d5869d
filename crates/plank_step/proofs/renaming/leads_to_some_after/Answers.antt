use Rattle.std.proofs.Common.{ℕ, ◌∙◌, arith}
use Rattle.plank_pic.specs.Steps.{leads_after}
use Rattle.plank_pic.proofs.Below.{some_there}
use Rattle.plank_step.specs.Sources.{sources}
use Rattle.plank_step.proofs.renaming.leads_to_some_after.Goals as goal

pub returns-then-branch : goal.returns-then-branch
returns-then-branch g c = λ full agrees.
    some_there (leads_after (g.S.Reader.frame c.args.between.now) (sources (g.T.TakesTurn.turn c.args.turn.now) c.args.kept) (g.S.Reader.picture c.args.between.now full) c.args.at) (g.S.Reader.frame c.args.between.now).names
    c.loop-to.to (omega arith) (c.in_ok-leads_after.ensures full agrees ∙ c.if-branch.true)
