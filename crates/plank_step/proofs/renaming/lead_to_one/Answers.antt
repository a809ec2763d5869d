use Rattle.std.proofs.Common.{ℕ, ◌∙◌, arith}
use Rattle.plank_pic.proofs.Below.{some_there}
use Rattle.plank_step.specs.Sources.{both_lead}
use Rattle.plank_step.proofs.renaming.lead_to_one.Goals as goal

pub returns-then-branch : goal.returns-then-branch
returns-then-branch g c = λ full agrees.
    some_there (both_lead (g.S.Reader.picture c.args.between.now full) c.args.left c.args.right) (g.S.Reader.frame c.args.between.now).names
    c.loop-to.to (omega arith) (c.in_ok-both_lead.ensures full agrees ∙ c.if-branch.true)
