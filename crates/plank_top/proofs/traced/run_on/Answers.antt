use Rattle.std.proofs.Common.{refl, Err, ap, ◌∙◌}
use Rattle.std.proofs.lemmas.Result.{IfOk-weaker}
use Rattle.plank_top.specs.Traced.{traced, bad_step}
use Rattle.plank_top.proofs.traced.run_on.Goals as goal

pub returns-in-Ok : goal.returns-in-Ok
returns-in-Ok c = λ t typed. traced c.args.program.now typed c.in-Ok.output.items c.in-Ok.ensures.shown refl

pub returns-in-Err-BadStep : goal.returns-in-Err-BadStep
returns-in-Err-BadStep c =
    IfOk-weaker c.refuse.result _ _ (λ r h t typed. bad_step c.args.program.now typed c.in-Err-BadStep.i (c.trace.ensures.bad c.in-Err-BadStep.i (c.in-Err-BadStep.is ∙ ap Err c.in-Err-BadStep.field-0-is)) h) c.refuse.ensures
