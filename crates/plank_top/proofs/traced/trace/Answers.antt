use Rattle.std.proofs.Common.{Err, ap, ◌∙◌, subst, List}
use Rattle.std.proofs.lemmas.Result.{IfOk-weaker}
use Rattle.plank_trace.specs.declared.lines.Line.{Line}
use Rattle.plank_top.specs.Replies.{answer_in}
use Rattle.plank_top.specs.Traced.{IsScheduledAnswer, bad_schedule, scheduled}
use Rattle.plank_top.proofs.traced.trace.Goals as goal

pub returns-in-Ok : goal.returns-in-Ok
returns-in-Ok c =
    let schedule = c.in-Ok.schedule in
    IfOk-weaker c.run_scheduled-reply.result _ _
    (λ r h. scheduled schedule.lines.items schedule.text.now c.in-Ok.ensures.read
    (subst (λ (ls : List Line). IsScheduledAnswer ls schedule.text.now (answer_in r)) c.as_slice.ensures.value h))
    c.run_scheduled-reply.ensures

pub returns-in-Err-BadLine : goal.returns-in-Err-BadLine
returns-in-Err-BadLine c =
    IfOk-weaker c.refuse.result _ _ (λ r h. bad_schedule c.in-Err-BadLine.i (c.read_schedule.ensures.bad c.in-Err-BadLine.i (c.in-Err-BadLine.is ∙ ap Err c.in-Err-BadLine.field-0-is)) h) c.refuse.ensures
