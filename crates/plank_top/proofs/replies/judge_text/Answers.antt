use Rattle.std.proofs.lemmas.Result.{IfOk-weaker}
use Rattle.plank_rules.specs.declared.broken.Broken.{Broken}
use Rattle.plank_type.specs.declared.limits.Excess.{Excess}
use Rattle.plank_top.specs.Answers.{ill_typed, too_large}
use Rattle.plank_top.proofs.replies.judge_text.Goals as goal

pub returns-in-Ok : goal.returns-in-Ok
returns-in-Ok g c =
    IfOk-weaker c.judge_program-reply.result _ _ (λ r h. h c.args.text.now c.in-Ok.ensures.program) c.judge_program-reply.ensures

pub returns-in-Err-Broken : goal.returns-in-Err-Broken
returns-in-Err-Broken g c =
    let broken : Broken = record { kind = c.in-Err-Broken.kind; place = c.in-Err-Broken.place } in
    IfOk-weaker c.refuse.result _ _ (λ r h. ill_typed broken (rw c.in-Err-Broken.field-0-is at c.in-Err-Broken.ensures.fault) h) (rw c.in-Err-Broken.field-0-is at c.refuse.ensures)

pub returns-in-Err-TooMany : goal.returns-in-Err-TooMany
returns-in-Err-TooMany g c =
    let excess : Excess = record { thing = c.in-Err-TooMany.thing; count = c.in-Err-TooMany.count; limit = c.in-Err-TooMany.limit } in
    let cause = rw c.in-Err-TooMany.field-0-is at c.in-Err-TooMany.ensures.fault in
    IfOk-weaker c.refuse-in-Err-TooMany.result _ _ (λ r h. too_large excess cause.rules cause.limits h) (rw c.in-Err-TooMany.field-0-is at c.refuse-in-Err-TooMany.ensures)
