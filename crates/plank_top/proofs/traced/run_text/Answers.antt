use Rattle.std.proofs.lemmas.Result.{IfOk-weaker}
use Rattle.plank_rules.specs.declared.broken.Broken.{Broken}
use Rattle.plank_type.specs.declared.limits.Excess.{Excess}
use Rattle.plank_top.specs.Traced.{ill_typed, too_large}
use Rattle.plank_top.proofs.traced.run_text.Goals as goal

pub returns-in-Ok : goal.returns-in-Ok
returns-in-Ok c =
    IfOk-weaker c.run_on-reply.result _ _ (λ r h. h c.args.text.now c.in-Ok.ensures.program) c.run_on-reply.ensures

pub returns-in-Err-Broken : goal.returns-in-Err-Broken
returns-in-Err-Broken c =
    let broken : Broken = record { kind = c.in-Err-Broken.kind; place = c.in-Err-Broken.place } in
    IfOk-weaker c.refuse.result _ _ (λ r h. ill_typed broken (rw c.in-Err-Broken.field-0-is at c.in-Err-Broken.ensures.fault) h) c.refuse.ensures

pub returns-in-Err-TooMany : goal.returns-in-Err-TooMany
returns-in-Err-TooMany c =
    let excess : Excess = record { thing = c.in-Err-TooMany.thing; count = c.in-Err-TooMany.count; limit = c.in-Err-TooMany.limit } in
    let cause = rw c.in-Err-TooMany.field-0-is at c.in-Err-TooMany.ensures.fault in
    IfOk-weaker c.refuse-in-Err-TooMany.result _ _ (λ r h. too_large excess cause.rules cause.limits h) c.refuse-in-Err-TooMany.ensures
