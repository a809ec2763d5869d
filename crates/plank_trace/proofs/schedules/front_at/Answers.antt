-- The first line, and what is behind it.
use Rattle.std.proofs.lemmas.Result.{IfOk-weaker}
use Rattle.plank_trace.proofs.Scheduling.{front_from}
use Rattle.plank_trace.proofs.schedules.front_at.Goals as goal

pub returns-in-Some : goal.returns-in-Some
returns-in-Some c =
    IfOk-weaker c.front_of.result _ _ (λ f is. front_from c.args.bytes.now c.in-Some.line.now c.in-Some.more.now c.in-Some.ensures.0 c.in-Some.ensures.1 f is) c.front_of.ensures
