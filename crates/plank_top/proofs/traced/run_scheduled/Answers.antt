use Rattle.std.proofs.Common.{sym}
use Rattle.std.proofs.lemmas.Result.{IfOk-weaker}
use Rattle.plank_top.specs.Traced.{too_long}
use Rattle.plank_top.proofs.traced.run_scheduled.Goals as goal

pub returns-in-Some : goal.returns-in-Some
returns-in-Some c =
    let found = rw c.in-Some.is at c.in_ok-over.ensures in
    IfOk-weaker c.refuse.result _ _ (λ r h. too_long c.in-Some.over (sym found) h) c.refuse.ensures
