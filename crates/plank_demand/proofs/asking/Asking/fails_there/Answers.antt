use Rattle.std.proofs.Common.{subst, ◌<◌}
use Rattle.std.proofs.lemmas.Result.{IfOk-weaker}
use Rattle.plank_demand.proofs.AtItsPoint.{at_its_point}
use Rattle.plank_demand.proofs.asking.Asking.fails_there.Goals as goal

pub returns : goal.returns
returns g c =
    IfOk-weaker c.fails.result _ _ (λ b so.
    at_its_point c.args.self.now.program.now c.args.marks.now c.args.obligation.now
    (subst (λ n. c.args.obligation.now.method < n) c.len.ensures c.if-at-len.false)
    (subst (λ n. c.args.obligation.now.location < n) c.location_count.ensures.count c.if-at-location_count.false) b so) c.fails.ensures
