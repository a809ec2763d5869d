use Rattle.std.proofs.Common.{true, false}
use Rattle.plank_search.proofs.Probing.{ruled_out}
use Rattle.plank_search.proofs.steps.look_under_both.Goals as goal

pub returns-in-Fails-default : goal.returns-in-Fails-default
returns-in-Fails-default g c =
    rw (c.put.ensures.written, c.probe-under_yes.ensures.same, c.probe-under_no.ensures.same)
    (ruled_out c.args.values.now c.args.part false c.requires.part (rw c.in-Fails-default.is-0 at c.probe-under_no.ensures.told))

pub returns-in_default-Fails : goal.returns-in_default-Fails
returns-in_default-Fails g c =
    rw (c.put-in_default-Fails.ensures.written, c.probe-under_yes.ensures.same, c.probe-under_no.ensures.same)
    (ruled_out c.args.values.now c.args.part true c.requires.part
    (rw (c.in_default-Fails.is-1, c.probe-under_no.ensures.same) at c.probe-under_yes.ensures.told))
