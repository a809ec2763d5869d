use Rattle.plank_sem.specs.Runs.{history}
use Rattle.plank_sem.proofs.QuietRuns.{history_quiet, quiet_answers_false, quiet_no_insert}
use Rattle.plank_sem.proofs.laws.answers_false_without_insert_law.Goals as goal

pub returns : goal.returns
returns c h methods all choices told worlds run =
    let quiet = history_quiet all run in
    c.empty_set_law.ensures (history told) (quiet_no_insert (history told) quiet) (quiet_answers_false (history told) quiet)
