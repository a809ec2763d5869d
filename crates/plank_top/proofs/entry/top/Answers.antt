use Rattle.std.proofs.Common.{◌≡◌, refl}
use Rattle.plank_top.proofs.Asking.{not_nothing, not_both, serves_asked, concludes_asked}
use Rattle.plank_top.proofs.Accepting.{accepted_is_sound, large_is_no_acceptance}
use Rattle.plank_top.proofs.Completing.{given_is_answered}
use Rattle.plank_top.proofs.entry.top.Goals as goal

pub returns-in-Ok-Serve-clause-usage : goal.returns-in-Ok-Serve-clause-usage
returns-in-Ok-Serve-clause-usage g c none = absurd (not_nothing _ _ c.in-Ok-Serve.ensures.asked none)

pub returns-in-Ok-Serve-clause-served : goal.returns-in-Ok-Serve-clause-served
returns-in-Ok-Serve-clause-served g c command workers are =
    serves_asked _ c.in-Ok-Serve.command command c.in-Ok-Serve.workers workers _ _ c.serve.result (rw c.in-Ok-Serve.field-0-is at c.in-Ok-Serve.ensures.asked) are c.serve.ensures

pub returns-in-Ok-Serve-clause-made : goal.returns-in-Ok-Serve-clause-made
returns-in-Ok-Serve-clause-made g c methods are = absurd (not_both _ c.in-Ok-Serve.command c.in-Ok-Serve.workers methods (rw c.in-Ok-Serve.field-0-is at c.in-Ok-Serve.ensures.asked) are)

pub returns-in-Ok-Serve-clause-sound : goal.returns-in-Ok-Serve-clause-sound
returns-in-Ok-Serve-clause-sound g c accepted =
    accepted_is_sound (record { linearizable = c.accepted_runs_law.ensures.linearizable; no_null_reads = c.accepted_runs_law.ensures.no_null_reads })
    c.in-Ok-Serve.command _ _ c.serve.result c.serve.ensures accepted

pub returns-in-Ok-Serve-clause-complete : goal.returns-in-Ok-Serve-clause-complete
returns-in-Ok-Serve-clause-complete g c command workers are given =
    given_is_answered command _ _ c.serve.result given
    (serves_asked _ c.in-Ok-Serve.command command c.in-Ok-Serve.workers workers _ _ c.serve.result (rw c.in-Ok-Serve.field-0-is at c.in-Ok-Serve.ensures.asked) are c.serve.ensures)

pub returns-in-Ok-Large-clause-usage : goal.returns-in-Ok-Large-clause-usage
returns-in-Ok-Large-clause-usage g c none = absurd (not_nothing _ _ c.in-Ok-Large.ensures.asked none)

pub returns-in-Ok-Large-clause-served : goal.returns-in-Ok-Large-clause-served
returns-in-Ok-Large-clause-served g c command workers are = absurd (not_both _ command workers c.in-Ok-Large.methods are (rw c.in-Ok-Large.field-0-is at c.in-Ok-Large.ensures.asked))

pub returns-in-Ok-Large-clause-made : goal.returns-in-Ok-Large-clause-made
returns-in-Ok-Large-clause-made g c methods are =
    (refl, concludes_asked _ c.in-Ok-Large.methods methods _ c.tell_large.result (rw c.in-Ok-Large.field-0-is at c.in-Ok-Large.ensures.asked) are c.tell_large.ensures)

pub returns-in-Ok-Large-clause-sound : goal.returns-in-Ok-Large-clause-sound
returns-in-Ok-Large-clause-sound g c accepted = absurd (large_is_no_acceptance c.in-Ok-Large.methods _ c.tell_large.result c.tell_large.ensures accepted)

pub returns-in-Ok-Large-clause-complete : goal.returns-in-Ok-Large-clause-complete
returns-in-Ok-Large-clause-complete g c command workers are given = absurd (not_both _ command workers c.in-Ok-Large.methods are (rw c.in-Ok-Large.field-0-is at c.in-Ok-Large.ensures.asked))
