use Rattle.std.proofs.Common.{List}
use Rattle.plank_hist.specs.declared.events.Event.{Event}
use Rattle.plank_hist.specs.Sets.{set_of_keys}
use Rattle.plank_hist.specs.Histories.{history_of}
use Rattle.plank_hist.proofs.TraceLaw.{linearizable}
use Rattle.plank_hist.proofs.EmptySetLaw.{empty_trace, empty_trace_explains}
use Rattle.plank_hist.proofs.laws.empty_set_law.Goals as goal

pub returns : goal.returns
returns c = λ (events : List Event) no_insert answers_false.
    linearizable set_of_keys (history_of events) (empty_trace events) (empty_trace_explains events no_insert answers_false)
