use Rattle.plank_hist.specs.Sets.{set_of_keys}
use Rattle.plank_hist.specs.Histories.{history_of}
use Rattle.plank_hist.proofs.TraceLaw.{linearizable}
use Rattle.plank_hist.proofs.laws.trace_law.Goals as goal

pub returns : goal.returns
returns c = λ events trace explains. linearizable set_of_keys (history_of events) trace explains
