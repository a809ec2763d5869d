-- Where it stops there is one.
use Rattle.plank_trace.proofs.Playing.{one_trace, one_bad_step, not_both}
use Rattle.plank_trace.proofs.Reaching.{some_trace}
use Rattle.plank_trace.proofs.laws.one_trace_law.Goals as goal

pub returns-clause-traces : goal.returns-clause-traces
returns-clause-traces c = one_trace

pub returns-clause-steps : goal.returns-clause-steps
returns-clause-steps c = one_bad_step

pub returns-clause-apart : goal.returns-clause-apart
returns-clause-apart c = not_both

pub returns-clause-some : goal.returns-clause-some
returns-clause-some c = some_trace
