-- There is one reading.
use Rattle.plank_trace.proofs.Scheduling.{one_reading, one_bad_line, not_bad_too}
use Rattle.plank_trace.proofs.laws.one_schedule_law.Goals as goal

pub returns-clause-readings : goal.returns-clause-readings
returns-clause-readings c = one_reading

pub returns-clause-lines : goal.returns-clause-lines
returns-clause-lines c = one_bad_line

pub returns-clause-apart : goal.returns-clause-apart
returns-clause-apart c = not_bad_too
