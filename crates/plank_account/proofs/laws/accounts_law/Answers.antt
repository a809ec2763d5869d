-- The law, from its lemma.
use Rattle.plank_sem.specs.Runs.{history}
use Rattle.plank_account.proofs.AccountTraces.{trace_of, trace_explains}
use Rattle.plank_account.proofs.laws.accounts_law.Goals as goal

pub returns : goal.returns
returns c = λ told changed states account. c.trace_law.ensures (history told) (trace_of account) (trace_explains account)
