-- The law, from its lemma.
use Rattle.plank_account.proofs.RunAccounts.{run_accounted, account_of}
use Rattle.plank_account.proofs.laws.justified_runs_law.Goals as goal

pub returns : goal.returns
returns c = λ h methods header lawful empties justified choices told worlds run.
    let kept = c.ghost_runs_law.ensures.of_run h methods choices told worlds run in
    let account = account_of h methods choices told kept.0 (run_accounted header lawful empties justified kept.1) in
    c.accounts_law.ensures told account.0 account.1 account.2
