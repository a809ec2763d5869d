-- The laws of forced marks, each from its lemma.
use Rattle.plank_fact.proofs.Monotone.{forces_monotone}
use Rattle.plank_fact.proofs.Bounded.{forces_bounded}
use Rattle.plank_fact.proofs.Valid.{valid_is_closed, closed_is_valid}
use Rattle.plank_fact.proofs.laws.forcing_laws.Goals as goal

pub returns-clause-monotone : goal.returns-clause-monotone
returns-clause-monotone c = λ h methods n. forces_monotone h methods n

pub returns-clause-bounded : goal.returns-clause-bounded
returns-clause-bounded c = λ h methods n flags pointers variables. forces_bounded h methods n flags pointers variables

pub returns-clause-closed : goal.returns-clause-closed
returns-clause-closed c = λ h methods marks n valid. valid_is_closed h methods marks n valid

pub returns-clause-valid : goal.returns-clause-valid
returns-clause-valid c = λ h methods marks closed entry_decided after_decided. closed_is_valid h methods marks closed entry_decided after_decided
