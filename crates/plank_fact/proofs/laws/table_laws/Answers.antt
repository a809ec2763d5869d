-- The laws of the table, each from its lemma.
use Rattle.plank_fact.proofs.Numbered.{numbers_agree}
use Rattle.plank_fact.proofs.Counts.{facts_have_room}
use Rattle.plank_fact.proofs.laws.table_laws.Goals as goal

pub returns-clause-numbers : goal.returns-clause-numbers
returns-clause-numbers c = λ h m i j f is too. numbers_agree h m i j f is too

pub returns-clause-room : goal.returns-clause-room
returns-clause-room c = λ h m variables flags pointers. facts_have_room h m variables flags pointers
