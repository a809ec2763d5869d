-- The law, from its lemma.
use Rattle.plank_prog.proofs.HeaderFacts.{few_flags, few_pointers}
use Rattle.plank_fact.proofs.Limits.{few_variables}
use Rattle.plank_fact.proofs.Unreached.{unreached}
use Rattle.plank_fact.proofs.laws.unreached_law.Goals as goal

pub returns : goal.returns
returns c = λ h methods marks inside lawful_header lawful_methods least holds x out p own.
    unreached h methods (few_flags h lawful_header) (few_pointers h lawful_header) (few_variables h methods lawful_methods) inside holds marks least x out p own
