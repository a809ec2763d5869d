-- The law, from its lemma.
use Rattle.plank_fact.proofs.KeptWrites.{kept_write}
use Rattle.plank_fact.proofs.laws.kept_writes_law.Goals as goal

pub returns : goal.returns
returns c = λ O hold x change writes before after step. kept_write O hold x change writes before after step
