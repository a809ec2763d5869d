use Rattle.plank_words.proofs.Taking.{alone, apart, joined, large}
use Rattle.plank_words.proofs.laws.taken_words_law.Goals as goal

pub returns-clause-alone : goal.returns-clause-alone
returns-clause-alone c = alone

pub returns-clause-apart : goal.returns-clause-apart
returns-clause-apart c = apart

pub returns-clause-joined : goal.returns-clause-joined
returns-clause-joined c = joined

pub returns-clause-large : goal.returns-clause-large
returns-clause-large c = large
