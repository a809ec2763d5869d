-- The law.
use Rattle.plank_stay.proofs.Staying.{stays_so}
use Rattle.plank_stay.proofs.laws.stays_law.Goals as goal

pub returns : goal.returns
returns c = stays_so
