use Rattle.plank_sem.proofs.Moments.{moment_within, moments_rise}
use Rattle.plank_sem.proofs.laws.moments_law.Goals as goal

pub returns : goal.returns
returns c = record { within = moment_within; rising = moments_rise }
