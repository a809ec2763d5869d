use Rattle.plank_sem.proofs.SpentCalls.{changed_is_spent}
use Rattle.plank_sem.proofs.laws.spent_law.Goals as goal

pub returns : goal.returns
returns c = λ h methods choices told g ghosts run own_keys thread call at. changed_is_spent run own_keys thread call at
