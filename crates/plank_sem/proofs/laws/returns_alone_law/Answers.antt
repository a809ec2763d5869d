use Rattle.plank_sem.proofs.Returns.{returns_read_nothing}
use Rattle.plank_sem.proofs.laws.returns_alone_law.Goals as goal

pub returns : goal.returns
returns c = λ h methods alone choices told w worlds run choice. returns_read_nothing methods alone w choice
