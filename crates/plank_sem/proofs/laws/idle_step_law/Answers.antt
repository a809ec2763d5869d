use Rattle.plank_sem.proofs.IdleSteps.{idle_step}
use Rattle.plank_sem.proofs.IdleSets.{turn_writes}
use Rattle.plank_sem.proofs.laws.idle_step_law.Goals as goal

pub returns : goal.returns
returns c = record {
  idle = λ h methods before choice event after closed none e. idle_step h methods before choice event after closed none e;
  turns = λ h methods before choice event after closed e key turned. turn_writes h methods before choice event after closed e key turned;
}
