use Rattle.std.proofs.Common.{refl}
use Rattle.std.proofs.lemmas.Bool.{false≢true}
use Rattle.plank_demand.proofs.here.Here.fails.Goals as goal

pub returns-in-None : goal.returns-in-None
returns-in-None g c = λ x xm xl. ((λ e. absurd (false≢true e)), (λ w. absurd (c.in-None.ensures.none refl x xm xl)))
