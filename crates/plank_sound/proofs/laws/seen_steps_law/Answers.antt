-- The laws, from their lemmas.
use Rattle.plank_sound.proofs.Others.SeenSteps.{own_step_seen, other_step_seen}
use Rattle.plank_sound.proofs.laws.seen_steps_law.Goals as goal

pub returns-clause-own : goal.returns-clause-own
returns-clause-own c = λ O g later known sound sizes thread acts next now key. own_step_seen O g later known sound sizes thread acts next now key

pub returns-clause-others : goal.returns-clause-others
returns-clause-others c = λ O g later known sound sizes thread acts b same writes u call pending x at apart.
    other_step_seen O g later known sound sizes thread acts b same writes u call x apart
