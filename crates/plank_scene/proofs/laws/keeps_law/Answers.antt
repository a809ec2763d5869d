-- The law, from its lemma.
use Rattle.plank_scene.proofs.Projection.{write_keeps}
use Rattle.plank_scene.proofs.laws.keeps_law.Goals as goal

pub returns : goal.returns
returns c = λ F g later S spent change run run_later orderly is k kept. write_keeps F g later S spent change run run_later is orderly k kept
