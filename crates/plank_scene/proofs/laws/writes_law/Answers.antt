-- The law, from its lemma.
use Rattle.plank_scene.proofs.Projection.{world_writes}
use Rattle.plank_scene.proofs.laws.writes_law.Goals as goal

pub returns : goal.returns
returns c = λ F g later S spent change run run_later is. world_writes F g later S spent change run run_later is
