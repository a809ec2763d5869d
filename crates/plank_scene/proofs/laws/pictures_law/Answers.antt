-- The laws, from their lemmas.
use Rattle.plank_scene.proofs.Projection.{world_shows_possible, world_shows_lawful}
use Rattle.plank_scene.proofs.laws.pictures_law.Goals as goal

pub returns-clause-possible : goal.returns-clause-possible
returns-clause-possible c = λ F g S run is. world_shows_possible F g S run is

pub returns-clause-lawful : goal.returns-clause-lawful
returns-clause-lawful c = λ F g S run is orderly. world_shows_lawful F g S run is orderly
