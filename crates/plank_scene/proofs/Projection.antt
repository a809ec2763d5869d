-- The laws of projection, from the lemmas of the rooms: a scene of a world is one that the rules of pictures hold of.
use Rattle.std.proofs.Common.{◌≡◌, ◌⊎◌, Bool, sym, ◌∙◌, subst, inl, inr}
use Rattle.plank_sem.specs.Kept.{GhostWorld}
use Rattle.plank_pic.specs.declared.parts.KeyName.{KeyName}
use Rattle.plank_pic.specs.Frames.{Frame}
use Rattle.plank_pic.specs.Lawful.{IsPossible, IsLawful}
use Rattle.plank_pic.specs.Steps.{Change, IsWrite}
use Rattle.plank_pic.specs.Keeps.{IsKeptWrite}
use Rattle.plank_scene.specs.Scenes.{Scene, shown}
use Rattle.plank_scene.specs.Worlds.{IsScene, IsInWorld, IsOrderly, IsOrderlyWorld}
use Rattle.plank_scene.specs.Writes.{with_heap}
use Rattle.plank_scene.specs.Projection.{IsSceneOf, IsOfRun, IsWriteOf, written_scene, IsKeptFor}
use Rattle.plank_scene.proofs.Scenes.Possible.{shows_possible}
use Rattle.plank_scene.proofs.Scenes.Orderly.{shows_lawful}
use Rattle.plank_scene.proofs.Writes.Written.{write_shown}
use Rattle.plank_scene.proofs.Steps.Inhabited.{in_world}
use Rattle.plank_scene.proofs.Keeps.KeptWrites.{kept_order, kept_keeps}
use Rattle.plank_scene.proofs.Keeps.OrderlyWorlds.{orderly_scene}

module _ (F : Frame) (g : GhostWorld) (S : Scene) (run : IsOfRun F g) (is : IsSceneOf F g S) where
  -- the scene is that of the world, field by field
  same_scene : with_heap S g.world.heap g.kept.owners S.spent ≡ S
  same_scene = λ i. with_heap S (sym is.heap i) (sym is.owners i) S.spent

  on_a_side : (S.heap ≡ S.before) ⊎ (S.heap ≡ S.after) → (g.world.heap ≡ S.before) ⊎ (g.world.heap ≡ S.after)
  on_a_side (inl e) = inl (sym is.heap ∙ e)
  on_a_side (inr e) = inr (sym is.heap ∙ e)

  pub scene_in_world : IsInWorld F S
  scene_in_world = subst (λ U. IsInWorld F U) same_scene (in_world F g run.lawful run.sound run.sizes S S.spent (on_a_side is.either) is.root)

  pub scene_is_orderly : IsOrderlyWorld F.header g → IsOrderly F S
  scene_is_orderly orderly = subst (λ U. IsOrderly F U) same_scene (orderly_scene F g run.lawful run.sound run.sizes S S.spent (on_a_side is.either) orderly)

  pub world_shows_possible : IsPossible F (shown F S)
  world_shows_possible = shows_possible F S scene_in_world

  pub world_shows_lawful : IsOrderlyWorld F.header g → IsLawful F (shown F S)
  world_shows_lawful orderly = shows_lawful F S scene_in_world (scene_is_orderly orderly)

module _ (F : Frame) (g later : GhostWorld) (S : Scene) (spent : Bool) (c : Change) (run : IsOfRun F g) (run_later : IsOfRun F later) (is : IsWriteOf F g later S spent c) where
  is_scene_before : IsScene F S
  is_scene_before = (scene_in_world F g S run is.scene).scene

  is_scene_after : IsScene F (written_scene S later spent)
  is_scene_after = record { lawful = run_later.lawful; closed = run_later.sound.closed; owned = run_later.sound.owned; either = inr is.after }

  pub world_writes : IsWrite F c (shown F S) (shown F (written_scene S later spent))
  world_writes =
      write_shown F S later.world.heap later.kept.owners spent c is.wrote.x is_scene_before is_scene_after is.wrote.is is.wrote.nodes is.wrote.root is.before is.after is.wrote.shares is.wrote.spends

  pub write_keeps : IsOrderlyWorld F.header g → (k : KeyName) → IsKeptWrite F c (shown F S) (shown F (written_scene S later spent)) k → IsKeptFor F (written_scene S later spent) k
  write_keeps orderly k kept =
      let orderly_before = scene_is_orderly F g S run is.scene orderly in
      record {
        keeps = kept_keeps F S later.world.heap later.kept.owners spent c is.wrote.x is_scene_before is_scene_after is.wrote.is is.wrote.nodes is.wrote.root is.before is.after is.wrote.shares is.wrote.spends orderly_before run_later.sizes.nodes k kept;
        ordered = kept_order F S later.world.heap later.kept.owners spent c is.wrote.x is_scene_before is_scene_after is.wrote.is is.wrote.nodes is.wrote.root is.before is.after is.wrote.shares is.wrote.spends orderly_before run_later.sizes.nodes k kept;
      }
