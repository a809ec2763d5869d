-- Projection, as laws: what worlds of runs show, and what a write of a world is in what they show. The functions of `laws` prove
-- them; steps of calls and interference stand on them.
use Rattle.std.specs.Prelude.{◌≡◌, ◌⊎◌, ℕ, Bool, true, ◌<◌, length, slice_get, Some}
use Rattle.plank_prog.specs.Headers.{is_lawful_header}
use Rattle.plank_heap.specs.declared.nodes.Node.{Node}
use Rattle.plank_sem.specs.Kept.{GhostWorld}
use Rattle.plank_sem.specs.Facts.{IsSound, HasSizes}
use Rattle.plank_pic.specs.declared.parts.KeyName.{KeyName}
use Rattle.plank_pic.specs.Frames.{Frame}
use Rattle.plank_pic.specs.Lawful.{order_of, IsPossible, IsLawful}
use Rattle.plank_pic.specs.Steps.{Change, IsWrite}
use Rattle.plank_pic.specs.Keeps.{IsKeptWrite}
use Rattle.plank_scene.specs.Scenes.{Scene, node_at, leads, is_shared_in, shown}
use Rattle.plank_scene.specs.Worlds.{in_order, node_meets, IsOrderlyWorld}
use Rattle.plank_scene.specs.Writes.{with_heap, WroteNode}

-- the scene is of the world, at one side of the step that is looked at, and the root's name is of the root
pub record IsSceneOf (F : Frame) (g : GhostWorld) (S : Scene) : Type 0 where
  pub heap : S.heap ≡ g.world.heap
  pub owners : S.owners ≡ g.kept.owners
  pub either : (S.heap ≡ S.before) ⊎ (S.heap ≡ S.after)
  pub root : (r : ℕ) → F.root ≡ Some r → S.named r ≡ Some g.world.heap.root.0

-- the facts of every world of a run of a lawful program
pub record IsOfRun (F : Frame) (g : GhostWorld) : Type 0 where
  pub lawful : is_lawful_header F.header ≡ true
  pub sound : IsSound F.header g
  pub sizes : HasSizes g.world

-- whatever nodes are named and whatever keys are walked, a world shows a possible picture
abbrev pub WorldsShowPossible : Type 0
WorldsShowPossible = (F : Frame) (g : GhostWorld) (S : Scene) → IsOfRun F g → IsSceneOf F g S → IsPossible F (shown F S)

-- and a lawful one, where shared nodes meet their keeps and pointers their order
abbrev pub WorldsShowLawful : Type 0
WorldsShowLawful = (F : Frame) (g : GhostWorld) (S : Scene) → IsOfRun F g → IsSceneOf F g S → IsOrderlyWorld F.header g → IsLawful F (shown F S)

-- a write from one world to another, of a scene of the first
pub record IsWriteOf (F : Frame) (g later : GhostWorld) (S : Scene) (spent : Bool) (c : Change) : Type 0 where
  pub scene : IsSceneOf F g S
  pub before : S.heap ≡ S.before
  pub after : later.world.heap ≡ S.after
  pub wrote : WroteNode F S later.world.heap later.kept.owners spent c

-- what the scene is after the write; each name keeps its node
abbrev pub written_scene : Scene → GhostWorld → Bool → Scene
written_scene S later spent = with_heap S later.world.heap later.kept.owners spent

-- it is a write of the picture, under the same names
abbrev pub WritesAreShown : Type 0
WritesAreShown = (F : Frame) (g later : GhostWorld) (S : Scene) (spent : Bool) (c : Change) → IsOfRun F g → IsOfRun F later → IsWriteOf F g later S spent c
    → IsWrite F c (shown F S) (shown F (written_scene S later spent))

-- what is kept for one walked key: every shared node meets every keep, also one without a name, and every pointer its order
pub record IsKeptFor (F : Frame) (S : Scene) (k : KeyName) : Type 0 where
  pub keeps : (y : ℕ) (node : Node) (n : ℕ) → n < length F.header.keeps → slice_get S.heap.nodes y ≡ Some node → is_shared_in S y ≡ true → node_meets F S k y node n ≡ true
  pub ordered : (y f z : ℕ) → leads S y f ≡ Some z → in_order (order_of F f) (node_at S y).key (node_at S z).key ≡ true

-- keeps and orders stay where nothing fails at the picture's write for this key: neither a keep of a named node nor one of a node
-- inside a chain that is entered, nor the order of the written pointers, nor that the key does not move apart
abbrev pub KeepsStay : Type 0
KeepsStay = (F : Frame) (g later : GhostWorld) (S : Scene) (spent : Bool) (c : Change) → IsOfRun F g → IsOfRun F later → IsOrderlyWorld F.header g → IsWriteOf F g later S spent c
    → (k : KeyName) → IsKeptWrite F c (shown F S) (shown F (written_scene S later spent)) k → IsKeptFor F (written_scene S later spent) k
