-- The scenes of an orderly world are orderly.
use Rattle.std.proofs.Common.{◌≡◌, ◌⊎◌, ℕ, ◌<◌, Bool, true, length, Some, ◌∙◌, ap, subst, inl, inr, arith}
use Rattle.std.specs.Prelude.{slice_get}
use Rattle.std.proofs.lemmas.Option.{slice_get_cases}
use Rattle.plank_prog.specs.Headers.{is_lawful_header}
use Rattle.plank_heap.specs.declared.nodes.Node.{Node}
use Rattle.plank_sem.specs.Kept.{GhostWorld}
use Rattle.plank_sem.specs.Facts.{IsSound, HasSizes}
use Rattle.plank_pic.specs.Frames.{Frame}
use Rattle.plank_pic.specs.Lawful.{order_of}
use Rattle.plank_scene.specs.Scenes.{Scene, node_at, leads}
use Rattle.plank_scene.specs.Worlds.{IsOrderly, in_order, IsOrderlyWorld}
use Rattle.plank_scene.proofs.Steps.Inhabited.{scene_of, leads_by, shared_to}
use Rattle.plank_scene.proofs.Scenes.Showing.{node_found}

module _ (F : Frame) (g : GhostWorld) (lawful : is_lawful_header F.header ≡ true) (sound : IsSound F.header g) (sizes : HasSizes g.world) (base : Scene) (spent : Bool)
    (either : (g.world.heap ≡ base.before) ⊎ (g.world.heap ≡ base.after)) (orderly : IsOrderlyWorld F.header g) where
  abbrev S : Scene
  S = scene_of F g lawful sound sizes base spent either

  ordered : (x f y : ℕ) → leads S x f ≡ Some y → in_order (order_of F f) (node_at S x).key (node_at S y).key ≡ true
  ordered x f y e =
      let p = leads_by F g lawful sound sizes base spent either x f y e in
      let below : y < length g.world.heap.nodes = subst (λ v. v < length g.world.heap.nodes) p.4 (sound.closed.pointers x p.0 p.2 f p.1 p.3) in
      elim (slice_get_cases g.world.heap.nodes y).1 [
        | inl found ↦
            let at : slice_get g.world.heap.nodes p.1.0 ≡ Some found.0 = ap (slice_get g.world.heap.nodes) p.4 ∙ found.2 in
            ap (λ (n : Node). in_order (order_of F f) n.key (node_at S y).key) (node_found S x p.0 p.2)
            ∙ ap (λ (n : Node). in_order (order_of F f) p.0.key n.key) (node_found S y found.0 found.2)
            ∙ orderly.ordered x f p.0 found.0 p.1 p.2 p.3 at
        | inr past ↦ absurd (let le = past.0 in omega arith)
      ]

  pub orderly_scene : IsOrderly F S
  orderly_scene = record {
    keeps = λ k x node c at shared. orderly.keeps (S.walked k) x c node (shared_to F g lawful sound sizes base spent either x shared) at;
    ordered = ordered;
  }
