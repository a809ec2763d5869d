-- The scenes of sound worlds are scenes of worlds: each fact that the rules of pictures ask for is one of every world.
use Rattle.std.proofs.Common.{◌≡◌, ◌⊎◌, ℕ, ◌<◌, Bool, true, false, length, Option, Some, None, refl, sym, ◌∙◌, ap, subst, inl, inr, arith}
use Rattle.std.specs.Prelude.{slice_get, is_none, unwrap_or, option_map}
use Rattle.std.specs.Option.{option_map_or, option_flatten}
use Rattle.std.proofs.lemmas.Option.{none-some, same_Some, slice_get_cases, slice_get-map}
use Rattle.std.proofs.lemmas.Bool.{false≢true}
use Rattle.plank_base.specs.declared.keys.NodeId.{NodeId}
use Rattle.plank_prog.specs.declared.headers.StartNode.{StartNode}
use Rattle.plank_prog.specs.declared.headers.Header.{Header}
use Rattle.plank_prog.specs.Headers.{is_lawful_header}
use Rattle.plank_heap.specs.declared.nodes.Node.{Node}
use Rattle.plank_heap.specs.Heaps.{start_node, start_heap}
use Rattle.plank_heap.specs.Changes.{fresh_node}
use Rattle.plank_sem.specs.Kept.{GhostWorld, IsShared}
use Rattle.plank_sem.specs.Facts.{PointsTo, IsSound, HasSizes}
use Rattle.plank_pic.specs.Frames.{Frame}
use Rattle.plank_scene.specs.Scenes.{Scene, node_at, leads, is_shared_in}
use Rattle.plank_scene.specs.Worlds.{IsScene, IsInWorld}
use Rattle.plank_scene.specs.Writes.{with_heap}
use Rattle.plank_scene.proofs.Scenes.Paths.{visit_path}
use Rattle.plank_scene.proofs.Turns.Renamed.{no_lead}

module _ (F : Frame) (g : GhostWorld) (lawful : is_lawful_header F.header ≡ true) (sound : IsSound F.header g) (sizes : HasSizes g.world) (base : Scene) (spent : Bool)
    (either : (g.world.heap ≡ base.before) ⊎ (g.world.heap ≡ base.after)) where
  abbrev H : Header
  H = F.header

  abbrev pub scene_of : Scene
  scene_of = with_heap base g.world.heap g.kept.owners spent

  abbrev S : Scene
  S = scene_of

  pub is_scene : IsScene F scene_of
  is_scene = record { lawful = lawful; closed = sound.closed; owned = sound.owned; either = either }

  pub shared_from : (x : ℕ) → IsShared g.kept.owners x → is_shared_in S x ≡ true
  shared_from x e = ap (λ o. option_map_or (λ p. is_none p) o false) e

  pub shared_to : (x : ℕ) → is_shared_in S x ≡ true → IsShared g.kept.owners x
  shared_to x e = by_owner (slice_get g.kept.owners x) refl e
    where
      by_owner : (o : Option (Option ℕ)) → slice_get g.kept.owners x ≡ o → option_map_or (λ p. is_none p) o false ≡ true → IsShared g.kept.owners x
      by_owner None at e = absurd (false≢true e)
      by_owner (Some None) at e = at
      by_owner (Some (Some t)) at e = absurd (false≢true e)

  -- a pointer that leads somewhere is one of a node that is there
  abbrev pub LeadsBy : ℕ → ℕ → ℕ → Type 0
  LeadsBy x f y = (node : Node) × (to : NodeId) × (slice_get g.world.heap.nodes x ≡ Some node) × (slice_get node.pointers f ≡ Some (Some to)) × (to.0 ≡ y)

  pub leads_by : (x f y : ℕ) → leads S x f ≡ Some y → LeadsBy x f y
  leads_by x f y e = by_node (slice_get g.world.heap.nodes x) refl
    where
      at_node : (o : Option Node) → slice_get g.world.heap.nodes x ≡ o → option_map (λ (to : NodeId). to.0) (option_flatten (slice_get (unwrap_or o (fresh_node (S.unborn x))).pointers f)) ≡ Some y
      at_node o at = ap (λ r. option_map (λ (to : NodeId). to.0) (option_flatten (slice_get (unwrap_or r (fresh_node (S.unborn x))).pointers f))) (sym at) ∙ e

      by_lead : (node : Node) → slice_get g.world.heap.nodes x ≡ Some node → (o : Option (Option NodeId)) → slice_get node.pointers f ≡ o → option_map (λ (to : NodeId). to.0) (option_flatten o) ≡ Some y → LeadsBy x f y
      by_lead node found None at lead = absurd (none-some y lead)
      by_lead node found (Some None) at lead = absurd (none-some y lead)
      by_lead node found (Some (Some to)) at lead = (node, to, found, at, same_Some _ _ lead)

      by_node : (o : Option Node) → slice_get g.world.heap.nodes x ≡ o → LeadsBy x f y
      by_node None at = absurd (none-some y (sym (no_lead f) ∙ at_node None at))
      by_node (Some node) at = by_lead node at (slice_get node.pointers f) refl (at_node (Some node) at)

  points : (x f y : ℕ) → leads S x f ≡ Some y → PointsTo g.world.heap x y
  points x f y e = let p = leads_by x f y e in (p.0, f, p.1, p.2, p.3, p.4)

  own_apart : (x f y : ℕ) → leads S x f ≡ Some y → (is_shared_in S y ≡ true) ⊎ (x ≡ y)
  own_apart x f y e =
      let p = points x f y e in
      let below : y < length g.world.heap.nodes = subst (λ v. v < length g.world.heap.nodes) p.5 (sound.closed.pointers x p.0 p.3 p.1 p.2 p.4) in
      elim (slice_get_cases g.kept.owners y).1 [
        | inl found ↦ by_owner found.0 found.2 p
        | inr past ↦ absurd (let le = past.0 in let same = sound.owned in omega arith)
      ]
    where
      by_owner : (o : Option ℕ) → slice_get g.kept.owners y ≡ Some o → PointsTo g.world.heap x y → (is_shared_in S y ≡ true) ⊎ (x ≡ y)
      by_owner None at p = inl (shared_from y at)
      by_owner (Some t) at p = inr (sound.own_is_apart y t x at p)

  root_key : (n : StartNode) → slice_get H.nodes H.root ≡ Some n → (node_at S S.heap.root.0).key ≡ n.key
  root_key n e =
      let start : slice_get (start_heap H).nodes H.root ≡ Some (start_node n) = slice_get-map start_node H.nodes H.root ∙ ap (option_map start_node) e in
      let later = sound.start_keys H.root (start_node n) start in
      ap (λ (r : NodeId). (node_at S r.0).key) sound.same_root ∙ ap (λ o. (unwrap_or o (fresh_node (S.unborn H.root))).key) later.1 ∙ later.2

  -- every sound world is one that the pictures may be of
  pub in_world : ((r : ℕ) → F.root ≡ Some r → base.named r ≡ Some g.world.heap.root.0) → IsInWorld F scene_of
  in_world root_named = record {
    scene = is_scene;
    root_named = root_named;
    root_key = root_key;
    root_shared = shared_from g.world.heap.root.0 sound.root_is_shared;
    own_apart = own_apart;
    visited_shared = λ k x e. shared_from x (sound.visited_is_shared (S.walked k) x (visit_path H S sound.owned k x e));
    wide = sizes.nodes;
    shared_leads = λ x f y s e. shared_from y (sound.shared_leads x y (shared_to x s) (points x f y e));
  }
