-- A write of a world at which no obligation on nodes, pointers and keys fails leaves every shared node within its keeps for
-- the key, and every pointer in its order.
use Rattle.std.proofs.Common.{◌≡◌, ◌⊎◌, ℕ, ◌<◌, ◌==◌, Bool, true, not, List, length, Option, Some, None, refl, sym, ◌∙◌, inl, inr}
use Rattle.std.specs.Prelude.{◌&&◌, ◌||◌, slice_get}
use Rattle.std.proofs.lemmas.Bool.{and_parts, or_cases}
use Rattle.std.proofs.lemmas.Option.{none-some}
use Rattle.plank_base.specs.declared.limits.TheConstants.{POINTERS_LIMIT}
use Rattle.plank_heap.specs.declared.nodes.Node.{Node}
use Rattle.plank_heap.specs.declared.heaps.Heap.{Heap}
use Rattle.plank_pic.specs.declared.parts.KeyName.{KeyName}
use Rattle.plank_pic.specs.Frames.{Frame}
use Rattle.plank_pic.specs.Below.{some_below}
use Rattle.plank_pic.specs.Pictures.{Picture}
use Rattle.plank_pic.specs.Lawful.{order_of}
use Rattle.plank_pic.specs.Steps.{Change, mixed, spent_after}
use Rattle.plank_pic.specs.Keeps.{IsKeptWrite}
use Rattle.plank_pic.proofs.Below.{some_found}
use Rattle.plank_scene.specs.Scenes.{Scene, node_at, leads, is_node, is_shared_in, shown}
use Rattle.plank_scene.specs.Worlds.{IsScene, IsOrderly, in_order, node_meets}
use Rattle.plank_scene.specs.Writes.{with_heap, IsWritten, value_node}
use Rattle.plank_scene.proofs.Scenes.Showing.{is_node_true}
use Rattle.plank_scene.proofs.Writes.Fields.{key_stays}
use Rattle.plank_scene.proofs.Writes.Written.{step, readsB, readsM}
use Rattle.plank_scene.proofs.Keeps.Keeping.{ordered_after, keeps_after}

module _ (F : Frame) (S : Scene) (heap : Heap) (owners : List (Option ℕ)) (spent : Bool) (c : Change) (x : ℕ)
    (isS : IsScene F S) (isT : IsScene F (with_heap S heap owners spent)) (is : IsWritten F S heap owners spent c x)
    (nodes : (b : ℕ) → (b ≡ x → ⊥) → slice_get heap.nodes b ≡ slice_get S.heap.nodes b) (root : heap.root.0 ≡ S.heap.root.0)
    (before : S.heap ≡ S.before) (after_it : heap ≡ S.after)
    (shares : (y : ℕ) → is_shared_in (with_heap S heap owners spent) y ≡ (is_shared_in S y || (not (y == x) && some_below (λ f. is_node (value_node S (c.pointer f)) (Some y)) (length F.header.pointers))))
    (spends : spent ≡ spent_after (shown F S) (shown F (with_heap S heap owners spent)) c.own)
    (orderly : IsOrderly F S) (wide : (y : ℕ) (node : Node) → slice_get heap.nodes y ≡ Some node → length node.pointers ≡ POINTERS_LIMIT) where
  abbrev T : Scene
  T = with_heap S heap owners spent

  abbrev B : Picture
  B = shown F S

  abbrev W : Picture
  W = shown F T

  -- what is shared now was shared, or has a name
  shared_back : (y : ℕ) → is_shared_in T y ≡ true → (is_shared_in S y ≡ true) ⊎ ((j : ℕ) × (j < F.names) × (S.named j ≡ Some y))
  shared_back y e =
      elim (or_cases (is_shared_in S y) (not (y == x) && some_below (λ f. is_node (value_node S (c.pointer f)) (Some y)) (length F.header.pointers)) (sym (shares y) ∙ e)) [
        | inl old ↦ inl old
        | inr new ↦
            let w = some_found (λ f. is_node (value_node S (c.pointer f)) (Some y)) (length F.header.pointers) (and_parts (not (y == x)) _ new).1 in
            inr (by_value w.0 (c.pointer w.0) refl w.2)
      ]
    where
      by_value : (f : ℕ) (o : Option (Option ℕ)) → c.pointer f ≡ o → is_node (value_node S o) (Some y) ≡ true → (j : ℕ) × (j < F.names) × (S.named j ≡ Some y)
      by_value f None d e = absurd (none-some y (let w = is_node_true None (Some y) e in w.1 ∙ sym w.2 ∙ refl))
      by_value f (Some None) d e = absurd (none-some y (let w = is_node_true None (Some y) e in w.1 ∙ sym w.2 ∙ refl))
      by_value f (Some (Some v)) d e = let w = is_node_true (S.named v) (Some y) e in (v, is.values f v d, w.1 ∙ sym w.2)

  -- every pointer is in its order
  pub kept_order : (k : KeyName) → IsKeptWrite F c B W k → (y f z : ℕ) → leads T y f ≡ Some z → in_order (order_of F f) (node_at T y).key (node_at T z).key ≡ true
  kept_order k kept = ordered_after F S T isS isT x c.at is.below is.named (step F S heap owners spent c x isS isT is nodes root before after_it shares spends) refl (mixed B c) (key_stays F S heap owners spent c x is) orderly kept.order

  -- every shared node meets the keeps
  pub kept_keeps : (k : KeyName) → IsKeptWrite F c B W k → (y : ℕ) (node : Node) (n : ℕ) → n < length F.header.keeps → slice_get heap.nodes y ≡ Some node → is_shared_in T y ≡ true → node_meets F T k y node n ≡ true
  kept_keeps k kept =
      keeps_after F S T isS isT x c.at is.below is.named (step F S heap owners spent c x isS isT is nodes root before after_it shares spends) refl (mixed B c) (key_stays F S heap owners spent c x is) orderly kept.order k
      (readsB F S heap owners spent c x isS isT is nodes root before after_it shares spends k) (readsM F S heap owners spent c x isS isT is nodes root before after_it shares spends k)
      shared_back wide kept.named kept.inside kept.footprint
