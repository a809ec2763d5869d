-- What a call sees in a scene of a world is what it sees in the world.
use Rattle.std.proofs.Common.{◌≡◌, ℕ, ◌<◌, ℤ, false, length, Option, Some, None, refl, sym, ◌∙◌, ap, inl, inr, arith}
use Rattle.std.specs.Prelude.{◌&&◌, ◌==◌, slice_get, is_none, unwrap_or, option_map, option_and_then, if◌then◌else◌}
use Rattle.std.specs.Option.{option_map_or, option_flatten}
use Rattle.std.proofs.Math.Path.{fun_ext}
use Rattle.std.proofs.lemmas.Bool.{and_left, and_right, cond-false}
use Rattle.std.proofs.lemmas.Option.{slice_get_cases}
use Rattle.plank_base.specs.Paths.{meets_within}
use Rattle.plank_prog.specs.declared.headers.Header.{Header}
use Rattle.plank_prog.specs.declared.blocks.Reference.{Reference}
use Rattle.plank_prog.specs.Views.{is_frozen}
use Rattle.plank_heap.specs.declared.nodes.Node.{Node}
use Rattle.plank_heap.specs.Changes.{fresh_node}
use Rattle.plank_heap.specs.Walks.{walk_visits, contains}
use Rattle.plank_sem.specs.Kept.{GhostWorld}
use Rattle.plank_pic.specs.Truths.{Caller, argument}
use Rattle.plank_scene.specs.Scenes.{Scene, node_at, leads, is_shared_in, is_fast_in, fast_next, is_chain, on, on_both}
use Rattle.plank_scene.proofs.Scenes.Paths.{unborn_unshared}
use Rattle.plank_sound.specs.Sights.{Sight, seen_in, bare_scene, seen_at}

-- two sights that show the same are one
pub same_sight : (s t : Sight) → ((r : Reference) → s.named r ≡ t.named r) → ((r : Reference) → s.node r ≡ t.node r) → ((r : Reference) → s.shared r ≡ t.shared r)
    → ((r : Reference) → s.visited r ≡ t.visited r) → ((q r : Reference) → s.chain q r ≡ t.chain q r) → s.in_set ≡ t.in_set → s.key ≡ t.key → s.thread ≡ t.thread → s.spent ≡ t.spent → s ≡ t
same_sight s t named node shared visited chain in_set key thread spent = λ i. record {
  named = λ r. named r i;
  node = λ r. node r i;
  shared = λ r. shared r i;
  visited = λ r. visited r i;
  chain = λ q r. chain q r i;
  in_set = in_set i;
  key = key i;
  thread = thread i;
  spent = spent i;
}

-- what is shared is told by the owners alone
pub shared_alike : (S T : Scene) → S.owners ≡ T.owners → (x : ℕ) → is_shared_in S x ≡ is_shared_in T x
shared_alike S T owners x = ap (λ os. option_map_or (λ o. is_none o) (slice_get os x) false) owners

module _ (h : Header) (S : Scene) (c : Caller) (thread : ℕ) (g : GhostWorld) (key : ℤ) (named : Reference → Option ℕ)
    (heap : S.heap ≡ g.world.heap) (owners : S.owners ≡ g.kept.owners) (key_is : S.walked (argument c) ≡ key) (names : (r : Reference) → S.named (c.name r) ≡ named r)
    (there : (r : Reference) (x : ℕ) → named r ≡ Some x → x < length g.world.heap.nodes) (owned : length g.kept.owners ≡ length g.world.heap.nodes) where
  abbrev bare : Scene
  bare = bare_scene g key

  node_is : (x : ℕ) (node : Node) → slice_get g.world.heap.nodes x ≡ Some node → node_at S x ≡ node
  node_is x node e = ap (λ w. unwrap_or (slice_get w.nodes x) (fresh_node (S.unborn x))) heap ∙ ap (λ o. unwrap_or o (fresh_node (S.unborn x))) e

  fast_is : (x : ℕ) → fast_next h S x ≡ fast_next h bare x
  fast_is x = elim (slice_get_cases g.world.heap.nodes x).1 [
    | inl found ↦
        let there = node_is x found.0 found.2 in
        let same : node_at S x ≡ node_at bare x = there ∙ sym (ap (λ o. unwrap_or o (fresh_node key)) found.2) in
        ap (λ b. if (length h.pointers == 1) && (b && is_frozen h (node_at S x).key (node_at S x).flags) then leads S x 0 else None) (shared_alike S bare owners x)
        ∙ ap (λ (n : Node). if (length h.pointers == 1) && (is_shared_in bare x && is_frozen h n.key n.flags) then option_map (λ to. to.0) (option_flatten (slice_get n.pointers 0)) else None) same
    | inr past ↦
        let gone : is_shared_in bare x ≡ false = unborn_unshared h bare owned x (let p = past.0 in omega arith) in
        let slow : (T : Scene) → is_shared_in T x ≡ false → fast_next h T x ≡ None = λ T e. cond-false _ (leads T x 0) None (and_right (length h.pointers == 1) (is_fast_in h T x) (and_left (is_shared_in T x) _ e)) in
        slow S (shared_alike S bare owners x ∙ gone) ∙ sym (slow bare gone)
  ]

  chain_is : (x y : ℕ) → is_chain h S x y ≡ is_chain h bare x y
  chain_is x y = ap (λ f. meets_within f (length S.heap.nodes) x y) (fun_ext fast_is) ∙ ap (λ w. meets_within (fast_next h bare) (length w.nodes) x y) heap

  node_of_name : (o : Option ℕ) → ((x : ℕ) → o ≡ Some x → x < length g.world.heap.nodes) → option_map (node_at S) o ≡ option_and_then (λ x. slice_get g.world.heap.nodes x) o
  node_of_name None low = refl
  node_of_name (Some x) low = elim (slice_get_cases g.world.heap.nodes x).1 [
    | inl found ↦ ap Some (node_is x found.0 found.2) ∙ sym found.2
    | inr past ↦ absurd (let p = past.0 in let b = low x refl in omega arith)
  ]

  pub seen_world : seen_in h S c thread ≡ seen_at h g named key thread S.spent
  seen_world =
      same_sight (seen_in h S c thread) (seen_at h g named key thread S.spent)
      names
      (λ r. ap (option_map (node_at S)) (names r) ∙ node_of_name (named r) (there r))
      (λ r. ap (on (is_shared_in S)) (names r) ∙ ap (λ f. on f (named r)) (fun_ext (shared_alike S bare owners)))
      (λ r. ap (on (walk_visits h S.heap (S.walked (argument c)))) (names r) ∙ ap (λ w. on (walk_visits h w (S.walked (argument c))) (named r)) heap ∙ ap (λ k. on (walk_visits h g.world.heap k) (named r)) key_is)
      (λ q r. ap (λ o. on_both (is_chain h S) o (S.named (c.name r))) (names q) ∙ ap (on_both (is_chain h S) (named q)) (names r) ∙ ap (λ f. on_both f (named q) (named r)) (fun_ext (λ x. fun_ext (chain_is x))))
      (ap (λ w. contains h w (S.walked (argument c))) heap ∙ ap (contains h g.world.heap) key_is)
      key_is refl refl
