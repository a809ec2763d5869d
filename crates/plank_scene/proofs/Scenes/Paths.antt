-- The walks and chains of a scene, as paths.
use Rattle.std.proofs.Common.{◌≡◌, ◌⊎◌, ℕ, zero, suc, ◌<◌, ◌≤◌, ◌==◌, true, false, not, length, Option, Some, None, refl, sym, ◌∙◌, ap, subst, inl, inr, arith}
use Rattle.std.specs.Prelude.{◌&&◌, ◌||◌, is_none}
use Rattle.std.specs.Option.{option_map_or}
use Rattle.std.proofs.lemmas.Bool.{true≢false, and_parts, and_from, or_parts, and_left, and_right, cases_Bool, cond-true, cond-false}
use Rattle.std.proofs.lemmas.Option.{none-some, same_Some, slice_get_past}
use Rattle.plank_base.specs.Paths.{Path, EndsAt, IsUndefinedFrom, meets_within, end_within}
use Rattle.plank_base.proofs.Paths.{successor_cases, append}
use Rattle.plank_base.proofs.PathCounts.{meets_decides, end_decides}
use Rattle.plank_prog.specs.declared.headers.Header.{Header}
use Rattle.plank_heap.specs.declared.heaps.Heap.{Heap}
use Rattle.plank_heap.specs.Walks.{walk_visits, walk_end}
use Rattle.plank_heap.proofs.Walking.{walk_undefined}
use Rattle.plank_pic.specs.declared.parts.KeyName.{KeyName}
use Rattle.plank_scene.specs.Scenes.{Scene, leads, is_node, is_fast_in, is_shared_in, fast_next, walk, is_chain, stop_of, stop_node, is_in_slot}
use Rattle.plank_scene.proofs.Scenes.Showing.{is_node_at, is_node_true}

module _ (h : Header) (S : Scene) (owned : length S.owners ≡ length S.heap.nodes) where
  pub walk_stops : (k : KeyName) → IsUndefinedFrom (walk h S k) (length S.heap.nodes)
  walk_stops k = walk_undefined h S.heap (S.walked k)

  -- a node that is not there yet is not shared
  pub unborn_unshared : (x : ℕ) → length S.heap.nodes ≤ x → is_shared_in S x ≡ false
  unborn_unshared x past =
      ap (λ o. option_map_or (λ r. is_none r) o false) (slice_get_past S.owners x (let same = owned in omega arith))

  pub fast_stops : IsUndefinedFrom (fast_next h S) (length S.heap.nodes)
  fast_stops x past =
      cond-false ((length h.pointers == 1) && is_fast_in h S x) (leads S x 0) None
      (and_right (length h.pointers == 1) (is_fast_in h S x) (and_left (is_shared_in S x) _ (unborn_unshared x past)))

  pub visit_path : (k : KeyName) (x : ℕ) → walk_visits h S.heap (S.walked k) x ≡ true → Path (walk h S k) S.heap.root.0 x
  visit_path k x = (meets_decides S.heap.root.0 x (walk_stops k)).0

  pub path_visit : (k : KeyName) (x : ℕ) → Path (walk h S k) S.heap.root.0 x → walk_visits h S.heap (S.walked k) x ≡ true
  path_visit k x = (meets_decides S.heap.root.0 x (walk_stops k)).1

  -- from a visited node on, the walk visits what it meets
  pub visit_on : (k : KeyName) (x y : ℕ) → walk_visits h S.heap (S.walked k) x ≡ true → Path (walk h S k) x y → walk_visits h S.heap (S.walked k) y ≡ true
  visit_on k x y v p = path_visit k y (append (visit_path k x v) p)

  pub chain_path : (x y : ℕ) → is_chain h S x y ≡ true → Path (fast_next h S) x y
  chain_path x y = (meets_decides x y fast_stops).0

  pub path_chain : (x y : ℕ) → Path (fast_next h S) x y → is_chain h S x y ≡ true
  path_chain x y = (meets_decides x y fast_stops).1

  -- a node of the chain function is shared and frozen, and its pointer leads on
  pub fast_step : (x y : ℕ) → fast_next h S x ≡ Some y → ((length h.pointers == 1) ≡ true) × (is_fast_in h S x ≡ true) × (leads S x 0 ≡ Some y)
  fast_step x y e =
      elim (cases_Bool ((length h.pointers == 1) && is_fast_in h S x)) [
        | inl c ↦ let w = and_parts (length h.pointers == 1) (is_fast_in h S x) c in (w.0, w.1, sym (cond-true ((length h.pointers == 1) && is_fast_in h S x) (leads S x 0) None c) ∙ e)
        | inr c ↦ absurd (none-some y (sym (cond-false ((length h.pointers == 1) && is_fast_in h S x) (leads S x 0) None c) ∙ e))
      ]

  pub step_fast : (x y : ℕ) → (length h.pointers == 1) ≡ true → is_fast_in h S x ≡ true → leads S x 0 ≡ Some y → fast_next h S x ≡ Some y
  step_fast x y one fast e = cond-true ((length h.pointers == 1) && is_fast_in h S x) (leads S x 0) None (and_from _ _ one fast) ∙ e

  -- ---- stops

  module _ (k : KeyName) (x y : ℕ) where
    pub stop_found : (z : ℕ) → stop_of h S k x y ≡ Some z → EndsAt (walk h S k) x z × ((Path (walk h S k) x y → ⊥) × ((m : ℕ) × (walk h S k x ≡ Some m)))
    stop_found z e =
        elim (cases_Bool (is_none (walk h S k x) || meets_within (walk h S k) (length S.heap.nodes) x y)) [
          | inl c ↦ absurd (none-some z (sym (cond-true _ None (end_within (walk h S k) (length S.heap.nodes) x) c) ∙ e))
          | inr c ↦
              let both = or_parts (is_none (walk h S k x)) (meets_within (walk h S k) (length S.heap.nodes) x y) c in (
                (end_decides x z (walk_stops k)).0 (sym (cond-false _ None (end_within (walk h S k) (length S.heap.nodes) x) c) ∙ e),
                (
                  λ p. true≢false (sym ((meets_decides x y (walk_stops k)).1 p) ∙ both.1),
                  elim (successor_cases (walk h S k x)) [ inl n ↦ absurd (true≢false (sym (ap is_none n) ∙ both.0)) | inr w ↦ w ],
                ),
              )
        ]

    pub stop_there : (z m : ℕ) → EndsAt (walk h S k) x z → (Path (walk h S k) x y → ⊥) → walk h S k x ≡ Some m → stop_of h S k x y ≡ Some z
    stop_there z m ends away step =
        let a : is_none (walk h S k x) ≡ false = ap is_none step in
        let b : meets_within (walk h S k) (length S.heap.nodes) x y ≡ false =
        elim (cases_Bool (meets_within (walk h S k) (length S.heap.nodes) x y)) [ inl c ↦ absurd (away ((meets_decides x y (walk_stops k)).0 c)) | inr c ↦ c ] in
        cond-false _ None (end_within (walk h S k) (length S.heap.nodes) x) (ap (λ v. v || meets_within (walk h S k) (length S.heap.nodes) x y) a ∙ b)
        ∙ (end_decides x z (walk_stops k)).1 ends

  -- ---- the slots have the ends of the walks of both heaps

  pub slot_of_before : (k : KeyName) (z : ℕ) → stop_node h S k zero ≡ Some z → is_in_slot h S k (Some z) zero ≡ true
  slot_of_before k z e = is_node_at refl e

  pub slot_of_after : (k : KeyName) (z : ℕ) → stop_node h S k (suc zero) ≡ Some z → (is_in_slot h S k (Some z) zero ≡ true) ⊎ (is_in_slot h S k (Some z) (suc zero) ≡ true)
  slot_of_after k z e =
      elim (cases_Bool (is_node (Some z) (stop_node h S k zero))) [
        | inl c ↦ inl c
        | inr c ↦ inr (and_from _ _ (ap not c) (is_node_at refl e))
      ]

  -- the end of this heap's walk is in a slot
  pub end_in_slot : (k : KeyName) (z : ℕ) → (S.heap ≡ S.before) ⊎ (S.heap ≡ S.after) → EndsAt (walk h S k) S.heap.root.0 z → (is_in_slot h S k (Some z) zero ≡ true) ⊎ (is_in_slot h S k (Some z) (suc zero) ≡ true)
  end_in_slot k z which ends =
      let found : walk_end h S.heap (S.walked k) ≡ Some z = (end_decides S.heap.root.0 z (walk_stops k)).1 ends in
      elim which [
        | inl e ↦ inl (slot_of_before k z (subst (λ (H : Heap). walk_end h H (S.walked k) ≡ Some z) e found))
        | inr e ↦ slot_of_after k z (subst (λ (H : Heap). walk_end h H (S.walked k) ≡ Some z) e found)
      ]

  pub in_slot_node : (k : KeyName) (o : Option ℕ) (s z : ℕ) → o ≡ Some z → s < 2 → is_in_slot h S k o s ≡ true → stop_node h S k s ≡ Some z
  in_slot_node k o zero z e few there = let w = is_node_true o _ there in w.2 ∙ ap Some (same_Some _ _ (sym w.1 ∙ e))
  in_slot_node k o (suc zero) z e few there = let w = is_node_true o _ (and_parts (not (is_node o (stop_node h S k zero))) (is_node o (stop_node h S k 1)) there).1 in w.2 ∙ ap Some (same_Some _ _ (sym w.1 ∙ e))
  in_slot_node k o (suc (suc s)) z e few there = absurd (omega arith)
