-- The start world is orderly, and its set empty, where the obligation on the start holds.
use Rattle.std.proofs.Common.{◌≡◌, ℕ, zero, suc, ℤ, pos, true, false, not, List, [], ◌∷◌, length, Option, Some, None, refl, sym, ◌∙◌, ap, inl, inr, arith}
use Rattle.std.specs.Prelude.{◌&&◌, slice_get}
use Rattle.std.specs.Option.{option_map_or, option_flatten}
use Rattle.std.proofs.lemmas.Bool.{and_parts, true_from_ne_false, false_from_ne_true}
use Rattle.std.proofs.lemmas.Option.{none-some, slice_get_cases}
use Rattle.plank_base.specs.declared.keys.NodeId.{NodeId}
use Rattle.plank_base.specs.declared.keys.Key.{Key}
use Rattle.plank_base.specs.declared.limits.TheConstants.{POINTERS_LIMIT}
use Rattle.plank_prog.specs.declared.headers.Header.{Header}
use Rattle.plank_prog.specs.declared.headers.Keep.{Keep}
use Rattle.plank_prog.specs.declared.headers.Pointer.{Pointer}
use Rattle.plank_prog.specs.declared.headers.KeyOrder.{KeyOrder}
use Rattle.plank_prog.specs.Conditions.{value}
use Rattle.plank_prog.proofs.HeaderFacts.{list_all_at}
use Rattle.plank_heap.specs.declared.nodes.Node.{Node}
use Rattle.plank_heap.specs.Heaps.{start_heap, view_of_node}
use Rattle.plank_heap.specs.Walks.{walk_visits, contains}
use Rattle.plank_sem.specs.Kept.{ghost_start}
use Rattle.plank_sem.proofs.Sizes.{start_sizes}
use Rattle.plank_fact.specs.Start.{StartFails, meets_keeps, meets_rules, leads_in_order, in_order_to, breaks_rules}
use Rattle.plank_fact.specs.Start as start
use Rattle.plank_fact.specs.Obligations.{AllHold}
use Rattle.plank_fact.specs.Outlines.{Outline}
use Rattle.plank_fact.specs.ObligationList.{start_obligation}
use Rattle.plank_account.specs.Justified.{StartsEmpty}
use Rattle.plank_scene.specs.Worlds.{in_order, field_order, IsOrderlyWorld}

-- the first obligation of every program
pub start_holds : (O : Outline) → AllHold O → StartFails O.header → ⊥
start_holds O hold fails = hold 0 start_obligation refl fails

module _ (h : Header) (hold : StartFails h → ⊥) where
  pub starts_empty : StartsEmpty h
  starts_empty j = false_from_ne_true (contains h (start_heap h) j) (λ e. hold (j, inr e))

  rules : (j : ℤ) (x : ℕ) (node : Node) → slice_get (start_heap h).nodes x ≡ Some node → meets_rules h (start_heap h) j x node ≡ true
  rules j x node at = true_from_ne_false (meets_rules h (start_heap h) j x node) (λ e. hold (j, inl (x, ap (λ o. option_map_or (λ z. not (meets_rules h (start_heap h) j x z)) o false) at ∙ ap not e)))

  keeps_so : (j : ℤ) (x n : ℕ) (node : Node) → slice_get (start_heap h).nodes x ≡ Some node → option_map_or (λ q. value (view_of_node node j (walk_visits h (start_heap h) j x)) q.condition) (slice_get h.keeps n) true ≡ true
  keeps_so j x n node at = elim (slice_get_cases h.keeps n).1 [
    | inl found ↦
        let all = (and_parts (meets_keeps h (start_heap h) j x node) (leads_in_order h (start_heap h) node 0) (and_parts _ (leads_in_order h (start_heap h) node 1) (rules j x node at)).0).0 in
        ap (λ o. option_map_or (λ (q : Keep). value (view_of_node node j (walk_visits h (start_heap h) j x)) q.condition) o true) found.2
        ∙ list_all_at (λ (k : Keep). value (view_of_node node j (walk_visits h (start_heap h) j x)) k.condition) h.keeps n found.0 all found.2
    | inr past ↦ ap (λ o. option_map_or (λ (q : Keep). value (view_of_node node j (walk_visits h (start_heap h) j x)) q.condition) o true) past.1
  ]

  same_order : (o : KeyOrder) (a b : Key) → start.in_order o a b ≡ in_order o a b
  same_order KeyOrder.Ascending a b = refl
  same_order KeyOrder.Descending a b = refl
  same_order KeyOrder.Free a b = refl

  ordered_by : (f : ℕ) (node next : Node) (to : NodeId) → leads_in_order h (start_heap h) node f ≡ true → slice_get node.pointers f ≡ Some (Some to) → slice_get (start_heap h).nodes to.0 ≡ Some next → in_order (field_order h f) node.key next.key ≡ true
  ordered_by f node next to met leads there = by_field (slice_get h.pointers f) refl
    where
      by_field : (o : Option Pointer) → slice_get h.pointers f ≡ o → in_order (field_order h f) node.key next.key ≡ true
      by_field None e = ap (λ o. in_order (option_map_or (λ q. q.order) o KeyOrder.Free) node.key next.key) e
      by_field (Some p) e =
          ap (λ o. in_order (option_map_or (λ q. q.order) o KeyOrder.Free) node.key next.key) e ∙ sym (same_order p.order node.key next.key)
          ∙ sym (ap (λ o. option_map_or (λ (z : Node). start.in_order p.order node.key z.key) o true) there)
          ∙ sym (ap (λ o. option_map_or (λ (t : NodeId). in_order_to (start_heap h) p.order node.key t.0) (option_flatten o) true) leads)
          ∙ sym (ap (λ o. option_map_or (λ q. option_map_or (λ (t : NodeId). in_order_to (start_heap h) q.order node.key t.0) (option_flatten (slice_get node.pointers f)) true) o true) e)
          ∙ met

  pub start_orderly : IsOrderlyWorld h (ghost_start h)
  start_orderly = record {
    keeps = λ j x n node shared at. keeps_so j x n node at;
    ordered = λ x f node next to at leads there. by_pointer x f node next to at leads there;
  }
    where
      j0 : ℤ
      j0 = pos zero

      by_pointer : (x f : ℕ) (node next : Node) (to : NodeId) → slice_get (start_heap h).nodes x ≡ Some node → slice_get node.pointers f ≡ Some (Some to) → slice_get (start_heap h).nodes to.0 ≡ Some next → in_order (field_order h f) node.key next.key ≡ true
      by_pointer x zero node next to at leads there = ordered_by zero node next to (and_parts (meets_keeps h (start_heap h) j0 x node) (leads_in_order h (start_heap h) node 0) (and_parts _ (leads_in_order h (start_heap h) node 1) (rules j0 x node at)).0).1 leads there
      by_pointer x (suc zero) node next to at leads there = ordered_by 1 node next to (and_parts (meets_keeps h (start_heap h) j0 x node && leads_in_order h (start_heap h) node 0) (leads_in_order h (start_heap h) node 1) (rules j0 x node at)).1 leads there
      by_pointer x (suc (suc f)) node next to at leads there = absurd (past_two node.pointers ((start_sizes h).nodes x node at) leads)
        where
          past_two : (ps : List (Option NodeId)) → length ps ≡ POINTERS_LIMIT → slice_get ps (suc (suc f)) ≡ Some (Some to) → ⊥
          past_two [] e d = none-some (Some to) d
          past_two (p ∷ []) e d = none-some (Some to) d
          past_two (p ∷ q ∷ []) e d = none-some (Some to) d
          past_two (p ∷ q ∷ r ∷ ps) e d = absurd (omega (arith, e))
