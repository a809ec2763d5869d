-- The chains and the picks of the picture of a scene, in terms of its nodes; the rules of pictures on both.
use Rattle.std.proofs.Common.{◌≡◌, ℕ, ◌<◌, ◌≤◌, ◌==◌, Bool, true, false, not, length, Option, Some, None, refl, sym, ◌∙◌, ap, subst, inl, inr, arith}
use Rattle.std.specs.Prelude.{◌&&◌, nat_lt, slice_get, is_some, is_none}
use Rattle.std.specs.Bool.{beq}
use Rattle.std.specs.Option.{option_map_or}
use Rattle.std.proofs.lemmas.Bool.{true≢false, and_parts, and_from, cases_Bool, eqb-true, eq-eqb, lt-ltb, cond-true, cond-false, not-true, false_from_ne_true}
use Rattle.std.proofs.lemmas.Option.{same_Some}
use Rattle.plank_base.specs.Paths.{Path, here, onward}
use Rattle.plank_base.specs.declared.keys.Key.{Key}
use Rattle.plank_base.specs.Keys.{is_at_most}
use Rattle.plank_base.proofs.Paths.{append, chain_law, one_end, end_or_successor}
use Rattle.plank_prog.specs.declared.headers.Header.{Header}
use Rattle.plank_prog.specs.Conditions.{value}
use Rattle.plank_prog.specs.Views.{holds_at, admits, key_of_term, is_bit_set}
use Rattle.plank_prog.specs.declared.headers.Pointer.{Pointer}
use Rattle.plank_prog.specs.declared.conditions.KeyTerm.{KeyTerm}
use Rattle.plank_heap.specs.declared.nodes.Node.{Node}
use Rattle.plank_heap.specs.Walks.{walk_visits}
use Rattle.plank_heap.proofs.Walking.{contains-at}
use Rattle.plank_pic.specs.declared.parts.KeyName.{KeyName}
use Rattle.plank_pic.specs.declared.parts.Part.{Part}
use Rattle.plank_pic.specs.Frames.{Frame}
use Rattle.plank_pic.specs.Pictures.{Picture, place, node_view, stop_view, stop_view_on, term_at, is_frozen_view, is_fast, is_picked_from, picks_from, view_admits}
use Rattle.plank_pic.specs.Lawful.{slot_count, term_fits, chains_are_there, chain_begins, chain_goes_on, chain_grows, pick_is_right, picks_once, stop_is_right, ◌⇒◌}
use Rattle.plank_pic.specs.declared.parts.Term.{Term}
use Rattle.plank_pic.proofs.Below.{some_found}
use Rattle.plank_scene.specs.Scenes.{Scene, node_at, leads, leads_from, is_node, is_nameless, is_fast_in, is_shared_in, fast_next, walk, is_chain, stop_of, stop_node, is_in_slot, is_visited_ever, picks_in, shown, key_in}
use Rattle.plank_scene.specs.Worlds.{IsScene}
use Rattle.plank_scene.proofs.Scenes.Showing.{beq_same, on_true, on_at, on_both_true, on_both_at, is_node_at, is_node_true, shown_says, shown_true, implies, node_found}
use Rattle.plank_scene.proofs.Scenes.Paths.{visit_path, chain_path, path_chain, fast_step, step_fast, stop_found, in_slot_node}
use Rattle.plank_scene.proofs.Scenes.Views.{holds_fits, walk_value, IsViewOf, frozen_name, frozen_value, view_admits_is, pointer_null}
use Rattle.plank_scene.proofs.Scenes.Edges.{goes_at, first_goes}
use Rattle.plank_scene.proofs.Scenes.Targets.{walk_from, chain_follows, first_of_chain, fast_there, no_slot}

module _ (F : Frame) (S : Scene) (is : IsScene F S) where
  abbrev H : Header
  H = F.header

  abbrev P : Picture
  P = shown F S

  -- a name is shared and frozen as its node is
  pub fast_name : (i x : ℕ) → i < F.names → S.named i ≡ Some x → is_fast H P i ≡ is_fast_in H S x
  fast_name i x below named =
      ap (λ b. b && is_frozen_view H (node_view P KeyName.Own i)) (shown_says F S (Part.Shared i) (lt-ltb i F.names below) ∙ on_at (is_shared_in S) named)
      ∙ ap (λ b. is_shared_in S x && b) (frozen_name F S i x below named is.lawful)

  pub chain_named : (i j : ℕ) → P (Part.Chain i j) ≡ true → (x y : ℕ) × (S.named i ≡ Some x) × (S.named j ≡ Some y) × Path (fast_next H S) x y
  chain_named i j e =
      let w = on_both_true (is_chain H S) (S.named i) (S.named j) (shown_true F S (Part.Chain i j) e).1 in
      (w.0, w.1, w.2, w.3, chain_path H S is.owned w.0 w.1 w.4)

  pub chain_shown : (i j x y : ℕ) → i < F.names → j < F.names → S.named i ≡ Some x → S.named j ≡ Some y → Path (fast_next H S) x y → P (Part.Chain i j) ≡ true
  chain_shown i j x y bi bj ni nj p =
      shown_says F S (Part.Chain i j) (and_from _ _ (lt-ltb i F.names bi) (lt-ltb j F.names bj)) ∙ on_both_at (is_chain H S) ni nj ∙ path_chain H S is.owned x y p

  -- names that are not of one node
  pub other_nodes : (i j x y : ℕ) → i < F.names → j < F.names → S.named i ≡ Some x → S.named j ≡ Some y → not (P (Part.Same i j)) ≡ true → x ≡ y → ⊥
  other_nodes i j x y bi bj ni nj other same =
      true≢false (sym (shown_says F S (Part.Same i j) (and_from _ _ (lt-ltb i F.names bi) (lt-ltb j F.names bj)) ∙ is_node_at ni (nj ∙ ap Some (sym same))) ∙ not-true (P (Part.Same i j)) other)

  lead_named : (i j x f : ℕ) → S.named i ≡ Some x → P (Part.Leads (place i f) j) ≡ true → (m : ℕ) × (leads S x f ≡ Some m) × (S.named j ≡ Some m)
  lead_named i j x f ni e =
      let w = is_node_true (leads_from S (S.named i) f) (S.named j) (shown_true F S (Part.Leads (place i f) j) e).1 in
      (w.0, sym (ap (λ o. leads_from S o f) ni) ∙ w.1, w.2)

  pub begins : (i j : ℕ) → i < F.names → j < F.names → chain_begins F P i j ≡ true
  begins i j bi bj =
      implies _ _ (λ e.
      let both = and_parts (P (Part.Chain i j)) (not (P (Part.Same i j))) e in
      let w = chain_named i j both.0 in
      let first = first_of_chain F S is w.0 w.1 (other_nodes i j w.0 w.1 bi bj w.2 w.3 both.1) w.4 in
      let step = fast_step H S is.owned w.0 first.0 first.1 in
      let one : length H.pointers ≡ 1 = eqb-true (length H.pointers) 1 step.0 in
      and_from _ _ (and_from _ _ step.0 (fast_name i w.0 bi w.2 ∙ step.1))
      (ap not (pointer_null F S i w.0 bi w.2 0 (omega (arith, one)) ∙ ap is_none step.2)))

  -- the rest of a path
  rest_of : (a b m : ℕ) → (a ≡ b → ⊥) → fast_next H S a ≡ Some m → Path (fast_next H S) a b → Path (fast_next H S) m b
  rest_of a b m other e here = absurd (other refl)
  rest_of a b m other e (onward {m = n} d p) = subst (λ v. Path (fast_next H S) v b) (same_Some n m (sym d ∙ e)) p

  pub chain_onward : (i j y : ℕ) → i < F.names → j < F.names → y < F.names → chain_goes_on P i j y ≡ true
  chain_onward i j y bi bj by =
      implies _ _ (λ e.
      let both = and_parts _ (P (Part.Leads (place i 0) y)) e in
      let two = and_parts (P (Part.Chain i j)) (not (P (Part.Same i j))) both.0 in
      let w = chain_named i j two.0 in
      let other = other_nodes i j w.0 w.1 bi bj w.2 w.3 two.1 in
      let lead = lead_named i y w.0 0 w.2 both.1 in
      let first = first_of_chain F S is w.0 w.1 other w.4 in
      let step = fast_step H S is.owned w.0 first.0 first.1 in
      let same : first.0 ≡ lead.0 = same_Some _ _ (sym step.2 ∙ lead.1) in
      chain_shown y j lead.0 w.1 by bj lead.2 w.3
      (rest_of w.0 w.1 lead.0 other (first.1 ∙ ap Some same) w.4))

  pub grows : (i j r : ℕ) → i < F.names → j < F.names → r < F.names → chain_grows F P i j r ≡ true
  grows i j r bi bj br =
      implies _ _ (λ e.
      let a = and_parts _ (P (Part.Leads (place j 0) r)) e in
      let b = and_parts _ (is_fast H P j) a.0 in
      let c = and_parts (chains_are_there F) (P (Part.Chain i j)) b.0 in
      let w = chain_named i j c.1 in
      let lead = lead_named j r w.1 0 w.3 a.1 in
      chain_shown i r w.0 lead.0 bi br w.2 lead.2
      (append w.4 (onward (step_fast H S is.owned w.1 lead.0 c.0 (sym (fast_name j w.1 bj w.3) ∙ b.1) lead.1) here)))

  -- ---- picks

  pub picks_named : (k : KeyName) (i j s : ℕ) → P (Part.Picks k i j s) ≡ true → (x y : ℕ) × (S.named i ≡ Some x) × (S.named j ≡ Some y) × (picks_in F S k s x y ≡ true)
  picks_named k i j s e = on_both_true (picks_in F S k s) (S.named i) (S.named j) (shown_true F S (Part.Picks k i j s) e).1

  pub pick_right : (k : KeyName) (i j s : ℕ) → i < F.names → j < F.names → s < slot_count F → pick_is_right F P k i j s ≡ true
  pick_right k i j s bi bj bs =
      implies _ _ (λ e.
      let w = picks_named k i j s e in
      let p4 = and_parts _ (is_in_slot H S k (stop_of H S k w.0 w.1) s) w.4 in
      let p3 = and_parts _ (is_visited_ever H S k w.0) p4.0 in
      let p2 = and_parts _ (is_nameless F S (leads S w.0 0)) p3.0 in
      let p1 = and_parts (is_chain H S w.0 w.1) (not (w.0 == w.1)) p2.0 in
      let chain = chain_path H S is.owned w.0 w.1 p1.0 in
      let other : w.0 ≡ w.1 → ⊥ = λ same. true≢false (sym (eq-eqb w.0 w.1 same) ∙ not-true (w.0 == w.1) p1.1) in
      let first = first_of_chain F S is w.0 w.1 other chain in
      let one : length H.pointers ≡ 1 = eqb-true (length H.pointers) 1 (fast_step H S is.owned w.0 first.0 first.1).0 in
      and_from _ _ (and_from _ _ (chain_shown i j w.0 w.1 bi bj w.2 w.3 chain)
      (ap not (shown_says F S (Part.Same i j) (and_from _ _ (lt-ltb i F.names bi) (lt-ltb j F.names bj))
      ∙ ap (λ o. is_node o (S.named j)) w.2 ∙ ap (λ o. is_node (Some w.0) o) w.3) ∙ p1.1))
      (shown_says F S (Part.Beyond (place i 0)) (and_from _ _ (lt-ltb i F.names bi) (lt-ltb 0 (length H.pointers) (omega (arith, one))))
      ∙ ap (λ o. is_nameless F S (leads_from S o 0)) w.2 ∙ p2.1))

  pub pick_one : (k : KeyName) (i j : ℕ) → picks_once P k i j ≡ true
  pick_one k i j = ap not (false_from_ne_true _ (λ e.
      let both = and_parts (P (Part.Picks k i j 0)) (P (Part.Picks k i j 1)) e in
      let w = picks_named k i j 0 both.0 in
      let v = picks_named k i j 1 both.1 in
      let same_x : v.0 ≡ w.0 = same_Some _ _ (sym v.2 ∙ w.2) in
      let same_y : v.1 ≡ w.1 = same_Some _ _ (sym v.3 ∙ w.3) in
      let slot0 = (and_parts _ (is_in_slot H S k (stop_of H S k w.0 w.1) 0) w.4).1 in
      let slot1 = (and_parts _ (is_in_slot H S k (stop_of H S k v.0 v.1) 1) v.4).1 in
      let moved = subst (λ b. is_in_slot H S k (stop_of H S k w.0 b) 1 ≡ true) same_y (subst (λ b. is_in_slot H S k (stop_of H S k b v.1) 1 ≡ true) same_x slot1) in
      true≢false (sym slot0 ∙ not-true _ (and_parts _ _ moved).0)))

  -- ---- stop nodes

  module _ (k : KeyName) (s z : ℕ) (few : s < slot_count F) (node : stop_node H S k s ≡ Some z) where
    fits_s : nat_lt s (slot_count F) ≡ true
    fits_s = lt-ltb s (slot_count F) few

    term_fits_s : (j : KeyName) (t : KeyTerm) → term_fits F (term_at (Term.Stop k s) j t) ≡ true
    term_fits_s j KeyTerm.Node = fits_s
    term_fits_s j KeyTerm.Walked = refl
    term_fits_s j KeyTerm.Min = refl
    term_fits_s j KeyTerm.Max = refl

    stop_key : (j : KeyName) (t : KeyTerm) → key_in F S (term_at (Term.Stop k s) j t) ≡ key_of_term (node_at S z).key (Key.Num (S.walked j)) t
    stop_key j KeyTerm.Node = ap (λ o. option_map_or (λ y. (node_at S y).key) o Key.Min) node
    stop_key j KeyTerm.Walked = refl
    stop_key j KeyTerm.Min = refl
    stop_key j KeyTerm.Max = refl

    pub stop_view_on_is : (j : KeyName) (visited : Bool) → IsViewOf H (stop_view_on P k s j visited) (node_at S z).key (node_at S z).flags (Key.Num (S.walked j))
    stop_view_on_is j visited = record {
      keys = λ a b. shown_says F S (Part.AtMost (term_at (Term.Stop k s) j a) (term_at (Term.Stop k s) j b)) (and_from _ _ (term_fits_s j a) (term_fits_s j b))
          ∙ ap (λ key. is_at_most key (key_in F S (term_at (Term.Stop k s) j b))) (stop_key j a)
          ∙ ap (λ key. is_at_most (key_of_term (node_at S z).key (Key.Num (S.walked j)) a) key) (stop_key j b);
      flag = λ f below. shown_says F S (Part.StopFlag k s f) (and_from _ _ fits_s (lt-ltb f (length H.flags) below)) ∙ on_at (λ y. is_bit_set (node_at S y).flags f) node;
    }

    pub stop_view_is : IsViewOf H (stop_view P k s) (node_at S z).key (node_at S z).flags (Key.Num (S.walked k))
    stop_view_is = stop_view_on_is k (P (Part.StopVisited k s))

    module _ (t : ℕ) (step : fast_next H S z ≡ Some t) (ends : walk H S k z ≡ None) where
      its : ((length H.pointers == 1) ≡ true) × (is_fast_in H S z ≡ true) × (leads S z 0 ≡ Some t)
      its = fast_step H S is.owned z t step

      there : (node : Node) × (slice_get S.heap.nodes z ≡ Some node)
      there = fast_there F S is z its.1

      frozen_there : is_frozen_view H (stop_view P k s) ≡ true
      frozen_there =
          frozen_value H (stop_view P k s) (node_at S z).key (node_at S z).flags (S.walked k) stop_view_is is.lawful ∙ (and_parts _ _ its.1).1

      adm : Pointer → Bool
      adm p = admits p (node_at S z).key (node_at S z).flags (S.walked k)

      stays_there : view_admits H (stop_view P k s) 0 ≡ false
      unfolding adm
      stays_there = false_from_ne_true _ (λ e.
          let admitted : option_map_or adm (slice_get H.pointers 0) false ≡ true =
          sym (view_admits_is H (stop_view P k s) (node_at S z).key (node_at S z).flags (S.walked k) stop_view_is is.lawful 0) ∙ e in
          let goes : goes_at adm H.pointers (node_at S z).pointers 0 ≡ true = and_from _ _ (ap is_some its.2) admitted in
          let moves = first_goes adm H.pointers (node_at S z).pointers 0 goes (λ g h. absurd (omega arith)) in
          end_or_successor ends (walk_from F S is k z there.0 there.1 ∙ moves ∙ its.2))

      set_there : P (Part.StopVisited k s) ≡ true → beq (P (Part.InSet k)) (value (stop_view P k s) H.holds) ≡ true
      set_there e =
          let told = on_true (walk_visits H S.heap (S.walked k)) (stop_node H S k s) (shown_true F S (Part.StopVisited k s) e).1 in
          let same : told.0 ≡ z = same_Some _ _ (sym told.1 ∙ node) in
          let v : walk_visits H S.heap (S.walked k) z ≡ true = subst (λ b. walk_visits H S.heap (S.walked k) b ≡ true) same told.2 in
          beq_same (shown_says F S (Part.InSet k) refl
          ∙ contains-at H S.heap (S.walked k) z (visit_path H S is.owned k z v, ends)
          ∙ ap (λ o. option_map_or (λ y. holds_at H y.key y.flags (S.walked k)) o false) there.1
          ∙ ap (λ (y : Node). holds_at H y.key y.flags (S.walked k)) (sym (node_found S z there.0 there.1))
          ∙ sym (walk_value H (stop_view P k s) (node_at S z).key (node_at S z).flags (S.walked k) stop_view_is H.holds (holds_fits H is.lawful)))

      pub stop_fits : (is_frozen_view H (stop_view P k s) && not (view_admits H (stop_view P k s) 0) && (P (Part.StopVisited k s) ⇒ beq (P (Part.InSet k)) (value (stop_view P k s) H.holds))) ≡ true
      stop_fits = and_from _ _ (and_from _ _ frozen_there (ap not stays_there)) (implies _ _ set_there)

  -- the stop node of a chain that is picked: on the chain, where the walk stops
  pub pick_stop : (k : KeyName) (i j s : ℕ) → s < 2 → P (Part.Picks k i j s) ≡ true → (z : ℕ) × (stop_node H S k s ≡ Some z) × (walk H S k z ≡ None) × ((t : ℕ) × (fast_next H S z ≡ Some t))
  pick_stop k i j s two e =
      let w = picks_named k i j s e in
      let p4 = and_parts _ (is_in_slot H S k (stop_of H S k w.0 w.1) s) w.4 in
      let p3 = and_parts _ (is_visited_ever H S k w.0) p4.0 in
      let p2 = and_parts _ (is_nameless F S (leads S w.0 0)) p3.0 in
      let p1 = and_parts (is_chain H S w.0 w.1) (not (w.0 == w.1)) p2.0 in
      of_stop w.0 w.1 (chain_path H S is.owned w.0 w.1 p1.0) (stop_of H S k w.0 w.1) refl p4.1
    where
      of_stop : (x y : ℕ) → Path (fast_next H S) x y → (o : Option ℕ) → stop_of H S k x y ≡ o → is_in_slot H S k o s ≡ true → (z : ℕ) × (stop_node H S k s ≡ Some z) × (walk H S k z ≡ None) × ((t : ℕ) × (fast_next H S z ≡ Some t))
      of_stop x y p None stop slot = absurd (no_slot H S k s slot)
      of_stop x y p (Some z) stop slot =
          let found = stop_found H S is.owned k x y z stop in
          elim (chain_law (chain_follows F S is k) p) [
            | inl q ↦ absurd (found.1.0 q)
            | inr r ↦
                let same : r.0 ≡ z = one_end r.1.0 r.1.1 found.0.0 found.0.1 in
                (z, in_slot_node H S is.owned k (Some z) s z refl two slot, found.0.1, (r.3.0, subst (λ b. fast_next H S b ≡ Some r.3.0) same r.3.1))
          ]

  pub slots_few : slot_count F ≤ 2
  slots_few = elim (cases_Bool (is_some H.freeze && (length H.pointers == 1))) [
    | inl c ↦ (let e : slot_count F ≡ 2 = cond-true _ 2 0 c in omega (arith, e))
    | inr c ↦ (let e : slot_count F ≡ 0 = cond-false _ 2 0 c in omega (arith, e))
  ]

  pub stop_right : (k : KeyName) (s : ℕ) → s < slot_count F → stop_is_right F P k s ≡ true
  stop_right k s few =
      implies _ _ (λ e.
      let a = some_found (is_picked_from F P k s) F.names e in
      let b = some_found (picks_from P k s a.0) F.names a.2 in
      let w = pick_stop k a.0 b.0 s (let m = slots_few in omega arith) b.2 in
      stop_fits k s w.0 few w.1 w.3.0 w.3.1 w.2)
