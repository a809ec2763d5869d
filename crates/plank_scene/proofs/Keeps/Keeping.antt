-- A write at which no obligation on nodes, pointers and keys fails keeps every shared node within its keeps and every pointer
-- in its order, also of nodes that have no name.
use Rattle.std.proofs.Common.{◌≡◌, ◌⊎◌, ℕ, ◌<◌, ℤ, Bool, true, false, not, length, Option, Some, None, refl, sym, ◌∙◌, ap, subst, inl, inr, arith}
use Rattle.std.specs.Prelude.{◌&&◌, ◌||◌, nat_lt, slice_get, is_none, unwrap_or, option_map, if◌then◌else◌}
use Rattle.std.specs.Option.{option_map_or, option_flatten}
use Rattle.std.proofs.lemmas.Bool.{true≢false, and_parts, and_from, or_left, or_right, or_parts, cases_Bool, cases_eq, lt-ltb, ltb-true, ltb-false, not-true, cond-true, cond-false, false_from_ne_true}
use Rattle.std.proofs.lemmas.Option.{slice_get_past}
use Rattle.plank_base.specs.declared.keys.Key.{Key}
use Rattle.plank_base.specs.declared.keys.NodeId.{NodeId}
use Rattle.plank_base.specs.Keys.{is_at_most}
use Rattle.plank_base.specs.Paths.{Path}
use Rattle.plank_base.specs.declared.limits.TheConstants.{POINTERS_LIMIT}
use Rattle.plank_prog.specs.declared.headers.Header.{Header}
use Rattle.plank_prog.specs.declared.headers.Keep.{Keep}
use Rattle.plank_prog.specs.declared.headers.Pointer.{Pointer}
use Rattle.plank_prog.specs.declared.headers.KeyOrder.{KeyOrder}
use Rattle.plank_prog.specs.Conditions.{View, value}
use Rattle.plank_prog.specs.Headers.{keep_scope}
use Rattle.plank_prog.specs.Scopes.{AgreeWithin}
use Rattle.plank_prog.specs.Views.{is_bit_set, key_of_term}
use Rattle.plank_prog.proofs.ScopeLaws.{scoped_value}
use Rattle.plank_prog.proofs.HeaderFacts.{few_pointers}
use Rattle.plank_heap.specs.declared.nodes.Node.{Node}
use Rattle.plank_heap.specs.Heaps.{view_of_node}
use Rattle.plank_heap.specs.Walks.{walk_visits}
use Rattle.plank_pic.specs.declared.parts.KeyName.{KeyName}
use Rattle.plank_pic.specs.declared.parts.Term.{Term}
use Rattle.plank_pic.specs.declared.parts.Part.{Part}
use Rattle.plank_pic.specs.declared.parts.Place.{Place}
use Rattle.plank_pic.specs.Frames.{Frame}
use Rattle.plank_pic.specs.declared.parts.Outcome.{Outcome}
use Rattle.plank_pic.specs.Below.{some_below}
use Rattle.plank_pic.specs.Pictures.{Picture, place, node_view, target, is_fast}
use Rattle.plank_pic.specs.Lawful.{place_fits, term_fits, keep_holds, node_keeps, keys_ordered, order_of, edge_is_ordered}
use Rattle.plank_pic.specs.Outcomes.{outcome}
use Rattle.plank_pic.specs.declared.moves.Moved.{Moved}
use Rattle.plank_pic.specs.Steps.{by_outcomes, enters, enters_either, movement}
use Rattle.plank_pic.specs.Keeps.{enters_chain, Placed, IsInner, MeetsAll}
use Rattle.plank_pic.proofs.Below.{some_found, some_there}
use Rattle.plank_pic.proofs.EachName.{told}
use Rattle.plank_scene.specs.Scenes.{Scene, node_at, leads, leads_from, is_node, is_shared_in, is_fast_in, walk, key_in, shown}
use Rattle.plank_scene.specs.Worlds.{IsScene, IsOrderly, in_order, node_meets}
use Rattle.plank_scene.proofs.Scenes.Showing.{is_node_true, is_node_at, on_at, shown_says, node_found}
use Rattle.plank_scene.proofs.Scenes.Paths.{visit_path, path_visit}
use Rattle.plank_scene.proofs.Scenes.Views.{name_view, pointer_null}
use Rattle.plank_scene.proofs.Scenes.Chains.{fast_name}
use Rattle.plank_scene.proofs.Writes.Reading.{Reads}
use Rattle.plank_scene.proofs.Walks.Moving.{no_leave}
use Rattle.plank_scene.proofs.Walks.Parts.{Passed}
use Rattle.plank_scene.proofs.Scenes.Orderly.{lead_null, not_less, keep_fits}
use Rattle.plank_scene.proofs.Scenes.Pictured.{order_shown}
use Rattle.plank_scene.proofs.Writes.Sides.{IsStep, side, part_named, side_comes, endless, side_kept}
use Rattle.plank_scene.proofs.Writes.Bits.{idle, back, vis_T, visits_untouched, bit_before, LeavesB, LeavesM, leavesB, leavesM}
use Rattle.plank_scene.proofs.Keeps.Inner.{placed_at, is_entered, is_inner}

module _ (F : Frame) (S T : Scene) (isS : IsScene F S) (isT : IsScene F T) (x at : ℕ) (below : at < F.names) (named : S.named at ≡ Some x)
    (step : IsStep F S T x) (same_names : T.named ≡ S.named) (M : Picture) (keys : (y : ℕ) → (node_at T y).key ≡ (node_at S y).key)
    (orderly : IsOrderly F S) (orders : (f j : ℕ) → place_fits F (place at f) ≡ true → j < F.names → edge_is_ordered F (shown F T) (place at f) j ≡ true) where
  abbrev H : Header
  H = F.header

  abbrev B : Picture
  B = shown F S

  abbrev W : Picture
  W = shown F T

  -- ---- pointers

  keys_back : (o : KeyOrder) (s t : Term) → term_fits F s ≡ true → term_fits F t ≡ true → keys_ordered o W s t ≡ true → in_order o (key_in F T s) (key_in F T t) ≡ true
  keys_back KeyOrder.Ascending s t fs ft e =
      not_less (key_in F T s) (key_in F T t) (sym (order_shown F T t s ft fs) ∙ not-true _ (and_parts (W (Part.AtMost s t)) (not (W (Part.AtMost t s))) e).1)
  keys_back KeyOrder.Descending s t fs ft e =
      not_less (key_in F T t) (key_in F T s) (sym (order_shown F T s t fs ft) ∙ not-true _ (and_parts (W (Part.AtMost t s)) (not (W (Part.AtMost s t))) e).1)
  keys_back KeyOrder.Free s t fs ft e = refl

  in_T : (o : KeyOrder) (a b : ℕ) → in_order o (node_at S a).key (node_at S b).key ≡ true → in_order o (node_at T a).key (node_at T b).key ≡ true
  in_T o a b e = ap (λ c. in_order o c (node_at T b).key) (keys a) ∙ ap (in_order o (node_at S a).key) (keys b) ∙ e

  key_of : (i a : ℕ) → S.named i ≡ Some a → key_in F T (Term.Node i) ≡ (node_at T a).key
  key_of i a e = ap (λ o. option_map_or (λ z. (node_at T z).key) o Key.Min) (ap (λ (n : ℕ → Option ℕ). n i) same_names ∙ e)

  -- every pointer is in its order after the write
  pub ordered_after : (y f z : ℕ) → leads T y f ≡ Some z → in_order (order_of F f) (node_at T y).key (node_at T z).key ≡ true
  ordered_after y f z e = elim (cases_eq y x) [
    | inr other ↦ in_T (order_of F f) y z (orderly.ordered y f z (sym (step.lead y f other) ∙ e))
    | inl same ↦ elim (cases_Bool (nat_lt f (length H.pointers))) [
      | inr past ↦
          let free : order_of F f ≡ KeyOrder.Free = ap (λ o. option_map_or (λ (q : Pointer). q.order) o KeyOrder.Free) (slice_get_past H.pointers f (ltb-false f (length H.pointers) past)) in
          ap (λ o. in_order o (node_at T y).key (node_at T z).key) free
      | inl few ↦
          let lead : leads T x f ≡ Some z = subst (λ b. leads T b f ≡ Some z) same e in
          subst (λ b. in_order (order_of F f) (node_at T b).key (node_at T z).key ≡ true) (sym same)
          (elim (step.written f z (ltb-true f (length H.pointers) few) lead) [
            | inl old ↦ in_T (order_of F f) x z (orderly.ordered x f z old)
            | inr new ↦
                let fits : place_fits F (place at f) ≡ true = and_from _ _ (lt-ltb at F.names below) few in
                let shows : W (Part.Leads (place at f) new.0) ≡ true =
                shown_says F T (Part.Leads (place at f) new.0) (and_from _ _ fits (lt-ltb new.0 F.names new.1))
                ∙ is_node_at (ap (λ o. leads_from T o f) (ap (λ (n : ℕ → Option ℕ). n at) same_names ∙ named) ∙ lead) (ap (λ (n : ℕ → Option ℕ). n new.0) same_names ∙ new.2) in
                ap (λ a. in_order (order_of F f) a (node_at T z).key) (sym (key_of at x named)) ∙ ap (in_order (order_of F f) (key_in F T (Term.Node at))) (sym (key_of new.0 z new.2))
                ∙ keys_back (order_of F f) (Term.Node at) (Term.Node new.0) (lt-ltb at F.names below) (lt-ltb new.0 F.names new.1) (told _ _ (orders f new.0 fits new.1) shows)
          ])
    ]
  ]

  -- ---- keeps

  module _ (k : KeyName) (readsB : Reads F (shown F S) S S k) (readsM : Reads F M S T k)
      (shares_back : (y : ℕ) → is_shared_in T y ≡ true → (is_shared_in S y ≡ true) ⊎ ((j : ℕ) × (j < F.names) × (S.named j ≡ Some y)))
      (wide : (y : ℕ) (node : Node) → slice_get T.heap.nodes y ≡ Some node → length node.pointers ≡ POINTERS_LIMIT)
      (keeps : (i n : ℕ) → i < F.names → n < length F.header.keeps → node_keeps F (shown F T) k i n ≡ true)
      (inside : (y q : ℕ) (v : View) (place : Placed) (b : Bool) → (enters_chain F (shown F S) k at y q || enters_chain F M k at y q) ≡ true → IsInner F (shown F S) k y q v place → MeetsAll F v b → MeetsAll F v (not b))
      (footprint : movement F (shown F S) M k at ≡ Moved.Apart → ⊥) where
    named_keep : (i y : ℕ) (node : Node) (n : ℕ) → i < F.names → T.named i ≡ Some y → slice_get T.heap.nodes y ≡ Some node → keep_holds H (node_view W k i) n ≡ true → node_meets F T k y node n ≡ true
    named_keep i y node n bi ni found holds = of_keep (slice_get H.keeps n) refl holds
      where
        at_node : node_at T y ≡ node
        at_node = node_found T y node found

        agree : AgreeWithin (keep_scope H) (node_view W k i) (view_of_node node (T.walked k) (walk_visits H T.heap (T.walked k) y))
        agree = record {
          at_most = λ a b _ _. (name_view F T i y bi ni k).keys a b
              ∙ ap (λ (z : Node). is_at_most (key_of_term z.key (Key.Num (T.walked k)) a) (key_of_term z.key (Key.Num (T.walked k)) b)) at_node;
          flag = λ f few. (name_view F T i y bi ni k).flag f few ∙ ap (λ (z : Node). is_bit_set z.flags f) at_node;
          null = λ f few. pointer_null F T i y bi ni f few
              ∙ ap (λ (z : Node). is_none (option_map (λ (to : NodeId). to.0) (option_flatten (slice_get z.pointers f)))) at_node
              ∙ lead_null node.pointers f (let le = few_pointers H isT.lawful in let two = wide y node found in omega arith);
          visited = λ asked. shown_says F T (Part.Visits k i) (lt-ltb i F.names bi) ∙ on_at (walk_visits H T.heap (T.walked k)) ni;
        }

        of_keep : (o : Option Keep) → slice_get H.keeps n ≡ o → option_map_or (λ q. value (node_view W k i) q.condition) o true ≡ true → option_map_or (λ q. value (view_of_node node (T.walked k) (walk_visits H T.heap (T.walked k) y)) q.condition) o true ≡ true
        of_keep None e met = refl
        of_keep (Some q) e met = sym (scoped_value (keep_scope H) (node_view W k i) (view_of_node node (T.walked k) (walk_visits H T.heap (T.walked k) y)) agree q.condition (keep_fits H isT.lawful n q e)) ∙ met

    -- ---- a node without a name

    module _ (y : ℕ) (unnamed : (j : ℕ) → j < F.names → S.named j ≡ Some y → ⊥) (node : Node) (found : slice_get S.heap.nodes y ≡ Some node) (shared : is_shared_in S y ≡ true) where
      abbrev vS : Bool
      vS = walk_visits H S.heap (S.walked k) y

      abbrev vT : Bool
      vT = walk_visits H T.heap (T.walked k) y

      at_node : node_at S y ≡ node
      at_node = node_found S y node found

      view : Bool → View
      view b = view_of_node (node_at S y) (S.walked k) b

      meets_before : MeetsAll F (view_of_node (node_at S y) (S.walked k) vS) vS
      meets_before n bn = ap (λ (z : Node). option_map_or (λ (q : Keep). value (view_of_node z (S.walked k) vS) q.condition) (slice_get H.keeps n) true) at_node ∙ orderly.keeps k y node n found shared

      -- a name on a part is of a node that has a name
      not_passed : (P : Picture) (U : Scene) (isU : IsScene F U) (reads : Reads F P S U k) (step_U : IsStep F S U x) (vis : walk_visits H U.heap (U.walked k) x ≡ true) (quiet : (is_fast_in H S x ≡ false) ⊎ (enters F P k at ≡ false))
          → Passed (side F P S U k isS isU reads x step_U at below named vis quiet) y → ⊥
      not_passed P U isU reads step_U vis quiet w =
          let v = part_named F P S U k isS isU reads x step_U at below named vis quiet w.0 w.1 in
          unnamed w.0 v.0 (v.1.1 ∙ ap Some (sym (ap (λ o. unwrap_or o 0) v.1.1) ∙ sym w.2))

      rest : IsStep F S S x
      rest = idle F S T k isS isT x at below named step same_names M readsB readsM

      at_bit : B (Part.Visits k at) ≡ walk_visits H S.heap (S.walked k) x
      at_bit = bit_before F S T k isS isT x at below named step same_names M readsB readsM at x below named

      module _ (vis : walk_visits H S.heap (S.walked k) x ≡ true) where
        move_is : movement F B M k at ≡ (if is_fast H B at && enters_either F B M k at then Moved.Apart else by_outcomes H B M k (outcome F B k at) (outcome F M k at))
        move_is = cond-false (not (B (Part.Visits k at))) Moved.Untouched _ (ap not (at_bit ∙ vis))

        calm : (is_fast H B at && enters_either F B M k at) ≡ false
        calm = false_from_ne_true _ (λ e. footprint (move_is ∙ cond-true _ Moved.Apart _ e))

        not_apart : by_outcomes H B M k (outcome F B k at) (outcome F M k at) ≡ Moved.Apart → ⊥
        not_apart e = footprint (move_is ∙ cond-false _ Moved.Apart _ calm ∙ e)

        quiet : ((is_fast_in H S x ≡ false) ⊎ (enters F B k at ≡ false)) × ((is_fast_in H S x ≡ false) ⊎ (enters F M k at ≡ false))
        quiet = elim (cases_Bool (is_fast_in H S x)) [
          | inr slow ↦ (inl slow, inl slow)
          | inl quick ↦
              let none : enters_either F B M k at ≡ false = sym (ap (λ b. b && enters_either F B M k at) (fast_name F S isS at x below named ∙ quick)) ∙ calm in
              let both = or_parts (enters F B k at) (enters F M k at) none in
              (inr both.0, inr both.1)
        ]

        visT : walk_visits H T.heap (T.walked k) x ≡ true
        visT = vis_T F S T k isS isT x at below named step same_names M readsB readsM vis quiet.0 quiet.1

        abbrev LB : Type 0
        LB = LeavesB F S T k isS isT x at below named step same_names M readsB readsM vis quiet.0 quiet.1

        abbrev LM : Type 0
        LM = LeavesM F S T k isS isT x at below named step same_names M readsB readsM vis quiet.0 quiet.1

        neither : ((p : Place) → outcome F B k at ≡ Outcome.Leaves p → ⊥) → ((p : Place) → outcome F M k at ≡ Outcome.Leaves p → ⊥) → LB × LM
        neither nB nM = (
          λ a p path out. absurd (no_leave (target F B k) _ _ _ (side_comes F B S S k isS isS readsB x rest at below named vis quiet.0) (endless F B S S k isS isS readsB x rest at below named vis quiet.0) nB a p path out),
          λ a p path out. absurd (no_leave (target F M k) _ _ _ (side_comes F M S T k isS isT readsM x step at below named visT quiet.1) (endless F M S T k isS isT readsM x step at below named visT quiet.1) nM a p path out),
        )

        -- where no key moves apart, both parts leave to one node or none leaves
        leaves_both : (o r : Outcome) → outcome F B k at ≡ o → outcome F M k at ≡ r → (by_outcomes H B M k o r ≡ Moved.Apart → ⊥) → LB × LM
        leaves_both (Outcome.EndsAt i) (Outcome.EndsAt j) eB eM no_apart = neither (λ p e. let d : Outcome.EndsAt i ≡ Outcome.Leaves p = sym eB ∙ e in cc) (λ p e. let d : Outcome.EndsAt j ≡ Outcome.Leaves p = sym eM ∙ e in cc)
        leaves_both (Outcome.EndsAt i) (Outcome.StopsIn u q s) eB eM no_apart = neither (λ p e. let d : Outcome.EndsAt i ≡ Outcome.Leaves p = sym eB ∙ e in cc) (λ p e. let d : Outcome.StopsIn u q s ≡ Outcome.Leaves p = sym eM ∙ e in cc)
        leaves_both (Outcome.EndsAt i) (Outcome.Leaves p) eB eM no_apart = absurd (no_apart refl)
        leaves_both (Outcome.EndsAt i) Outcome.Cycles eB eM no_apart = absurd (no_apart refl)
        leaves_both (Outcome.StopsIn u v t) (Outcome.EndsAt j) eB eM no_apart = neither (λ p e. let d : Outcome.StopsIn u v t ≡ Outcome.Leaves p = sym eB ∙ e in cc) (λ p e. let d : Outcome.EndsAt j ≡ Outcome.Leaves p = sym eM ∙ e in cc)
        leaves_both (Outcome.StopsIn u v t) (Outcome.StopsIn w q s) eB eM no_apart = neither (λ p e. let d : Outcome.StopsIn u v t ≡ Outcome.Leaves p = sym eB ∙ e in cc) (λ p e. let d : Outcome.StopsIn w q s ≡ Outcome.Leaves p = sym eM ∙ e in cc)
        leaves_both (Outcome.StopsIn u v t) (Outcome.Leaves p) eB eM no_apart = absurd (no_apart refl)
        leaves_both (Outcome.StopsIn u v t) Outcome.Cycles eB eM no_apart = absurd (no_apart refl)
        leaves_both (Outcome.Leaves p) (Outcome.EndsAt j) eB eM no_apart = absurd (no_apart refl)
        leaves_both (Outcome.Leaves p) (Outcome.StopsIn u q s) eB eM no_apart = absurd (no_apart refl)
        leaves_both (Outcome.Leaves p) (Outcome.Leaves q) eB eM no_apart = elim (cases_Bool (B (Part.SameBeyond p q))) [
          | inr d ↦ absurd (no_apart (cond-false (B (Part.SameBeyond p q)) Moved.Same Moved.Apart d))
          | inl d ↦ (leavesB F S T k isS isT x at below named step same_names M readsB readsM vis quiet.0 quiet.1 p q eB eM d, leavesM F S T k isS isT x at below named step same_names M readsB readsM vis quiet.0 quiet.1 p q eB eM d)
        ]
        leaves_both (Outcome.Leaves p) Outcome.Cycles eB eM no_apart = absurd (no_apart refl)
        leaves_both Outcome.Cycles (Outcome.EndsAt j) eB eM no_apart = absurd (no_apart refl)
        leaves_both Outcome.Cycles (Outcome.StopsIn u q s) eB eM no_apart = absurd (no_apart refl)
        leaves_both Outcome.Cycles (Outcome.Leaves p) eB eM no_apart = absurd (no_apart refl)
        leaves_both Outcome.Cycles Outcome.Cycles eB eM no_apart = neither (λ p e. let d : Outcome.Cycles ≡ Outcome.Leaves p = sym eB ∙ e in cc) (λ p e. let d : Outcome.Cycles ≡ Outcome.Leaves p = sym eM ∙ e in cc)

        leave : LB × LM
        leave = leaves_both (outcome F B k at) (outcome F M k at) refl refl not_apart

        -- it lost its visit: it lies on a chain that the part before enters
        lost : vS ≡ true → vT ≡ false → (b : Bool) → MeetsAll F (view_of_node (node_at S y) (S.walked k) b) b → MeetsAll F (view_of_node (node_at S y) (S.walked k) b) (not b)
        lost eS eT b meets =
            elim (side_kept F B S S k isS isS readsB x rest at below named vis quiet.0 T (step.agree k) leave.0 S.heap.root.0 y (visit_path H S isS.owned k y eS)) [
              | inl p ↦ absurd (true≢false (sym (path_visit H T isT.owned k y (subst (λ r. Path (walk H T k) r y) (sym step.root) p)) ∙ eT))
              | inr (inl w) ↦ absurd (not_passed B S isS readsB rest vis quiet.0 w)
              | inr (inr w) ↦ inside _ _ (view_of_node (node_at S y) (S.walked k) b) (placed_at F S y) b
                  (or_left _ _ (is_entered F B S S k isS isS readsB x rest at below named vis quiet.0 (λ z. refl) orderly.ordered orderly.ordered y unnamed w))
                  (is_inner F B S S k isS isS readsB x rest at below named vis quiet.0 (λ z. refl) orderly.ordered orderly.ordered y unnamed w b) meets
            ]

        -- it came to be visited: it lies on a chain that the new part enters
        won : vS ≡ false → vT ≡ true → (b : Bool) → MeetsAll F (view_of_node (node_at S y) (S.walked k) b) b → MeetsAll F (view_of_node (node_at S y) (S.walked k) b) (not b)
        won eS eT b meets =
            elim (side_kept F M S T k isS isT readsM x step at below named visT quiet.1 S (back F S T k isS isT x at below named step same_names M readsB readsM k) leave.1 S.heap.root.0 y (subst (λ r. Path (walk H T k) r y) step.root (visit_path H T isT.owned k y eT))) [
              | inl p ↦ absurd (true≢false (sym (path_visit H S isS.owned k y p) ∙ eS))
              | inr (inl w) ↦ absurd (not_passed M T isT readsM step visT quiet.1 w)
              | inr (inr w) ↦ inside _ _ (view_of_node (node_at S y) (S.walked k) b) (placed_at F S y) b
                  (or_right (enters_chain F B k at _ _) _ (is_entered F M S T k isS isT readsM x step at below named visT quiet.1 keys orderly.ordered ordered_after y unnamed w))
                  (is_inner F M S T k isS isT readsM x step at below named visT quiet.1 keys orderly.ordered ordered_after y unnamed w b) meets
            ]

      -- so it meets the keeps with the visit bit that it has now
      meets_after : MeetsAll F (view_of_node (node_at S y) (S.walked k) vT) vT
      meets_after = by_bits (cases_Bool vS) (cases_Bool vT) (cases_Bool (walk_visits H S.heap (S.walked k) x))
        where
          by_bits : (vS ≡ true) ⊎ (vS ≡ false) → (vT ≡ true) ⊎ (vT ≡ false) → (walk_visits H S.heap (S.walked k) x ≡ true) ⊎ (walk_visits H S.heap (S.walked k) x ≡ false) → MeetsAll F (view_of_node (node_at S y) (S.walked k) vT) vT
          by_bits (inl eS) (inl eT) v = subst (λ b. MeetsAll F (view_of_node (node_at S y) (S.walked k) b) b) (eS ∙ sym eT) meets_before
          by_bits (inr eS) (inr eT) v = subst (λ b. MeetsAll F (view_of_node (node_at S y) (S.walked k) b) b) (eS ∙ sym eT) meets_before
          by_bits (inl eS) (inr eT) (inl v) = λ n bn. subst (λ b. keep_holds H (view_of_node (node_at S y) (S.walked k) b) n ≡ true) (sym eT) (lost v eS eT true (subst (λ b. MeetsAll F (view_of_node (node_at S y) (S.walked k) b) b) eS meets_before) n bn)
          by_bits (inr eS) (inl eT) (inl v) = λ n bn. subst (λ b. keep_holds H (view_of_node (node_at S y) (S.walked k) b) n ≡ true) (sym eT) (won v eS eT false (subst (λ b. MeetsAll F (view_of_node (node_at S y) (S.walked k) b) b) eS meets_before) n bn)
          by_bits (inl eS) (inr eT) (inr v) = absurd (true≢false (sym eS ∙ visits_untouched F S T k isS isT x at below named step same_names M readsB readsM v y ∙ eT))
          by_bits (inr eS) (inl eT) (inr v) = absurd (true≢false (sym eT ∙ sym (visits_untouched F S T k isS isT x at below named step same_names M readsB readsM v y) ∙ eS))

    -- ---- every shared node

    pub keeps_after : (y : ℕ) (node : Node) (n : ℕ) → n < length H.keeps → slice_get T.heap.nodes y ≡ Some node → is_shared_in T y ≡ true → node_meets F T k y node n ≡ true
    keeps_after y node n bn found shared = elim (cases_Bool (some_below (λ j. is_node (Some y) (S.named j)) F.names)) [
      | inl c ↦
          let w = some_found (λ j. is_node (Some y) (S.named j)) F.names c in
          let u = is_node_true (Some y) (S.named w.0) w.2 in
          let ni : T.named w.0 ≡ Some y = ap (λ (f : ℕ → Option ℕ). f w.0) same_names ∙ u.2 ∙ sym u.1 in
          named_keep w.0 y node n w.1 ni found (told _ _ (keeps w.0 n w.1 bn) (shown_says F T (Part.Shared w.0) (lt-ltb w.0 F.names w.1) ∙ on_at (is_shared_in T) ni ∙ shared))
      | inr c ↦
          let unnamed : (j : ℕ) → j < F.names → S.named j ≡ Some y → ⊥ = λ j bj e. true≢false (sym (some_there (λ j. is_node (Some y) (S.named j)) F.names j bj (is_node_at refl e)) ∙ c) in
          let not_x : y ≡ x → ⊥ = λ e. unnamed at below (named ∙ ap Some (sym e)) in
          let was : slice_get S.heap.nodes y ≡ Some node = sym (step.nodes y not_x) ∙ found in
          let shared_S : is_shared_in S y ≡ true = elim (shares_back y shared) [ inl s ↦ s | inr j ↦ absurd (unnamed j.0 j.1 j.2) ] in
          ap (λ (w : KeyName → ℤ). option_map_or (λ (q : Keep). value (view_of_node node (w k) (walk_visits H T.heap (w k) y)) q.condition) (slice_get H.keeps n) true) step.walked
          ∙ ap (λ (w : KeyName → ℤ). option_map_or (λ (q : Keep). value (view_of_node node (S.walked k) (walk_visits H T.heap (w k) y)) q.condition) (slice_get H.keeps n) true) (sym step.walked)
          ∙ ap (λ (z : Node). option_map_or (λ (q : Keep). value (view_of_node z (S.walked k) (walk_visits H T.heap (T.walked k) y)) q.condition) (slice_get H.keeps n) true) (sym (node_found S y node was))
          ∙ meets_after y unnamed node was shared_S n bn
    ]
