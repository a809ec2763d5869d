-- A visited node of the picture of a scene sends each key on to what is visited, or gives the set bit.
use Rattle.std.proofs.Common.{◌≡◌, ◌⊎◌, ℕ, zero, suc, ◌<◌, ◌==◌, Bool, true, false, not, List, [], ◌∷◌, length, Option, Some, None, refl, sym, ◌∙◌, ap, subst, inl, inr, arith}
use Rattle.std.specs.Prelude.{◌&&◌, nat_lt, slice_get, is_some, option_and_then}
use Rattle.std.specs.Option.{option_map_or}
use Rattle.std.proofs.lemmas.Bool.{false≢true, true≢false, and_parts, and_from, or_left, or_right, cases_Bool, eqb-true, lt-ltb, cond-true, cond-false, not-true, not_from_false, false_from_ne_true}
use Rattle.std.proofs.lemmas.Option.{none-some, same_Some, slice_get_cases}
use Rattle.plank_base.specs.declared.keys.NodeId.{NodeId}
use Rattle.plank_base.specs.Paths.{Path, here, onward, EndsAt, FollowsOrStops, meets_within}
use Rattle.plank_base.proofs.Paths.{append, chain_law}
use Rattle.plank_base.proofs.PathCounts.{path_stays, meets_decides}
use Rattle.plank_prog.specs.declared.headers.Header.{Header}
use Rattle.plank_prog.specs.Conditions.{value}
use Rattle.plank_prog.specs.Views.{holds_at, admits}
use Rattle.plank_prog.specs.declared.headers.Pointer.{Pointer}
use Rattle.plank_prog.specs.declared.conditions.Condition.{Condition}
use Rattle.plank_heap.specs.declared.nodes.Node.{Node}
use Rattle.plank_heap.specs.declared.heaps.Heap.{Heap}
use Rattle.plank_heap.specs.Walks.{first_admitted, next_from, walk_visits}
use Rattle.plank_heap.proofs.Walking.{walk_stays, contains-at}
use Rattle.plank_pic.specs.declared.parts.KeyName.{KeyName}
use Rattle.plank_pic.specs.declared.parts.Target.{Target}
use Rattle.plank_pic.specs.declared.parts.Part.{Part}
use Rattle.plank_pic.specs.Frames.{Frame}
use Rattle.plank_pic.specs.Below.{least_below}
use Rattle.plank_pic.specs.Pictures.{Picture, place, leads_to, chains_on, node_view, edge, target, pointer_target, outer_target, chain_target}
use Rattle.plank_pic.specs.Lawful.{part_fits, slot_count, arrives, visit_goes_on}
use Rattle.plank_pic.proofs.Below.{least_some, least_none, none_there}
use Rattle.plank_scene.specs.Worlds.{IsScene}
use Rattle.plank_scene.specs.Scenes.{Scene, node_at, leads, leads_from, is_node, is_nameless, is_fast_in, fast_next, walk, is_chain, stop_of, stop_node, is_in_slot, is_visited_ever, picks_in, shown}
use Rattle.plank_scene.proofs.Scenes.Edges.{lead_at}
use Rattle.plank_scene.proofs.Scenes.Paths.{unborn_unshared, visit_path, visit_on, chain_path, fast_step, stop_found, stop_there, end_in_slot, in_slot_node, walk_stops}
use Rattle.plank_scene.proofs.Scenes.Showing.{beq_same, on_true, on_at, on_both_true, on_both_at, is_node_at, is_node_true, shown_says, shown_true, implies, node_found}
use Rattle.plank_scene.proofs.Scenes.Views.{holds_fits, walk_value, name_view, edge_some, edge_none}

-- a walk goes through the one pointer, or stops
one_way : (adm : Pointer → Bool) (ps : List Pointer) (ts : List (Option NodeId)) (m : ℕ) → length ps ≡ 1 → lead_at ts 0 ≡ Some m → (first_admitted adm ps ts ≡ Some m) ⊎ (first_admitted adm ps ts ≡ None)
one_way adm [] ts m one e = absurd (omega (arith, one))
one_way adm (p ∷ q ∷ ps) ts m one e = absurd (omega (arith, one))
one_way adm (p ∷ []) [] m one e = absurd (none-some m e)
one_way adm (p ∷ []) (None ∷ ts) m one e = absurd (none-some m e)
one_way adm (p ∷ []) (Some to ∷ ts) m one e =
    elim (cases_Bool (adm p)) [
      | inl c ↦ inl (cond-true (adm p) (Some to.0) None c ∙ e)
      | inr c ↦ inr (cond-false (adm p) (Some to.0) None c)
    ]

frozen_somehow : (o : Option Condition) (test : Condition → Bool) → option_map_or test o false ≡ true → is_some o ≡ true
frozen_somehow None test e = absurd (false≢true e)
frozen_somehow (Some c) test e = refl

-- what is nowhere is in no slot
pub no_slot : (h : Header) (S : Scene) (k : KeyName) (s : ℕ) → is_in_slot h S k None s ≡ true → ⊥
no_slot h S k zero e = false≢true e
no_slot h S k (suc s) e = false≢true e

module _ (F : Frame) (S : Scene) (is : IsScene F S) where
  abbrev H : Header
  H = F.header

  -- ---- moves of a node that is there

  pub walk_from : (k : KeyName) (x : ℕ) (node : Node) → slice_get S.heap.nodes x ≡ Some node → walk H S k x ≡ next_from H (S.walked k) (node_at S x)
  walk_from k x node e = ap (option_and_then (next_from H (S.walked k))) e ∙ ap (next_from H (S.walked k)) (sym (node_found S x node e))

  pub visited_there : (k : KeyName) (x : ℕ) → Path (walk H S k) S.heap.root.0 x → (node : Node) × (slice_get S.heap.nodes x ≡ Some node)
  visited_there k x p =
      let stays : x < length S.heap.nodes = path_stays (walk_stays H S.heap (S.walked k) is.closed) is.closed.root p in
      elim (slice_get_cases S.heap.nodes x).1 [ inl found ↦ (found.0, found.2) | inr past ↦ absurd (let le = past.0 in omega arith) ]

  -- ---- a chain's moves are the walk's, or the walk stops

  pub one_pointer : (f : ℕ) → (length H.pointers == 1) ≡ true → f < length H.pointers → f ≡ 0
  one_pointer f one few = let e : length H.pointers ≡ 1 = eqb-true (length H.pointers) 1 one in omega arith

  pub fast_there : (x : ℕ) → is_fast_in H S x ≡ true → (node : Node) × (slice_get S.heap.nodes x ≡ Some node)
  fast_there x fast =
      elim (slice_get_cases S.heap.nodes x).1 [
        | inl found ↦ (found.0, found.2)
        | inr past ↦ absurd (true≢false (sym (and_parts _ _ fast).0 ∙ unborn_unshared H S is.owned x past.0))
      ]

  pub chain_follows : (k : KeyName) → FollowsOrStops (fast_next H S) (walk H S k)
  chain_follows k a m e =
      let w = fast_step H S is.owned a m e in
      let node = fast_there a w.1 in
      let from = walk_from k a node.0 node.1 in
      elim (one_way (λ p. admits p (node_at S a).key (node_at S a).flags (S.walked k)) H.pointers (node_at S a).pointers m (eqb-true (length H.pointers) 1 w.0) w.2) [
        | inl s ↦ inl (from ∙ s)
        | inr n ↦ inr (from ∙ n)
      ]

  -- where a chain leads on, there are slots
  pub slots_there : (a m : ℕ) → fast_next H S a ≡ Some m → (s : ℕ) → s < 2 → nat_lt s (slot_count F) ≡ true
  slots_there a m e s few =
      let w = fast_step H S is.owned a m e in
      let freezes : is_some H.freeze ≡ true = frozen_somehow H.freeze _ (and_parts _ _ w.1).1 in
      let both : (is_some H.freeze && (length H.pointers == 1)) ≡ true = and_from _ _ freezes w.0 in
      ap (λ n. nat_lt s n) (cond-true (is_some H.freeze && (length H.pointers == 1)) 2 0 both) ∙ lt-ltb s 2 few

  pub first_of_chain : (x y : ℕ) → (x ≡ y → ⊥) → Path (fast_next H S) x y → (m : ℕ) × (fast_next H S x ≡ Some m)
  first_of_chain x y other here = absurd (other refl)
  first_of_chain x y other (onward {m} e p) = (m, e)

  pub ever : (k : KeyName) (x : ℕ) → walk_visits H S.heap (S.walked k) x ≡ true → is_visited_ever H S k x ≡ true
  ever k x v =
      elim is.either [
        | inl e ↦ or_left _ _ (subst (λ (G : Heap). walk_visits H G (S.walked k) x ≡ true) e v)
        | inr e ↦ or_right _ _ (subst (λ (G : Heap). walk_visits H G (S.walked k) x ≡ true) e v)
      ]

  module _ (k : KeyName) (i x : ℕ) (below : i < F.names) (named : S.named i ≡ Some x) (v : walk_visits H S.heap (S.walked k) x ≡ true) where
    abbrev P : Picture
    P = shown F S

    there : (node : Node) × (slice_get S.heap.nodes x ≡ Some node)
    there = visited_there k x (visit_path H S is.owned k x v)

    fits_i : nat_lt i F.names ≡ true
    fits_i = lt-ltb i F.names below

    move_of_edge : (f : ℕ) → edge H P k i ≡ Some f → (a : ℕ) × (walk H S k x ≡ Some a) × (leads S x f ≡ Some a)
    move_of_edge f e =
        let w = edge_some F S i x below named is.lawful k f e in
        (w.2.0, walk_from k x there.0 there.1 ∙ w.1 ∙ w.2.1, w.2.1)

    no_move : edge H P k i ≡ None → walk H S k x ≡ None
    no_move e = walk_from k x there.0 there.1 ∙ edge_none F S i x below named is.lawful k e

    visits_name : (j y : ℕ) → j < F.names → S.named j ≡ Some y → Path (walk H S k) x y → P (Part.Visits k j) ≡ true
    visits_name j y h e p = shown_says F S (Part.Visits k j) (lt-ltb j F.names h) ∙ on_at (walk_visits H S.heap (S.walked k)) e ∙ visit_on H S is.owned k x y v p

    -- ---- into a chain

    module _ (f : ℕ) (few : f < length H.pointers) (a : ℕ) (step : walk H S k x ≡ Some a) (lead : leads S x f ≡ Some a)
        (outside : (j : ℕ) → j < F.names → P (Part.Leads (place i f) j) ≡ false)
        (q y : ℕ) (below_q : q < F.names) (named_q : S.named q ≡ Some y) (chain : is_chain H S x y ≡ true) (other : x ≡ y → ⊥) where
      first : (m : ℕ) × (fast_next H S x ≡ Some m)
      first = first_of_chain x y other (chain_path H S is.owned x y chain)

      zero_f : f ≡ 0
      zero_f = one_pointer f (fast_step H S is.owned x first.0 first.1).0 few

      nameless : is_nameless F S (leads S x 0) ≡ true
      nameless =
          let lead0 : leads S x 0 ≡ Some a = subst (λ g. leads S x g ≡ Some a) zero_f lead in
          and_from _ _ (ap is_some lead0) (ap not (none_there (λ j. is_node (leads S x 0) (S.named j)) F.names (λ j h.
          subst (λ g. is_node (leads S x g) (S.named j) ≡ false) zero_f
          (ap (λ o. is_node (leads_from S o f) (S.named j)) (sym named)
          ∙ sym (shown_says F S (Part.Leads (place i f) j) (and_from _ _ (and_from _ _ fits_i (lt-ltb f (length H.pointers) few)) (lt-ltb j F.names h)))
          ∙ outside j h))))

      pick_fits : (s : ℕ) → s < 2 → part_fits F (Part.Picks k i q s) ≡ true
      pick_fits s two = and_from _ _ (and_from _ _ fits_i (lt-ltb q F.names below_q)) (slots_there x first.0 first.1 s two)

      -- the stop node of the chain is in a slot, and the chain picks it
      picked : (z s : ℕ) → s < 2 → stop_of H S k x y ≡ Some z → is_in_slot H S k (Some z) s ≡ true → P (Part.Picks k i q s) ≡ true
      picked z s two stop slot =
          shown_says F S (Part.Picks k i q s) (pick_fits s two) ∙ on_both_at (picks_in F S k s) named named_q
          ∙ and_from _ _ (and_from _ _ (and_from _ _ (and_from _ _ chain (not_from_false (x == y) (false_from_ne_true (x == y) (λ e. other (eqb-true x y e))))) nameless) (ever k x v))
          (subst (λ o. is_in_slot H S k o s ≡ true) (sym stop) slot)

      jumps : P (Part.Picks k i q 0) ≡ false → P (Part.Picks k i q 1) ≡ false → P (Part.Visits k q) ≡ true
      jumps none0 none1 =
          elim (chain_law (chain_follows k) (chain_path H S is.owned x y chain)) [
            | inl p ↦ visits_name q y below_q named_q p
            | inr w ↦ elim (cases_Bool (meets_within (walk H S k) (length S.heap.nodes) x y)) [
              | inl met ↦ visits_name q y below_q named_q ((meets_decides x y (walk_stops H S is.owned k)).0 met)
              | inr away ↦
                  let stop = stop_there H S is.owned k x y w.0 a w.1 (λ p. true≢false (sym ((meets_decides x y (walk_stops H S is.owned k)).1 p) ∙ away)) step in
                  let ends : EndsAt (walk H S k) S.heap.root.0 w.0 = (append (visit_path H S is.owned k x v) w.1.0, w.1.1) in
                  elim (end_in_slot H S is.owned k w.0 is.either ends) [
                    | inl s0 ↦ absurd (true≢false (sym (picked w.0 0 (omega arith) stop s0) ∙ none0))
                    | inr s1 ↦ absurd (true≢false (sym (picked w.0 1 (omega arith) stop s1) ∙ none1))
                  ]
            ]
          ]

      -- the stop node of a chain that is picked is visited
      stops : (s : ℕ) → s < 2 → P (Part.Picks k i q s) ≡ true → P (Part.StopVisited k s) ≡ true
      stops s two e =
          let told = on_both_true (picks_in F S k s) (S.named i) (S.named q) (shown_true F S (Part.Picks k i q s) e).1 in
          let same_x : told.0 ≡ x = same_Some _ _ (sym told.2 ∙ named) in
          let same_y : told.1 ≡ y = same_Some _ _ (sym told.3 ∙ named_q) in
          let slot : is_in_slot H S k (stop_of H S k x y) s ≡ true =
          subst (λ b. is_in_slot H S k (stop_of H S k x b) s ≡ true) same_y
          (subst (λ b. is_in_slot H S k (stop_of H S k b told.1) s ≡ true) same_x (and_parts _ _ told.4).1) in
          by_stop s two (stop_of H S k x y) refl slot
        where
          fits_stop : (s : ℕ) → s < 2 → part_fits F (Part.StopVisited k s) ≡ true
          fits_stop s two = slots_there x first.0 first.1 s two

          at_node : (s : ℕ) → s < 2 → (z : ℕ) → stop_of H S k x y ≡ Some z → stop_node H S k s ≡ Some z → P (Part.StopVisited k s) ≡ true
          at_node s two z stop e =
              shown_says F S (Part.StopVisited k s) (fits_stop s two) ∙ on_at (walk_visits H S.heap (S.walked k)) e
              ∙ visit_on H S is.owned k x z v (stop_found H S is.owned k x y z stop).0.0

          by_stop : (s : ℕ) → s < 2 → (o : Option ℕ) → stop_of H S k x y ≡ o → is_in_slot H S k o s ≡ true → P (Part.StopVisited k s) ≡ true
          by_stop s two None stop slot = absurd (no_slot H S k s slot)
          by_stop s two (Some z) stop slot = at_node s two z stop (in_slot_node H S is.owned k (Some z) s z refl two slot)

      -- where a chain sends the key
      pub from_chain : arrives F P k i (chain_target P k i q) ≡ true
      from_chain =
          elim (cases_Bool (P (Part.Picks k i q 0))) [
            | inl p0 ↦ subst (λ (t : Target). arrives F P k i t ≡ true) (sym (cond-true (P (Part.Picks k i q 0)) (Target.Stops i q 0) _ p0)) (stops 0 (omega arith) p0)
            | inr n0 ↦ elim (cases_Bool (P (Part.Picks k i q 1))) [
              | inl p1 ↦ subst (λ (t : Target). arrives F P k i t ≡ true) (sym (cond-false (P (Part.Picks k i q 0)) (Target.Stops i q 0) _ n0 ∙ cond-true (P (Part.Picks k i q 1)) (Target.Stops i q 1) _ p1)) (stops 1 (omega arith) p1)
              | inr n1 ↦ subst (λ (t : Target). arrives F P k i t ≡ true) (sym (cond-false (P (Part.Picks k i q 0)) (Target.Stops i q 0) _ n0 ∙ cond-false (P (Part.Picks k i q 1)) (Target.Stops i q 1) (Target.Jumps q) n1)) (jumps n0 n1)
            ]
          ]

    -- ---- from an edge

    module _ (f : ℕ) (few : f < length H.pointers) (a : ℕ) (step : walk H S k x ≡ Some a) (lead : leads S x f ≡ Some a) where
      from_outside : (o : Option ℕ) → least_below (chains_on P i) F.names ≡ o → ((j : ℕ) → j < F.names → P (Part.Leads (place i f) j) ≡ false) → arrives F P k i (elim o [ Some q ↦ chain_target P k i q | None ↦ Target.Out (place i f) ]) ≡ true
      from_outside None e outside = refl
      from_outside (Some q) e outside =
          let found = least_some (chains_on P i) F.names q e in
          let both = and_parts (P (Part.Chain i q)) (not (P (Part.Same i q))) found.1 in
          let told = on_both_true (is_chain H S) (S.named i) (S.named q) (shown_true F S (Part.Chain i q) both.0).1 in
          let same_x : told.0 ≡ x = same_Some _ _ (sym told.2 ∙ named) in
          from_chain f few a step lead outside q told.1 found.0 told.3 (subst (λ b. is_chain H S b told.1 ≡ true) same_x told.4)
          (λ same. true≢false (sym (shown_says F S (Part.Same i q) (and_from _ _ fits_i (lt-ltb q F.names found.0)) ∙ is_node_at named (told.3 ∙ ap Some (sym same))) ∙ not-true (P (Part.Same i q)) both.1))

      from_pointer : (o : Option ℕ) → least_below (leads_to P (place i f)) F.names ≡ o → arrives F P k i (elim o [ Some j ↦ Target.To j | None ↦ outer_target F P k i f ]) ≡ true
      from_pointer (Some j) e =
          let found = least_some (leads_to P (place i f)) F.names j e in
          let told = is_node_true (leads_from S (S.named i) f) (S.named j) (shown_true F S (Part.Leads (place i f) j) found.1).1 in
          let same : told.0 ≡ a = same_Some _ _ (sym told.1 ∙ ap (λ o. leads_from S o f) named ∙ lead) in
          visits_name j a found.0 (told.2 ∙ ap Some same) (onward step here)
      from_pointer None e = from_outside (least_below (chains_on P i) F.names) refl (least_none (leads_to P (place i f)) F.names e)

    -- ---- from a visited node

    holds_here : walk H S k x ≡ None → P (Part.InSet k) ≡ value (node_view P k i) H.holds
    holds_here n =
        shown_says F S (Part.InSet k) refl
        ∙ contains-at H S.heap (S.walked k) x (visit_path H S is.owned k x v, n)
        ∙ ap (λ o. option_map_or (λ z. holds_at H z.key z.flags (S.walked k)) o false) there.1
        ∙ ap (λ (z : Node). holds_at H z.key z.flags (S.walked k)) (sym (node_found S x there.0 there.1))
        ∙ sym (walk_value H (node_view P k i) (node_at S x).key (node_at S x).flags (S.walked k) (name_view F S i x below named k) H.holds (holds_fits H is.lawful))

    from_edge : (o : Option ℕ) → edge H P k i ≡ o → arrives F P k i (elim o [ Some f ↦ pointer_target F P k i f | None ↦ Target.Ends ]) ≡ true
    from_edge None e = beq_same (holds_here (no_move e))
    from_edge (Some f) e =
        let w = move_of_edge f e in
        from_pointer f (edge_some F S i x below named is.lawful k f e).0 w.0 w.1 w.2 (least_below (leads_to P (place i f)) F.names) refl

    pub arrives_somewhere : arrives F P k i (target F P k i) ≡ true
    arrives_somewhere = from_edge (edge H P k i) refl

  -- the fifth rule of lawful pictures
  pub goes_on : (k : KeyName) (i : ℕ) → i < F.names → visit_goes_on F (shown F S) k i ≡ true
  goes_on k i below =
      implies (shown F S (Part.Visits k i)) _ (λ e.
      let told = on_true (walk_visits H S.heap (S.walked k)) (S.named i) (shown_true F S (Part.Visits k i) e).1 in
      arrives_somewhere k i told.0 below told.1 told.2)
