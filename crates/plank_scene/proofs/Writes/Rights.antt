-- The target of a visited name says where the walk goes: one move, out, through a chain or to a stop node.
use Rattle.std.proofs.Common.{◌≡◌, ℕ, zero, suc, ◌<◌, ◌==◌, Bool, true, false, not, length, Option, Some, None, refl, sym, ◌∙◌, ap, subst, inl, inr, arith}
use Rattle.std.specs.Prelude.{◌&&◌, slice_get, is_some, unwrap_or, if◌then◌else◌}
use Rattle.std.proofs.lemmas.Bool.{true≢false, and_parts, and_from, cases_Bool, eqb-true, eq-eqb, lt-ltb, cond-true, cond-false, not-true, not_from_false, false_from_ne_true}
use Rattle.std.proofs.lemmas.Option.{none-some, same_Some}
use Rattle.plank_base.specs.Paths.{Path, here, onward, FollowsOrStops, StopsBefore, meets_within, Extends, AgreeOff}
use Rattle.plank_base.proofs.Paths.{append, chain_law, one_end, end_or_successor, wider, off-other, one_successor, end_stays}
use Rattle.plank_base.proofs.PathCounts.{meets_decides}
use Rattle.plank_prog.specs.declared.headers.Header.{Header}
use Rattle.plank_heap.specs.declared.nodes.Node.{Node}
use Rattle.plank_heap.specs.Walks.{walk_visits}
use Rattle.plank_pic.specs.declared.parts.KeyName.{KeyName}
use Rattle.plank_pic.specs.declared.parts.Target.{Target}
use Rattle.plank_pic.specs.declared.parts.Place.{Place}
use Rattle.plank_pic.specs.declared.parts.Part.{Part}
use Rattle.plank_pic.specs.Frames.{Frame}
use Rattle.plank_pic.specs.Below.{least_below}
use Rattle.plank_pic.specs.Pictures.{Picture, place, leads_to, chains_on, edge, target, pointer_target, outer_target, chain_target}
use Rattle.plank_pic.proofs.Below.{least_some, least_none, none_there}
use Rattle.plank_scene.specs.Scenes.{Scene, leads, is_node, is_nameless, is_fast_in, fast_next, walk, stop_of, stop_node, is_in_slot, is_visited_ever, picks_in}
use Rattle.plank_scene.specs.Worlds.{IsScene}
use Rattle.plank_scene.proofs.Scenes.Showing.{on_both_at, is_node_true, shown_says}
use Rattle.plank_scene.proofs.Scenes.Paths.{visit_path, path_chain, fast_step, stop_found, stop_there, end_in_slot, in_slot_node, walk_stops}
use Rattle.plank_scene.proofs.Scenes.Targets.{walk_from, visited_there, chain_follows, first_of_chain, slots_there, no_slot, ever, one_pointer}
use Rattle.plank_scene.proofs.Walks.Passing.{is_chained}
use Rattle.plank_scene.proofs.Walks.Parts.{Setting, Right, IsSetting}
use Rattle.plank_scene.proofs.Scenes.Chains.{picks_named}
use Rattle.plank_scene.proofs.Writes.Reading.{Reads, some_edge, no_edge, chain_end_named}

-- on the way to an end, a walk is a path of its part
pub on_way : {along f : ℕ → Option ℕ} {z b y : ℕ} → Extends along f → f z ≡ None → Path along y z → Path f y b → Path along y b
on_way {along} {y = y} le e here p = subst (λ v. Path along y v) (sym (end_stays e p)) here
on_way le e (onward s p) here = here
on_way {along} {f} {z} {b} le e (onward {m} {a} s p) (onward t q) =
    onward s (on_way le e p (subst (λ v. Path f v b) (one_successor t (le a m s)) q))

module _ (F : Frame) (P : Picture) (S T : Scene) (k : KeyName) (isS : IsScene F S) (isT : IsScene F T) (reads : Reads F P S T k)
    (x : ℕ) (same_stops : (s : ℕ) → stop_node F.header T k s ≡ stop_node F.header S k s) (same_ever : (y : ℕ) → is_visited_ever F.header T k y ≡ is_visited_ever F.header S k y)
    (agree : AgreeOff (walk F.header S k) (walk F.header T k) x) (same_lead : (b : ℕ) → (b ≡ x → ⊥) → leads T b 0 ≡ leads S b 0) where
  abbrev H : Header
  H = F.header

  abbrev pub fast : ℕ → Bool
  fast b = is_fast_in H S b && not (b == x)

  abbrev pub along : ℕ → Option ℕ
  along b = if fast b then walk H T k b else None

  abbrev pub node_of : ℕ → ℕ
  node_of i = unwrap_or (S.named i) 0

  abbrev pub lead_of : Place → ℕ
  lead_of p = unwrap_or (leads T (node_of p.name) p.pointer) 0

  abbrev pub stop_at : ℕ → ℕ
  stop_at s = unwrap_or (stop_node H S k s) 0

  abbrev pub setting : ℕ → Setting
  setting start = record { f = walk H T k; x = x; fast = fast; along = along; N = node_of; A = lead_of; Z = stop_at; to = target F P k; start = start }

  along_step : (a m : ℕ) → along a ≡ Some m → (fast a ≡ true) × (walk H T k a ≡ Some m)
  along_step a m e =
      elim (cases_Bool (fast a)) [
        | inl c ↦ (c, sym (cond-true (fast a) (walk H T k a) None c) ∙ e)
        | inr c ↦ absurd (none-some m (sym (cond-false (fast a) (walk H T k a) None c) ∙ e))
      ]

  pub along_walk : Extends along (walk H T k)
  along_walk a m e = (along_step a m e).1

  pub not_at : (a : ℕ) → fast a ≡ true → a ≡ x → ⊥
  not_at a c e = true≢false (sym (eq-eqb a x e) ∙ not-true (a == x) (and_parts (is_fast_in H S a) (not (a == x)) c).1)

  pub is_setting : (start : ℕ) → node_of start ≡ x → IsSetting (setting start)
  is_setting start at = record {
    inside = λ a m e. let w = along_step a m e in off-other (walk H T k) x a (not_at a w.0) ∙ w.1;
    fast_along = λ a m e. (along_step a m e).0;
    at = at;
  }

  node_is : (i y : ℕ) → S.named i ≡ Some y → node_of i ≡ y
  node_is i y e = ap (λ o. unwrap_or o 0) e

  -- ---- chains, where x is not shared and frozen

  module _ (nf : is_fast_in H S x ≡ false) where
    pub chain_fast : (a m : ℕ) → fast_next H S a ≡ Some m → fast a ≡ true
    chain_fast a m e =
        let w = fast_step H S isS.owned a m e in
        let other : a ≡ x → ⊥ = λ same. true≢false (sym w.1 ∙ ap (is_fast_in H S) same ∙ nf) in
        and_from (is_fast_in H S a) (not (a == x)) w.1 (ap not (false_from_ne_true (a == x) (λ t. other (eqb-true a x t))))

    pub along_fast : (a : ℕ) → fast a ≡ true → along a ≡ walk H T k a
    along_fast a c = cond-true (fast a) (walk H T k a) None c

    pub along_before : (a : ℕ) → fast a ≡ true → along a ≡ walk H S k a
    along_before a c = along_fast a c ∙ sym (agree a (not_at a c))

    pub chain_along : FollowsOrStops (fast_next H S) along
    chain_along a m e =
        elim (chain_follows F S isS k a m e) [
          | inl s ↦ inl (along_before a (chain_fast a m e) ∙ s)
          | inr n ↦ inr (along_before a (chain_fast a m e) ∙ n)
        ]

    -- where the walk stops on a chain, before and after
    module _ (y q : ℕ) (chain : Path (fast_next H S) y q) (m : ℕ) (first : fast_next H S y ≡ Some m) where
      fast_y : fast y ≡ true
      fast_y = chain_fast y m first

      pub before_walk : Extends along (walk H S k)
      before_walk a b e = let c = (along_step a b e).0 in sym (along_before a c) ∙ e

      -- the stop node that the chain law gives
      pub stops_on : StopsBefore (fast_next H S) along y q → (z : ℕ) × Path along y z × (walk H S k z ≡ None) × (walk H T k z ≡ None) × (fast z ≡ true)
      stops_on w =
          let c = chain_fast w.0 w.3.0 w.3.1 in
          (w.0, w.1.0, sym (along_before w.0 c) ∙ w.1.1, sym (along_fast w.0 c) ∙ w.1.1, c)

      -- without a stop the walk comes to the end
      pub comes_along : ((z : ℕ) → stop_of H S k y q ≡ Some z → Path along y z → walk H T k z ≡ None → ⊥) → (a : ℕ) → walk H T k y ≡ Some a → Path along y q
      comes_along none a step =
          elim (chain_law chain_along chain) [
            | inl p ↦ p
            | inr w ↦
                let v = stops_on w in
                elim (cases_Bool (meets_within (walk H S k) (length S.heap.nodes) y q)) [
                  | inl met ↦ on_way before_walk v.2 v.1 ((meets_decides y q (walk_stops H S isS.owned k)).0 met)
                  | inr away ↦
                      let stop = stop_there H S isS.owned k y q v.0 a (wider before_walk v.1, v.2) (λ p. true≢false (sym ((meets_decides y q (walk_stops H S isS.owned k)).1 p) ∙ away)) (sym (along_before y fast_y) ∙ along_fast y fast_y ∙ step) in
                      absurd (none v.0 stop v.1 v.3)
                ]
          ]

      pub stops_along : (z : ℕ) → stop_of H S k y q ≡ Some z → Path along y z × (walk H T k z ≡ None) × (fast z ≡ true)
      stops_along z stop =
          let found = stop_found H S isS.owned k y q z stop in
          elim (chain_law chain_along chain) [
            | inl p ↦ absurd (found.1.0 (wider before_walk p))
            | inr w ↦
                let v = stops_on w in
                let same : v.0 ≡ z = one_end (wider before_walk v.1) v.2 found.0.0 found.0.1 in
                (subst (λ b. Path along y b) same v.1, subst (λ b. walk H T k b ≡ None) same v.3, subst (λ b. fast b ≡ true) same v.4)
          ]

  -- the first move of a path that is not empty
  cut : (y q a : ℕ) → walk H T k y ≡ Some a → (y ≡ q → ⊥) → Path along y q → Path along a q
  cut y q a step other here = absurd (other refl)
  cut y q a step other (onward {m} e p) = subst (λ v. Path along v q) (one_successor (along_walk y m e) step) p

  -- ---- what a target says of the walk

  module _ (start i y : ℕ) (below : i < F.names) (named : S.named i ≡ Some y) (v : walk_visits H T.heap (T.walked k) y ≡ true) where
    abbrev Says : Target → Type 0
    Says t = Right (setting start) i t

    there : (node : Node) × (slice_get T.heap.nodes y ≡ Some node)
    there = visited_there F T isT k y (visit_path H T isT.owned k y v)

    at_i : {r : Option ℕ} → walk H T k y ≡ r → walk H T k (node_of i) ≡ r
    at_i e = ap (walk H T k) (node_is i y named) ∙ e

    move_here : (f : ℕ) → edge H P k i ≡ Some f → (f < length H.pointers) × ((a : ℕ) × (walk H T k y ≡ Some a) × (leads T y f ≡ Some a))
    move_here f e =
        let w = some_edge F P S T k isS isT reads i y below named f e in
        (w.0, (w.2.0, walk_from F T isT k y there.0 there.1 ∙ w.1 ∙ w.2.1, w.2.1))

    module _ (f : ℕ) (few : f < length H.pointers) (a : ℕ) (step : walk H T k y ≡ Some a) (lead : leads T y f ≡ Some a)
        (outside : (j : ℕ) → j < F.names → P (Part.Leads (place i f) j) ≡ false) where
      module _ (q : ℕ) (below_q : q < F.names) (chains : chains_on P i q ≡ true) (nf : is_fast_in H S x ≡ false) where
        told : (x y : ℕ) × (S.named i ≡ Some x) × (S.named q ≡ Some y) × Path (fast_next H S) x y × (x ≡ y → ⊥)
        told = chain_end_named F P S T k isS isT reads i q chains

        same_y : told.0 ≡ y
        same_y = same_Some _ _ (sym told.2 ∙ named)

        chain : Path (fast_next H S) y told.1
        chain = subst (λ b. Path (fast_next H S) b told.1) same_y told.4

        other : y ≡ told.1 → ⊥
        other e = told.5 (same_y ∙ e)

        first : (m : ℕ) × (fast_next H S y ≡ Some m)
        first = first_of_chain F S isS y told.1 other chain

        its : ((length H.pointers == 1) ≡ true) × (is_fast_in H S y ≡ true) × (leads S y 0 ≡ Some first.0)
        its = fast_step H S isS.owned y first.0 first.1

        zero_f : f ≡ 0
        zero_f = one_pointer F S isS f its.0 few

        lead_before : leads S y 0 ≡ leads T y f
        lead_before = sym (same_lead y (not_at y (chain_fast nf y first.0 first.1))) ∙ ap (leads T y) (sym zero_f)

        nameless : is_nameless F S (leads S y 0) ≡ true
        nameless =
            ap (is_nameless F S) lead_before
            ∙ and_from _ _ (ap is_some lead) (ap not (none_there (λ j. is_node (leads T y f) (S.named j)) F.names (λ j h.
            sym (reads.leads_to i y f j below named few h) ∙ outside j h)))

        -- the chain picks the slot of its stop node
        picked : (z s : ℕ) → s < 2 → stop_of H S k y told.1 ≡ Some z → is_in_slot H S k (Some z) s ≡ true → P (Part.Picks k i q s) ≡ true
        picked z s two stop slot =
            reads.picks i q s
            ∙ shown_says F S (Part.Picks k i q s) (and_from _ _ (and_from _ _ (lt-ltb i F.names below) (lt-ltb q F.names below_q)) (slots_there F S isS y first.0 first.1 s two))
            ∙ on_both_at (picks_in F S k s) named told.3
            ∙ and_from _ _ (and_from _ _ (and_from _ _ (and_from _ _ (path_chain H S isS.owned y told.1 chain) (not_from_false (y == told.1) (false_from_ne_true (y == told.1) (λ e. other (eqb-true y told.1 e))))) nameless) (sym (same_ever y) ∙ ever F T isT k y v))
            (subst (λ o. is_in_slot H S k o s ≡ true) (sym stop) slot)

        -- the stop node of a slot that it picks
        pick_tells : (s : ℕ) → s < 2 → P (Part.Picks k i q s) ≡ true → (z : ℕ) × (stop_of H S k y told.1 ≡ Some z) × (stop_node H S k s ≡ Some z)
        pick_tells s two e =
            let w = picks_named F S isS k i q s (sym (reads.picks i q s) ∙ e) in
            let ex : w.0 ≡ y = same_Some _ _ (sym w.2 ∙ named) in
            let ey : w.1 ≡ told.1 = same_Some _ _ (sym w.3 ∙ told.3) in
            let slot = (and_parts _ (is_in_slot H S k (stop_of H S k w.0 w.1) s) w.4).1 in
            let moved = subst (λ b. is_in_slot H S k (stop_of H S k y b) s ≡ true) ey (subst (λ b. is_in_slot H S k (stop_of H S k b w.1) s ≡ true) ex slot) in
            by_stop (stop_of H S k y told.1) refl moved
          where
            by_stop : (o : Option ℕ) → stop_of H S k y told.1 ≡ o → is_in_slot H S k o s ≡ true → (z : ℕ) × (stop_of H S k y told.1 ≡ Some z) × (stop_node H S k s ≡ Some z)
            by_stop None e slot = absurd (no_slot H S k s slot)
            by_stop (Some z) e slot = (z, e, in_slot_node H S isS.owned k (Some z) s z refl two slot)

        jumps : P (Part.Picks k i q 0) ≡ false → P (Part.Picks k i q 1) ≡ false → Says (Target.Jumps q)
        jumps n0 n1 =
            let none : (z : ℕ) → stop_of H S k y told.1 ≡ Some z → Path along y z → walk H T k z ≡ None → ⊥ = λ z stop p ends.
            elim (end_in_slot H T isT.owned k z isT.either (append (visit_path H T isT.owned k y v) (wider along_walk p), ends)) [
              | inl s0 ↦ true≢false (sym (picked z 0 (omega arith) stop (slot_before z 0 s0)) ∙ n0)
              | inr s1 ↦ true≢false (sym (picked z 1 (omega arith) stop (slot_before z 1 s1)) ∙ n1)
            ] in
            (a, at_i step, subst (λ b. Path along a b) (sym (node_is q told.1 told.3)) (cut y told.1 a step other (comes_along nf y told.1 chain first.0 first.1 none a step)))
          where
            slot_before : (z s : ℕ) → is_in_slot H T k (Some z) s ≡ true → is_in_slot H S k (Some z) s ≡ true
            slot_before z zero e = ap (is_node (Some z)) (sym (same_stops 0)) ∙ e
            slot_before z (suc s) e = ap (λ o. not (is_node (Some z) o) && is_node (Some z) (stop_node H S k 1)) (sym (same_stops 0)) ∙ ap (λ o. not (is_node (Some z) (stop_node H T k 0)) && is_node (Some z) o) (sym (same_stops 1)) ∙ e

        stops : (s : ℕ) → s < 2 → P (Part.Picks k i q s) ≡ true → Says (Target.Stops i q s)
        stops s two e =
            let w = pick_tells s two e in
            let r = stops_along nf y told.1 chain first.0 first.1 w.0 w.1 in
            let away = (stop_found H S isS.owned k y told.1 w.0 w.1) in
            let apart : y ≡ w.0 → ⊥ = λ same. end_or_successor (subst (λ b. walk H S k b ≡ None) (sym same) away.0.1) away.1.1.1 in
            let at : w.0 ≡ stop_at s = sym (ap (λ o. unwrap_or o 0) w.2) in
            (a, at_i step, subst (λ b. Path along a b) at (cut y w.0 a step apart r.0), subst (λ b. walk H T k b ≡ None) at r.1, subst (λ b. fast b ≡ true) at r.2)

        from_chain : Says (chain_target P k i q)
        from_chain =
            elim (cases_Bool (P (Part.Picks k i q 0))) [
              | inl p0 ↦ subst Says (sym (cond-true (P (Part.Picks k i q 0)) (Target.Stops i q 0) _ p0)) (stops 0 (omega arith) p0)
              | inr n0 ↦ elim (cases_Bool (P (Part.Picks k i q 1))) [
                | inl p1 ↦ subst Says (sym (cond-false (P (Part.Picks k i q 0)) (Target.Stops i q 0) _ n0 ∙ cond-true (P (Part.Picks k i q 1)) (Target.Stops i q 1) _ p1)) (stops 1 (omega arith) p1)
                | inr n1 ↦ subst Says (sym (cond-false (P (Part.Picks k i q 0)) (Target.Stops i q 0) _ n0 ∙ cond-false (P (Part.Picks k i q 1)) (Target.Stops i q 1) (Target.Jumps q) n1)) (jumps n0 n1)
              ]
            ]

      chain_is_chained : (q : ℕ) → is_chained (chain_target P k i q) ≡ true
      chain_is_chained q = either (P (Part.Picks k i q 0)) (P (Part.Picks k i q 1))
        where
          either : (b c : Bool) → is_chained (if b then Target.Stops i q 0 else if c then Target.Stops i q 1 else Target.Jumps q) ≡ true
          either true c = refl
          either false true = refl
          either false false = refl

      from_outside : (o : Option ℕ) → least_below (chains_on P i) F.names ≡ o → (is_chained (elim o [ Some q ↦ chain_target P k i q | None ↦ Target.Out (place i f) ]) ≡ true → is_fast_in H S x ≡ false) → Says (elim o [ Some q ↦ chain_target P k i q | None ↦ Target.Out (place i f) ])
      from_outside None e nf = at_i (step ∙ sym (ap Some (ap (λ b. unwrap_or (leads T b f) 0) (node_is i y named) ∙ ap (λ o. unwrap_or o 0) lead)))
      from_outside (Some q) e nf =
          let found = least_some (chains_on P i) F.names q e in
          from_chain q found.0 found.1 (nf (chain_is_chained q))

    from_pointer : (f : ℕ) → f < length H.pointers → (a : ℕ) → walk H T k y ≡ Some a → leads T y f ≡ Some a → (o : Option ℕ) → least_below (leads_to P (place i f)) F.names ≡ o → (is_chained (elim o [ Some j ↦ Target.To j | None ↦ outer_target F P k i f ]) ≡ true → is_fast_in H S x ≡ false) → Says (elim o [ Some j ↦ Target.To j | None ↦ outer_target F P k i f ])
    from_pointer f few a step lead (Some j) e nf =
        let found = least_some (leads_to P (place i f)) F.names j e in
        let told = is_node_true (leads T y f) (S.named j) (sym (reads.leads_to i y f j below named few found.0) ∙ found.1) in
        let same : told.0 ≡ a = same_Some _ _ (sym told.1 ∙ lead) in
        at_i (step ∙ ap Some (sym (node_is j a (told.2 ∙ ap Some same))))
    from_pointer f few a step lead None e nf =
        from_outside f few a step lead (least_none (leads_to P (place i f)) F.names e) (least_below (chains_on P i) F.names) refl nf

    from_edge : (o : Option ℕ) → edge H P k i ≡ o → (is_chained (elim o [ Some f ↦ pointer_target F P k i f | None ↦ Target.Ends ]) ≡ true → is_fast_in H S x ≡ false) → Says (elim o [ Some f ↦ pointer_target F P k i f | None ↦ Target.Ends ])
    from_edge None e nf = at_i (walk_from F T isT k y there.0 there.1 ∙ no_edge F P S T k isS isT reads i y below named e)
    from_edge (Some f) e nf =
        let w = move_here f e in
        from_pointer f w.0 w.1.0 w.1.1 w.1.2 (least_below (leads_to P (place i f)) F.names) refl nf

    -- the target of a visited name says where the walk goes, if no chain passes x
    pub right_name : (is_chained (target F P k i) ≡ true → is_fast_in H S x ≡ false) → Right (setting start) i (target F P k i)
    right_name nf = from_edge (edge H P k i) refl nf
