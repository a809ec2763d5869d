-- The visit bits of stop nodes that chains have, after a write.
use Rattle.std.proofs.Common.{◌≡◌, ◌⊎◌, ℕ, ◌<◌, ◌==◌, Bool, true, false, not, length, Option, Some, None, refl, sym, ◌∙◌, ap, subst, inl, inr, arith}
use Rattle.std.specs.Prelude.{◌&&◌, slice_get, is_some, unwrap_or, if◌then◌else◌}
use Rattle.std.proofs.lemmas.Bool.{true≢false, and_parts, and_from, eq-eqb, lt-ltb, not-true, false_from_ne_true}
use Rattle.plank_base.specs.Paths.{Path}
use Rattle.plank_base.proofs.Paths.{end_or_successor}
use Rattle.plank_prog.specs.declared.headers.Header.{Header}
use Rattle.plank_heap.specs.declared.nodes.Node.{Node}
use Rattle.plank_heap.specs.Walks.{walk_visits}
use Rattle.plank_pic.specs.declared.parts.KeyName.{KeyName}
use Rattle.plank_pic.specs.declared.parts.Target.{Target}
use Rattle.plank_pic.specs.declared.parts.Part.{Part}
use Rattle.plank_pic.specs.Frames.{Frame}
use Rattle.plank_pic.specs.Below.{least_below, some_below}
use Rattle.plank_pic.specs.Pictures.{Picture, place, leads_to, chains_on, edge, target, pointer_target, outer_target, chain_target, is_picked, is_picked_from, picks_from}
use Rattle.plank_pic.specs.Lawful.{slot_count}
use Rattle.plank_pic.specs.Steps.{enters}
use Rattle.plank_pic.proofs.Below.{least_some, least_none, some_found, some_there}
use Rattle.plank_scene.specs.Scenes.{Scene, leads, is_node, is_nameless, is_fast_in, fast_next, walk, is_chain, stop_of, is_in_slot, is_visited_ever, picks_in, shown}
use Rattle.plank_scene.specs.Worlds.{IsScene}
use Rattle.plank_scene.proofs.Scenes.Showing.{on_at, shown_says}
use Rattle.plank_scene.proofs.Scenes.Paths.{visit_path, path_visit, visit_on, chain_path, fast_step, stop_found, in_slot_node}
use Rattle.plank_scene.proofs.Scenes.Targets.{walk_from, first_of_chain, fast_there, no_slot, one_pointer}
use Rattle.plank_scene.proofs.Walks.Passing.{is_chained, path_enters}
use Rattle.plank_scene.proofs.Scenes.Chains.{picks_named, chain_shown, slots_few}
use Rattle.plank_scene.proofs.Writes.Reading.{Reads, some_edge, no_edge}
use Rattle.plank_scene.proofs.Walks.Parts.{Passed}
use Rattle.plank_scene.proofs.Writes.Sides.{IsStep, start, start_is, side, part_named, entered_name, side_kept, target_stays}
use Rattle.plank_scene.proofs.Writes.Bits.{idle, back, vis_T, LeavesB, LeavesM}
use Rattle.plank_scene.proofs.Writes.Staying.{stop_stays}

-- a name on a chain whose pointer leads outside enters a chain, if its edge is there
module _ (F : Frame) (P : Picture) (S T : Scene) (k : KeyName) (isS : IsScene F S) (isT : IsScene F T) (reads : Reads F P S T k)
    (a y : ℕ) (below : a < F.names) (named : S.named a ≡ Some y) (node : Node) (found : slice_get T.heap.nodes y ≡ Some node) (m : ℕ) (moves : walk F.header T k y ≡ Some m)
    (one : (length F.header.pointers == 1) ≡ true) (nameless : (j : ℕ) → j < F.names → is_node (leads T y 0) (S.named j) ≡ false) (q : ℕ) (bq : q < F.names) (chains : chains_on P a q ≡ true) where
  chain_chained : (i q : ℕ) (b c : Bool) → is_chained (if b then Target.Stops i q 0 else if c then Target.Stops i q 1 else Target.Jumps q) ≡ true
  chain_chained i q true c = refl
  chain_chained i q false true = refl
  chain_chained i q false false = refl

  by_chain : (f : ℕ) (o : Option ℕ) → least_below (chains_on P a) F.names ≡ o → is_chained (elim o [ Some q' ↦ chain_target P k a q' | None ↦ Target.Out (place a f) ]) ≡ true
  by_chain f None e = absurd (true≢false (sym chains ∙ least_none (chains_on P a) F.names e q bq))
  by_chain f (Some q') e = chain_chained a q' (P (Part.Picks k a q' 0)) (P (Part.Picks k a q' 1))

  by_lead : (f : ℕ) → f < length F.header.pointers → (o : Option ℕ) → least_below (leads_to P (place a f)) F.names ≡ o → is_chained (elim o [ Some j ↦ Target.To j | None ↦ outer_target F P k a f ]) ≡ true
  by_lead f few None e = by_chain f (least_below (chains_on P a) F.names) refl
  by_lead f few (Some j) e =
      let there = least_some (leads_to P (place a f)) F.names j e in
      let zero_f : f ≡ 0 = one_pointer F S isS f one few in
      absurd (true≢false (sym there.1 ∙ reads.leads_to a y f j below named few there.0 ∙ ap (λ g. is_node (leads T y g) (S.named j)) zero_f ∙ nameless j there.0))

  by_edge : (o : Option ℕ) → edge F.header P k a ≡ o → is_chained (elim o [ Some f ↦ pointer_target F P k a f | None ↦ Target.Ends ]) ≡ true
  by_edge None e = absurd (end_or_successor (walk_from F T isT k y node found ∙ no_edge F P S T k isS isT reads a y below named e) moves)
  by_edge (Some f) e = by_lead f (some_edge F P S T k isS isT reads a y below named f e).0 (least_below (leads_to P (place a f)) F.names) refl

  pub target_chained : is_chained (target F P k a) ≡ true
  target_chained = by_edge (edge F.header P k a) refl

module _ (F : Frame) (S T : Scene) (k : KeyName) (isS : IsScene F S) (isT : IsScene F T) (x at : ℕ) (below : at < F.names) (named : S.named at ≡ Some x)
    (step : IsStep F S T x) (same_names : T.named ≡ S.named) (M : Picture) (readsB : Reads F (shown F S) S S k) (readsM : Reads F M S T k)
    (seen : (y : ℕ) → is_visited_ever F.header S k y ≡ true → (walk_visits F.header S.heap (S.walked k) y ≡ true) ⊎ (walk_visits F.header T.heap (T.walked k) y ≡ true))
    (vis : walk_visits F.header S.heap (S.walked k) x ≡ true) (quietB : (is_fast_in F.header S x ≡ false) ⊎ (enters F (shown F S) k at ≡ false)) (quietM : (is_fast_in F.header S x ≡ false) ⊎ (enters F M k at ≡ false)) where
  abbrev H : Header
  H = F.header

  abbrev B : Picture
  B = shown F S

  abbrev W : Picture
  W = shown F T

  abbrev rest : IsStep F S S x
  rest = idle F S T k isS isT x at below named step same_names M readsB readsM

  visT : walk_visits H T.heap (T.walked k) x ≡ true
  visT = vis_T F S T k isS isT x at below named step same_names M readsB readsM vis quietB quietM

  module _ (lb : LeavesB F S T k isS isT x at below named step same_names M readsB readsM vis quietB quietM) (lm : LeavesM F S T k isS isT x at below named step same_names M readsB readsM vis quietB quietM)
      (nf : is_fast_in H S x ≡ false) (calmB : enters F B k at ≡ false) (calmM : enters F M k at ≡ false) where
    module _ (i j s y q : ℕ) (bi : i < F.names) (bj : j < F.names) (two : s < 2) (ni : S.named i ≡ Some y) (nj : S.named j ≡ Some q) (picks : picks_in F S k s y q ≡ true) where
      p4 : (is_chain H S y q && not (y == q) && is_nameless F S (leads S y 0) && is_visited_ever H S k y ≡ true) × (is_in_slot H S k (stop_of H S k y q) s ≡ true)
      p4 = and_parts _ (is_in_slot H S k (stop_of H S k y q) s) picks

      p3 : (is_chain H S y q && not (y == q) && is_nameless F S (leads S y 0) ≡ true) × (is_visited_ever H S k y ≡ true)
      p3 = and_parts _ (is_visited_ever H S k y) p4.0

      p2 : (is_chain H S y q && not (y == q) ≡ true) × (is_nameless F S (leads S y 0) ≡ true)
      p2 = and_parts _ (is_nameless F S (leads S y 0)) p3.0

      p1 : (is_chain H S y q ≡ true) × (not (y == q) ≡ true)
      p1 = and_parts (is_chain H S y q) (not (y == q)) p2.0

      path : Path (fast_next H S) y q
      path = chain_path H S isS.owned y q p1.0

      other : y ≡ q → ⊥
      other e = true≢false (sym (eq-eqb y q e) ∙ not-true (y == q) p1.1)

      first : (m : ℕ) × (fast_next H S y ≡ Some m)
      first = first_of_chain F S isS y q other path

      its : ((length H.pointers == 1) ≡ true) × (is_fast_in H S y ≡ true) × (leads S y 0 ≡ Some first.0)
      its = fast_step H S isS.owned y first.0 first.1

      not_x : y ≡ x → ⊥
      not_x e = true≢false (sym its.1 ∙ ap (is_fast_in H S) e ∙ nf)

      none_leads : (h : ℕ) → h < F.names → is_node (leads S y 0) (S.named h) ≡ false
      none_leads h bh = false_from_ne_true _ (λ e. true≢false (sym (some_there (λ g. is_node (leads S y 0) (S.named g)) F.names h bh e) ∙ not-true _ (and_parts (is_some (leads S y 0)) (not (some_below (λ g. is_node (leads S y 0) (S.named g)) F.names)) p2.1).1))

      chains_from : (P : Picture) (U : Scene) → Reads F P S U k → (a : ℕ) → a < F.names → S.named a ≡ Some y → chains_on P a j ≡ true
      chains_from P U reads a ba na =
          and_from _ _ (reads.chain a j ∙ chain_shown F S isS a j y q ba bj na nj path)
          (ap not (reads.same a j ∙ shown_says F S (Part.Same a j) (and_from _ _ (lt-ltb a F.names ba) (lt-ltb j F.names bj))
          ∙ ap (λ o. is_node o (S.named j)) na ∙ ap (λ o. is_node (Some y) o) nj) ∙ p1.1)

      module _ (m : ℕ) (moves : walk H S k y ≡ Some m) where
        movesT : walk H T k y ≡ Some m
        movesT = sym (step.agree k y not_x) ∙ moves

        nodeS : (node : Node) × (slice_get S.heap.nodes y ≡ Some node)
        nodeS = fast_there F S isS y its.1

        off_part : Passed (side F B S S k isS isS readsB x rest at below named vis quietB) y → ⊥
        off_part w =
            let v = part_named F B S S k isS isS readsB x rest at below named vis quietB w.0 w.1 in
            let na : S.named w.0 ≡ Some y = v.1.1 ∙ ap Some (sym (ap (λ o. unwrap_or o 0) v.1.1) ∙ sym w.2) in
            let c = target_chained F B S S k isS isS readsB w.0 y v.0 na nodeS.0 nodeS.1 m moves its.0 none_leads j bj (chains_from B S readsB w.0 v.0 na) in
            true≢false (sym (path_enters (target F B k) F.names (target_stays F B k) (start F B S S k isS isS readsB x rest at below named vis quietB) (start_is F B S S k isS isS readsB x rest at below named vis quietB).0 w.0 w.1 c) ∙ calmB)

        off_part_T : Passed (side F M S T k isS isT readsM x step at below named visT quietM) y → ⊥
        off_part_T w =
            let v = part_named F M S T k isS isT readsM x step at below named visT quietM w.0 w.1 in
            let na : S.named w.0 ≡ Some y = v.1.1 ∙ ap Some (sym (ap (λ o. unwrap_or o 0) v.1.1) ∙ sym w.2) in
            let c = target_chained F M S T k isS isT readsM w.0 y v.0 na nodeS.0 (step.nodes y not_x ∙ nodeS.1) m movesT its.0 (λ h bh. ap (λ o. is_node o (S.named h)) (step.lead y 0 not_x) ∙ none_leads h bh) j bj (chains_from M T readsM w.0 v.0 na) in
            true≢false (sym (path_enters (target F M k) F.names (target_stays F M k) (start F M S T k isS isT readsM x step at below named visT quietM) (start_is F M S T k isS isT readsM x step at below named visT quietM).0 w.0 w.1 c) ∙ calmM)

        seen_T : walk_visits H S.heap (S.walked k) y ≡ true → walk_visits H T.heap (T.walked k) y ≡ true
        seen_T v =
            elim (side_kept F B S S k isS isS readsB x rest at below named vis quietB T (step.agree k) lb S.heap.root.0 y (visit_path H S isS.owned k y v)) [
              | inl p ↦ path_visit H T isT.owned k y (subst (λ r. Path (walk H T k) r y) (sym step.root) p)
              | inr (inl w) ↦ absurd (off_part w)
              | inr (inr w) ↦ absurd (true≢false (sym (entered_name F B S S k isS isS readsB x rest at below named vis quietB y w).0 ∙ calmB))
            ]

        seen_S : walk_visits H T.heap (T.walked k) y ≡ true → walk_visits H S.heap (S.walked k) y ≡ true
        seen_S v =
            elim (side_kept F M S T k isS isT readsM x step at below named visT quietM S (back F S T k isS isT x at below named step same_names M readsB readsM k) lm S.heap.root.0 y (subst (λ r. Path (walk H T k) r y) step.root (visit_path H T isT.owned k y v))) [
              | inl p ↦ path_visit H S isS.owned k y p
              | inr (inl w) ↦ absurd (off_part_T w)
              | inr (inr w) ↦ absurd (true≢false (sym (entered_name F M S T k isS isT readsM x step at below named visT quietM y w).0 ∙ calmM))
            ]

        both_seen : (walk_visits H S.heap (S.walked k) y ≡ true) × (walk_visits H T.heap (T.walked k) y ≡ true)
        both_seen = elim (seen y p3.1) [ inl v ↦ (v, seen_T v) | inr v ↦ (seen_S v, v) ]

      -- the stop node is visited before and after
      pub stop_both : (z : ℕ) → stop_of H S k y q ≡ Some z → (walk_visits H S.heap (S.walked k) z ≡ true) × (walk_visits H T.heap (T.walked k) z ≡ true)
      stop_both z e =
          let found = stop_found H S isS.owned k y q z e in
          let foundT = stop_found H T isT.owned k y q z (sym (stop_stays F S T k isS isT x step same_names M readsM nf y q path first.0 first.1) ∙ e) in
          let v = both_seen found.1.1.0 found.1.1.1 in
          (visit_on H S isS.owned k y z v.0 found.0.0, visit_on H T isT.owned k y z v.1 foundT.0.0)

    -- the visit bit of a stop node that some chain has stays
    pub stop_agrees : (s : ℕ) → s < slot_count F → is_picked F B k s ≡ true → B (Part.StopVisited k s) ≡ W (Part.StopVisited k s)
    stop_agrees s few e =
        let a = some_found (is_picked_from F B k s) F.names e in
        let b = some_found (picks_from B k s a.0) F.names a.2 in
        let told = picks_named F S isS k a.0 b.0 s b.2 in
        let two : s < 2 = (let le = slots_few F S isS in omega arith) in
        let slot = (and_parts _ (is_in_slot H S k (stop_of H S k told.0 told.1) s) told.4).1 in
        by_stop told.0 told.1 (stop_of H S k told.0 told.1) refl slot two
        (λ z stop. stop_both a.0 b.0 s told.0 told.1 a.1 b.1 two told.2 told.3 told.4 z stop)
      where
        by_stop : (y q : ℕ) (o : Option ℕ) → stop_of H S k y q ≡ o → is_in_slot H S k o s ≡ true → s < 2 → ((z : ℕ) → stop_of H S k y q ≡ Some z → (walk_visits H S.heap (S.walked k) z ≡ true) × (walk_visits H T.heap (T.walked k) z ≡ true)) → B (Part.StopVisited k s) ≡ W (Part.StopVisited k s)
        by_stop y q None stop slot two both = absurd (no_slot H S k s slot)
        by_stop y q (Some z) stop slot two both =
            let v = both z stop in
            let node = in_slot_node H S isS.owned k (Some z) s z refl two slot in
            shown_says F S (Part.StopVisited k s) (lt-ltb s (slot_count F) few) ∙ on_at (walk_visits H S.heap (S.walked k)) node ∙ v.0
            ∙ sym (shown_says F T (Part.StopVisited k s) (lt-ltb s (slot_count F) few) ∙ on_at (walk_visits H T.heap (T.walked k)) (step.stops k s ∙ node) ∙ v.1)
