-- Visit bits, stop nodes' bits and set bits after a write, by the movement of the key.
use Rattle.std.proofs.Common.{◌≡◌, ◌⊎◌, ℕ, ◌<◌, ◌==◌, ℤ, Bool, true, false, not, Option, Some, None, refl, sym, ◌∙◌, ap, subst, inl, inr}
use Rattle.std.specs.Prelude.{◌&&◌, nat_lt, unwrap_or}
use Rattle.std.specs.Option.{option_map_or}
use Rattle.std.proofs.lemmas.Bool.{true≢false, and_parts, or_parts, cases_Bool, eq-eqb, lt-ltb, ltb-true, cond-true, cond-false, not-true}
use Rattle.std.proofs.lemmas.Option.{none-some, same_Some}
use Rattle.plank_base.specs.Paths.{Path, EndsAt}
use Rattle.plank_base.proofs.Paths.{successor_cases, append, never_ends_before}
use Rattle.plank_base.proofs.PathCounts.{end_decides, endless_decides}
use Rattle.plank_prog.specs.declared.headers.Header.{Header}
use Rattle.plank_prog.specs.Conditions.{value}
use Rattle.plank_prog.specs.Views.{holds_at}
use Rattle.plank_heap.specs.declared.nodes.Node.{Node}
use Rattle.plank_heap.specs.Walks.{walk_visits, walk_end, contains, holds_of}
use Rattle.plank_heap.proofs.Walking.{contains-at, contains-cycle}
use Rattle.plank_pic.specs.declared.parts.KeyName.{KeyName}
use Rattle.plank_pic.specs.declared.parts.Target.{Target}
use Rattle.plank_pic.specs.declared.parts.Place.{Place}
use Rattle.plank_pic.specs.declared.parts.Part.{Part}
use Rattle.plank_pic.specs.Frames.{Frame}
use Rattle.plank_pic.specs.Pictures.{Picture, node_view, target, stop_view, is_fast, is_picked}
use Rattle.plank_pic.specs.Lawful.{slot_count}
use Rattle.plank_pic.specs.declared.parts.Outcome.{Outcome}
use Rattle.plank_pic.specs.Outcomes.{outcome}
use Rattle.plank_pic.specs.Steps.{enters, by_outcomes, enters_either, movement, visit_moved, visit_after, set_after, agrees_with, stop_moved, stop_after}
use Rattle.plank_pic.specs.declared.moves.Moved.{Moved}
use Rattle.plank_scene.specs.Scenes.{Scene, node_at, is_fast_in, walk, stop_node, is_visited_ever, on, shown}
use Rattle.plank_scene.specs.Worlds.{IsScene}
use Rattle.plank_scene.proofs.Scenes.Showing.{shown_says, shown_true, node_found}
use Rattle.plank_scene.proofs.Scenes.Paths.{fast_step, walk_stops}
use Rattle.plank_scene.proofs.Scenes.Views.{holds_fits, walk_value}
use Rattle.plank_scene.proofs.Scenes.Targets.{visited_there, fast_there}
use Rattle.plank_scene.proofs.Walks.Passing.{move, Comes, final}
use Rattle.plank_scene.proofs.Walks.Parts.{Setting, Right, passed_visited, Good}
use Rattle.plank_scene.proofs.Scenes.Chains.{fast_name, pick_stop}
use Rattle.plank_scene.proofs.Writes.Reading.{Reads}
use Rattle.plank_scene.proofs.Walks.Moving.{no_leave}
use Rattle.plank_scene.proofs.Writes.Sides.{IsStep, side, is_side, part_named, side_right, side_comes, endless, side_good}
use Rattle.plank_scene.proofs.Writes.Bits.{idle, met, met_T, vis_T, LeavesB, LeavesM, visit_agrees, visits_untouched, ends_untouched, ends_untouched_T, leavesB, leavesM, leave_ends, leave_ends_T, stops_tell, bit_before, bit_after, bits_null, agree_with}
use Rattle.plank_scene.proofs.Writes.Stops.{stop_agrees}

module _ (F : Frame) (S T : Scene) (k : KeyName) (isS : IsScene F S) (isT : IsScene F T) (x at : ℕ) (below : at < F.names) (named : S.named at ≡ Some x)
    (step : IsStep F S T x) (same_names : T.named ≡ S.named) (M : Picture) (readsB : Reads F (shown F S) S S k) (readsM : Reads F M S T k)
    (seen : (y : ℕ) → is_visited_ever F.header S k y ≡ true → (walk_visits F.header S.heap (S.walked k) y ≡ true) ⊎ (walk_visits F.header T.heap (T.walked k) y ≡ true)) where
  abbrev H : Header
  H = F.header

  abbrev B : Picture
  B = shown F S

  abbrev W : Picture
  W = shown F T

  -- ---- the set

  same_holds : (b : ℕ) → (b ≡ x → ⊥) → holds_of H S.heap (S.walked k) b ≡ holds_of H T.heap (T.walked k) b
  same_holds b other =
      ap (λ o. option_map_or (λ (z : Node). holds_at H z.key z.flags (S.walked k)) o false) (sym (step.nodes b other))
      ∙ ap (λ (w : KeyName → ℤ). holds_of H T.heap (w k) b) (sym step.walked)

  to_T : {b : ℕ} → EndsAt (walk H T k) S.heap.root.0 b → EndsAt (walk H T k) T.heap.root.0 b
  to_T {b} p = subst (λ r. EndsAt (walk H T k) r b) (sym step.root) p

  from_T : {b : ℕ} → EndsAt (walk H T k) T.heap.root.0 b → EndsAt (walk H T k) S.heap.root.0 b
  from_T {b} p = subst (λ r. EndsAt (walk H T k) r b) step.root p

  same_set : ((b : ℕ) → EndsAt (walk H S k) S.heap.root.0 b → (b ≡ x → ⊥) × EndsAt (walk H T k) S.heap.root.0 b)
      → ((b : ℕ) → EndsAt (walk H T k) S.heap.root.0 b → (b ≡ x → ⊥) × EndsAt (walk H S k) S.heap.root.0 b)
      → contains H S.heap (S.walked k) ≡ contains H T.heap (T.walked k)
  same_set forth backward =
      elim (successor_cases (walk_end H S.heap (S.walked k))) [
        | inr w ↦
            let ends = (end_decides S.heap.root.0 w.0 (walk_stops H S isS.owned k)).0 w.1 in
            let there = forth w.0 ends in
            contains-at H S.heap (S.walked k) w.0 ends ∙ same_holds w.0 there.0 ∙ sym (contains-at H T.heap (T.walked k) w.0 (to_T there.1))
        | inl none ↦
            let never = (endless_decides S.heap.root.0 (walk_stops H S isS.owned k)).0 none in
            contains-cycle H S.heap (S.walked k) never
            ∙ sym (contains-cycle H T.heap (T.walked k) (λ b p e. let w = backward b (from_T (p, e)) in never b w.1.0 w.1.1))
      ]

  set_before : B (Part.InSet k) ≡ contains H S.heap (S.walked k)
  set_before = shown_says F S (Part.InSet k) refl

  set_of_T : W (Part.InSet k) ≡ contains H T.heap (T.walked k)
  set_of_T = shown_says F T (Part.InSet k) refl

  same_bits : {b c : Bool} {u : Bool} → B (Part.InSet k) ≡ u → u ≡ c → c ≡ b → B (Part.InSet k) ≡ b
  same_bits e d f = e ∙ d ∙ f

  -- ---- the clauses of one key

  abbrev pub VisitClause : Moved → Type 0
  VisitClause m = (i : ℕ) → i < F.names → agrees_with (visit_after F B M k at i m) (W (Part.Visits k i)) ≡ true

  abbrev pub SetClause : Moved → Type 0
  SetClause m = agrees_with (set_after B k m) (W (Part.InSet k)) ≡ true

  abbrev pub StopClause : Moved → Type 0
  StopClause m = (s : ℕ) → s < slot_count F → agrees_with (stop_after F B M k at s m) (W (Part.StopVisited k s)) ≡ true

  abbrev pub Clauses : Moved → Type 0
  Clauses m = VisitClause m × SetClause m × StopClause m

  apart_clauses : Clauses Moved.Apart
  apart_clauses = (λ i h. refl, refl, λ s h. refl)

  fast_at : is_fast H B at ≡ is_fast_in H S x
  fast_at = fast_name F S isS at x below named

  away_clauses : walk_visits H S.heap (S.walked k) x ≡ false → Clauses Moved.Untouched
  away_clauses away = (
    λ i h. visit_of i h (S.named i) refl,
    agree_with refl (set_before ∙ same_set (ends_untouched F S T k isS isT x at below named step same_names M readsB readsM away) (ends_untouched_T F S T k isS isT x at below named step same_names M readsB readsM away) ∙ sym set_of_T),
    λ s h. agree_with refl (shown_says F S (Part.StopVisited k s) (lt-ltb s (slot_count F) h) ∙ at_stop (stop_node H S k s) (stop_node H T k s) (step.stops k s) ∙ sym (shown_says F T (Part.StopVisited k s) (lt-ltb s (slot_count F) h))),
  )
    where
      at_stop : (o r : Option ℕ) → r ≡ o → on (walk_visits H S.heap (S.walked k)) o ≡ on (walk_visits H T.heap (T.walked k)) r
      at_stop None r e = ap (on (walk_visits H T.heap (T.walked k))) (sym e)
      at_stop (Some z) r e = visits_untouched F S T k isS isT x at below named step same_names M readsB readsM away z ∙ ap (on (walk_visits H T.heap (T.walked k))) (sym e)

      visit_of : (i : ℕ) → i < F.names → (o : Option ℕ) → S.named i ≡ o → agrees_with (Some (B (Part.Visits k i))) (W (Part.Visits k i)) ≡ true
      visit_of i h None e = let n = bits_null F S T k isS isT x at below named step same_names M readsB readsM i e in agree_with refl (n.0 ∙ sym n.1)
      visit_of i h (Some b) e =
          agree_with refl (bit_before F S T k isS isT x at below named step same_names M readsB readsM i b h e
          ∙ visits_untouched F S T k isS isT x at below named step same_names M readsB readsM away b
          ∙ sym (bit_after F S T k isS isT x at below named step same_names M readsB readsM i b h e))

  module _ (vis : walk_visits H S.heap (S.walked k) x ≡ true) (quietB : (is_fast_in H S x ≡ false) ⊎ (enters F B k at ≡ false)) (quietM : (is_fast_in H S x ≡ false) ⊎ (enters F M k at ≡ false)) where
    -- the stop nodes, where no chain is entered and x was not shared and frozen
    stops_clause : LeavesB F S T k isS isT x at below named step same_names M readsB readsM vis quietB quietM → LeavesM F S T k isS isT x at below named step same_names M readsB readsM vis quietB quietM → (s : ℕ) → s < slot_count F → agrees_with (stop_moved F B M k at s) (W (Part.StopVisited k s)) ≡ true
    stops_clause lb lm s h =
        elim (cases_Bool (is_picked F B k s && not (enters_either F B M k at) && not (is_fast H B at))) [
          | inr free ↦ ap (λ v. agrees_with v (W (Part.StopVisited k s))) (cond-false _ (Some (B (Part.StopVisited k s))) None free)
          | inl c ↦
              let a = and_parts (is_picked F B k s && not (enters_either F B M k at)) (not (is_fast H B at)) c in
              let b = and_parts (is_picked F B k s) (not (enters_either F B M k at)) a.0 in
              let calm = or_parts (enters F B k at) (enters F M k at) (not-true _ b.1) in
              agree_with (cond-true _ (Some (B (Part.StopVisited k s))) None c)
              (stop_agrees F S T k isS isT x at below named step same_names M readsB readsM seen vis quietB quietM lb lm (sym fast_at ∙ not-true _ a.1) calm.0 calm.1 s h b.0)
        ]

    stay_clauses : (p q : Place) → outcome F B k at ≡ Outcome.Leaves p → outcome F M k at ≡ Outcome.Leaves q → B (Part.SameBeyond p q) ≡ true → Clauses Moved.Same
    stay_clauses p q eB eM meet = (
      visit_agrees F S T k isS isT x at below named step same_names M readsB readsM vis quietB quietM
          (leavesB F S T k isS isT x at below named step same_names M readsB readsM vis quietB quietM p q eB eM meet)
          (leavesM F S T k isS isT x at below named step same_names M readsB readsM vis quietB quietM p q eB eM meet),
      agree_with refl (set_before ∙ same_set
          (leave_ends F S T k isS isT x at below named step same_names M readsB readsM vis quietB quietM p q eB eM meet)
          (leave_ends_T F S T k isS isT x at below named step same_names M readsB readsM vis quietB quietM p q eB eM meet) ∙ sym set_of_T),
      stops_clause
          (leavesB F S T k isS isT x at below named step same_names M readsB readsM vis quietB quietM p q eB eM meet)
          (leavesM F S T k isS isT x at below named step same_names M readsB readsM vis quietB quietM p q eB eM meet),
    )

    -- ---- outcomes that are ends

    visits_no_leave : ((p : Place) → outcome F B k at ≡ Outcome.Leaves p → ⊥) → ((p : Place) → outcome F M k at ≡ Outcome.Leaves p → ⊥) → ((i : ℕ) → i < F.names → agrees_with (visit_moved F B M k at i) (W (Part.Visits k i)) ≡ true) × ((s : ℕ) → s < slot_count F → agrees_with (stop_moved F B M k at s) (W (Part.StopVisited k s)) ≡ true)
    visits_no_leave nB nM = (visit_agrees F S T k isS isT x at below named step same_names M readsB readsM vis quietB quietM lb lm, stops_clause lb lm)
      where
        visT : walk_visits H T.heap (T.walked k) x ≡ true
        visT = vis_T F S T k isS isT x at below named step same_names M readsB readsM vis quietB quietM

        lb : LeavesB F S T k isS isT x at below named step same_names M readsB readsM vis quietB quietM
        lb = (λ a p path out. absurd (no_leave (target F B k) _ _ _ (side_comes F B S S k isS isS readsB x (idle F S T k isS isT x at below named step same_names M readsB readsM) at below named vis quietB) (endless F B S S k isS isS readsB x (idle F S T k isS isT x at below named step same_names M readsB readsM) at below named vis quietB) nB a p path out))

        lm : LeavesM F S T k isS isT x at below named step same_names M readsB readsM vis quietB quietM
        lm = (λ a p path out. absurd (no_leave (target F M k) _ _ _ (side_comes F M S T k isS isT readsM x step at below named visT quietM) (endless F M S T k isS isT readsM x step at below named visT quietM) nM a p path out))

    visT : walk_visits H T.heap (T.walked k) x ≡ true
    visT = vis_T F S T k isS isT x at below named step same_names M readsB readsM vis quietB quietM

    abbrev rest : IsStep F S S x
    rest = idle F S T k isS isT x at below named step same_names M readsB readsM

    abbrev sideM : Setting
    sideM = side F M S T k isS isT readsM x step at below named visT quietM

    metS : Path (walk H S k) S.heap.root.0 x
    metS = met F S T k isS isT x at below named step same_names M readsB readsM vis quietB quietM

    metT : Path (walk H T k) S.heap.root.0 x
    metT = met_T F S T k isS isT x at below named step same_names M readsB readsM vis quietB quietM

    goodM : (o : Outcome) → outcome F M k at ≡ o → Good sideM (is_side F M S T k isS isT readsM x step at below named visT quietM) (side_right F M S T k isS isT readsM x step at below named visT quietM) o
    goodM o e = subst (Good sideM (is_side F M S T k isS isT readsM x step at below named visT quietM) (side_right F M S T k isS isT readsM x step at below named visT quietM)) e (side_good F M S T k isS isT readsM x step at below named visT quietM)

    goodB : (o : Outcome) → outcome F B k at ≡ o → Good (side F B S S k isS isS readsB x rest at below named vis quietB) (is_side F B S S k isS isS readsB x rest at below named vis quietB) (side_right F B S S k isS isS readsB x rest at below named vis quietB) o
    goodB o e = subst (Good (side F B S S k isS isS readsB x rest at below named vis quietB) (is_side F B S S k isS isS readsB x rest at below named vis quietB) (side_right F B S S k isS isS readsB x rest at below named vis quietB)) e (side_good F B S S k isS isS readsB x rest at below named vis quietB)

    cycle_clauses : outcome F B k at ≡ Outcome.Cycles → outcome F M k at ≡ Outcome.Cycles → Clauses Moved.Same
    cycle_clauses eB eM =
        let none = visits_no_leave (λ p e. let c : Outcome.Cycles ≡ Outcome.Leaves p = sym eB ∙ e in cc) (λ p e. let c : Outcome.Cycles ≡ Outcome.Leaves p = sym eM ∙ e in cc) in (
          none.0,
          agree_with refl (set_before
              ∙ contains-cycle H S.heap (S.walked k) (never_ends_before x metS (goodB Outcome.Cycles eB))
              ∙ sym (contains-cycle H T.heap (T.walked k) (λ b p e. never_ends_before x metT (goodM Outcome.Cycles eM) b (from_T (p, e)).0 e)) ∙ sym set_of_T),
          none.1,
        )

    -- ---- what holds says where the new part ends

    end_at : (i : ℕ) → outcome F M k at ≡ Outcome.EndsAt i → W (Part.InSet k) ≡ value (node_view M k i) H.holds
    end_at i e =
        let m = ends_from (target F M k) F.names sideM.start i (outcome F M k at) (side_comes F M S T k isS isT readsM x step at below named visT quietM) e in
        let w = part_named F M S T k isS isT readsM x step at below named visT quietM i m in
        let ends : EndsAt (walk H T k) x (sideM.N i) = goodM (Outcome.EndsAt i) e in
        let at_y : sideM.N i ≡ w.1.0 = ap (λ o. unwrap_or o 0) w.1.1 in
        let path : Path (walk H T k) T.heap.root.0 w.1.0 = (to_T (append metT (subst (λ b. Path (walk H T k) x b) at_y ends.0), subst (λ b. walk H T k b ≡ None) at_y ends.1)).0 in
        let there = visited_there F T isT k w.1.0 path in
        set_of_T ∙ contains-at H T.heap (T.walked k) w.1.0 (path, subst (λ b. walk H T k b ≡ None) at_y ends.1)
        ∙ ap (λ o. option_map_or (λ (z : Node). holds_at H z.key z.flags (T.walked k)) o false) there.1
        ∙ ap (λ (z : Node). holds_at H z.key z.flags (T.walked k)) (sym (node_found T w.1.0 there.0 there.1))
        ∙ sym (walk_value H (node_view M k i) (node_at T w.1.0).key (node_at T w.1.0).flags (T.walked k) (readsM.view i w.1.0 w.0 w.1.1) H.holds (holds_fits H isT.lawful))
      where
        ends_from : (to : ℕ → Target) (n i m : ℕ) (o : Outcome) → Comes to n i o → o ≡ Outcome.EndsAt m → Path (move to) i m
        ends_from to n i m o came e = elim came [
          | inl w ↦ subst (λ b. Path (move to) i b) (by_final w.0 m (to w.0) (w.2 ∙ ap Some e)) w.1
          | inr w ↦ absurd (let clash : Outcome.Cycles ≡ Outcome.EndsAt m = sym w.0 ∙ e in cc)
        ]
          where
            by_final : (b m : ℕ) (t : Target) → final b t ≡ Some (Outcome.EndsAt m) → b ≡ m
            by_final b m Target.Ends d = let c : Outcome.EndsAt b ≡ Outcome.EndsAt m = same_Some _ _ d in cc
            by_final b m (Target.To j) d = absurd (none-some (Outcome.EndsAt m) d)
            by_final b m (Target.Out p) d = absurd (let c : Outcome.Leaves p ≡ Outcome.EndsAt m = same_Some _ _ d in cc)
            by_final b m (Target.Stops y r s) d = absurd (let c : Outcome.StopsIn y r s ≡ Outcome.EndsAt m = same_Some _ _ d in cc)
            by_final b m (Target.Jumps r) d = absurd (none-some (Outcome.EndsAt m) d)

    stop_at_end : (y q s : ℕ) → outcome F M k at ≡ Outcome.StopsIn y q s → W (Part.InSet k) ≡ value (stop_view M k s) H.holds
    stop_at_end y q s e =
        let m = stop_from (target F M k) F.names sideM.start (outcome F M k at) (side_comes F M S T k isS isT readsM x step at below named visT quietM) e in
        let told = stops_tell F M k m.0 y q s m.2 in
        let shows = sym (readsM.picks y q s) ∙ told.0 in
        let stop = pick_stop F S isS k y q s told.1 shows in
        let fits : nat_lt s (slot_count F) ≡ true = (and_parts (nat_lt y F.names && nat_lt q F.names) (nat_lt s (slot_count F)) (shown_true F S (Part.Picks k y q s) shows).0).1 in
        let ends : EndsAt (walk H T k) x (sideM.Z s) = goodM (Outcome.StopsIn y q s) e in
        let at_z : sideM.Z s ≡ stop.0 = ap (λ o. unwrap_or o 0) stop.1 in
        let right = subst (λ t. Right sideM m.0 t) m.2 (side_right F M S T k isS isT readsM x step at below named visT quietM m.0 m.1 (passed_visited sideM (is_side F M S T k isS isT readsM x step at below named visT quietM) (side_right F M S T k isS isT readsM x step at below named visT quietM) m.0 m.1)) in
        let other : stop.0 ≡ x → ⊥ = λ d. true≢false (sym (eq-eqb (sideM.Z s) x (at_z ∙ d)) ∙ not-true (sideM.Z s == x) (and_parts (is_fast_in H S (sideM.Z s)) (not (sideM.Z s == x)) right.4).1) in
        let there = fast_there F S isS stop.0 (fast_step H S isS.owned stop.0 stop.3.0 stop.3.1).1 in
        set_of_T ∙ contains-at H T.heap (T.walked k) stop.0 (to_T (append metT (subst (λ b. Path (walk H T k) x b) at_z ends.0), subst (λ b. walk H T k b ≡ None) at_z ends.1))
        ∙ sym (same_holds stop.0 other)
        ∙ ap (λ o. option_map_or (λ (z : Node). holds_at H z.key z.flags (S.walked k)) o false) there.1
        ∙ ap (λ (z : Node). holds_at H z.key z.flags (S.walked k)) (sym (node_found S stop.0 there.0 there.1))
        ∙ sym (walk_value H (stop_view M k s) (node_at S stop.0).key (node_at S stop.0).flags (S.walked k) (readsM.stop s stop.0 (ltb-true s (slot_count F) fits) stop.1) H.holds (holds_fits H isS.lawful))
      where
        stop_from : (to : ℕ → Target) (n i : ℕ) (o : Outcome) → Comes to n i o → o ≡ Outcome.StopsIn y q s → (m : ℕ) × Path (move to) i m × (to m ≡ Target.Stops y q s)
        stop_from to n i o came e = elim came [
          | inl w ↦ (w.0, w.1, by_final w.0 (to w.0) refl (w.2 ∙ ap Some e))
          | inr w ↦ absurd (let clash : Outcome.Cycles ≡ Outcome.StopsIn y q s = sym w.0 ∙ e in cc)
        ]
          where
            by_final : (b : ℕ) (t : Target) → to b ≡ t → final b t ≡ Some (Outcome.StopsIn y q s) → to b ≡ Target.Stops y q s
            by_final b Target.Ends h d = absurd (let c : Outcome.EndsAt b ≡ Outcome.StopsIn y q s = same_Some _ _ d in cc)
            by_final b (Target.To j) h d = absurd (none-some (Outcome.StopsIn y q s) d)
            by_final b (Target.Out p) h d = absurd (let c : Outcome.Leaves p ≡ Outcome.StopsIn y q s = same_Some _ _ d in cc)
            by_final b (Target.Stops u v r) h d =
                let c : Outcome.StopsIn u v r ≡ Outcome.StopsIn y q s = same_Some _ _ d in
                let e : Target.Stops u v r ≡ Target.Stops y q s = (let a : u ≡ y = cc in let b : v ≡ q = cc in let f : r ≡ s = cc in cc) in h ∙ e
            by_final b (Target.Jumps r) h d = absurd (none-some (Outcome.StopsIn y q s) d)

    -- ---- by both outcomes

    end_clauses : (was now : Bool) → ((p : Place) → outcome F B k at ≡ Outcome.Leaves p → ⊥) → ((p : Place) → outcome F M k at ≡ Outcome.Leaves p → ⊥) → W (Part.InSet k) ≡ now → Clauses (Moved.BothEnd was now)
    end_clauses was now nB nM e = let none = visits_no_leave nB nM in (none.0, agree_with refl (sym e), none.1)

    by_both : (o r : Outcome) → outcome F B k at ≡ o → outcome F M k at ≡ r → Clauses (by_outcomes H B M k o r)
    by_both (Outcome.EndsAt i) (Outcome.EndsAt j) eB eM = end_clauses (value (node_view B k i) H.holds) (value (node_view M k j) H.holds) (λ p e. let c : Outcome.EndsAt i ≡ Outcome.Leaves p = sym eB ∙ e in cc) (λ p e. let c : Outcome.EndsAt j ≡ Outcome.Leaves p = sym eM ∙ e in cc) (end_at j eM)
    by_both (Outcome.EndsAt i) (Outcome.StopsIn y q s) eB eM = end_clauses (value (node_view B k i) H.holds) (value (stop_view M k s) H.holds) (λ p e. let c : Outcome.EndsAt i ≡ Outcome.Leaves p = sym eB ∙ e in cc) (λ p e. let c : Outcome.StopsIn y q s ≡ Outcome.Leaves p = sym eM ∙ e in cc) (stop_at_end y q s eM)
    by_both (Outcome.EndsAt i) (Outcome.Leaves p) eB eM = apart_clauses
    by_both (Outcome.EndsAt i) Outcome.Cycles eB eM = apart_clauses
    by_both (Outcome.StopsIn u v t) (Outcome.EndsAt j) eB eM = end_clauses (value (stop_view B k t) H.holds) (value (node_view M k j) H.holds) (λ p e. let c : Outcome.StopsIn u v t ≡ Outcome.Leaves p = sym eB ∙ e in cc) (λ p e. let c : Outcome.EndsAt j ≡ Outcome.Leaves p = sym eM ∙ e in cc) (end_at j eM)
    by_both (Outcome.StopsIn u v t) (Outcome.StopsIn y q s) eB eM = end_clauses (value (stop_view B k t) H.holds) (value (stop_view M k s) H.holds) (λ p e. let c : Outcome.StopsIn u v t ≡ Outcome.Leaves p = sym eB ∙ e in cc) (λ p e. let c : Outcome.StopsIn y q s ≡ Outcome.Leaves p = sym eM ∙ e in cc) (stop_at_end y q s eM)
    by_both (Outcome.StopsIn u v t) (Outcome.Leaves p) eB eM = apart_clauses
    by_both (Outcome.StopsIn u v t) Outcome.Cycles eB eM = apart_clauses
    by_both (Outcome.Leaves p) (Outcome.EndsAt j) eB eM = apart_clauses
    by_both (Outcome.Leaves p) (Outcome.StopsIn y q s) eB eM = apart_clauses
    by_both (Outcome.Leaves p) (Outcome.Leaves q) eB eM =
        elim (cases_Bool (B (Part.SameBeyond p q))) [
          | inl c ↦ subst Clauses (sym (cond-true (B (Part.SameBeyond p q)) Moved.Same Moved.Apart c)) (stay_clauses p q eB eM c)
          | inr c ↦ subst Clauses (sym (cond-false (B (Part.SameBeyond p q)) Moved.Same Moved.Apart c)) apart_clauses
        ]
    by_both (Outcome.Leaves p) Outcome.Cycles eB eM = apart_clauses
    by_both Outcome.Cycles (Outcome.EndsAt j) eB eM = apart_clauses
    by_both Outcome.Cycles (Outcome.StopsIn y q s) eB eM = apart_clauses
    by_both Outcome.Cycles (Outcome.Leaves p) eB eM = apart_clauses
    by_both Outcome.Cycles Outcome.Cycles eB eM = cycle_clauses eB eM

  -- ---- the movement

  at_bit : B (Part.Visits k at) ≡ walk_visits H S.heap (S.walked k) x
  at_bit = bit_before F S T k isS isT x at below named step same_names M readsB readsM at x below named

  at_fast : is_fast H B at ≡ is_fast_in H S x
  at_fast = fast_name F S isS at x below named

  -- the visit bits and the set bit of a key are as the movement says
  pub moves_so : Clauses (movement F B M k at)
  moves_so =
      elim (cases_Bool (B (Part.Visits k at))) [
        | inr no_visit ↦ subst Clauses (sym (cond-true (not (B (Part.Visits k at))) Moved.Untouched _ (ap not no_visit))) (away_clauses (sym at_bit ∙ no_visit))
        | inl vis ↦ elim (cases_Bool (is_fast H B at && enters_either F B M k at)) [
          | inl both ↦ subst Clauses (sym (cond-false (not (B (Part.Visits k at))) Moved.Untouched _ (ap not vis) ∙ cond-true (is_fast H B at && enters_either F B M k at) Moved.Apart _ both)) apart_clauses
          | inr calm ↦
              subst Clauses (sym (cond-false (not (B (Part.Visits k at))) Moved.Untouched _ (ap not vis) ∙ cond-false (is_fast H B at && enters_either F B M k at) Moved.Apart _ calm))
              (by_both (sym at_bit ∙ vis) (quiet calm).0 (quiet calm).1 (outcome F B k at) (outcome F M k at) refl refl)
        ]
      ]
    where
      quiet : (is_fast H B at && enters_either F B M k at) ≡ false → ((is_fast_in H S x ≡ false) ⊎ (enters F B k at ≡ false)) × ((is_fast_in H S x ≡ false) ⊎ (enters F M k at ≡ false))
      quiet calm = elim (cases_Bool (is_fast_in H S x)) [
        | inr slow ↦ (inl slow, inl slow)
        | inl quick ↦
            let none : enters_either F B M k at ≡ false = sym (ap (λ b. b && enters_either F B M k at) (at_fast ∙ quick)) ∙ calm in
            let parts = or_parts (enters F B k at) (enters F M k at) none in
            (inr parts.0, inr parts.1)
      ]
