-- The visit bits of names after a write of a visited node: on the new part set, on the old part or past chains free, else
-- as before; and where both parts leave to one outside node, which ends stay.
use Rattle.std.proofs.Common.{◌≡◌, ◌⊎◌, ℕ, ◌<◌, Bool, true, false, not, length, Option, Some, None, refl, sym, ◌∙◌, ap, subst, inl, inr, arith}
use Rattle.std.specs.Prelude.{◌&&◌, ◌||◌, nat_lt, is_some, unwrap_or, if◌then◌else◌}
use Rattle.std.proofs.lemmas.Bool.{true≢false, and_parts, and_from, or_parts, or_left, or_right, and_right, cases_Bool, lt-ltb, cond-true, cond-false, not-true, cases_eq}
use Rattle.std.proofs.lemmas.Option.{none-some, same_Some}
use Rattle.plank_base.specs.Paths.{Path, EndsAt, AgreeOff}
use Rattle.plank_base.proofs.Digits.{same_tests}
use Rattle.plank_prog.specs.declared.headers.Header.{Header}
use Rattle.plank_heap.specs.Walks.{walk_visits}
use Rattle.plank_pic.specs.declared.parts.KeyName.{KeyName}
use Rattle.plank_pic.specs.declared.parts.Target.{Target}
use Rattle.plank_pic.specs.declared.parts.Place.{Place}
use Rattle.plank_pic.specs.declared.parts.Part.{Part}
use Rattle.plank_pic.specs.Frames.{Frame}
use Rattle.plank_pic.specs.Below.{least_below, some_below}
use Rattle.plank_pic.specs.Pictures.{Picture, place, leads_to, chains_on, edge, target, pointer_target, outer_target, chain_target, is_fast}
use Rattle.plank_pic.specs.declared.parts.Outcome.{Outcome}
use Rattle.plank_pic.specs.Outcomes.{outcome, passes}
use Rattle.plank_pic.specs.Steps.{enters, enters_either, visit_moved, agrees_with}
use Rattle.plank_pic.proofs.Below.{least_none, some_there}
use Rattle.plank_scene.specs.Scenes.{Scene, leads, leads_from, is_node, is_nameless, is_fast_in, walk, on, shown}
use Rattle.plank_scene.specs.Worlds.{IsScene}
use Rattle.plank_scene.proofs.Scenes.Showing.{beq_same, on_at, is_node_at, is_node_true, shown_says, shown_true}
use Rattle.plank_scene.proofs.Scenes.Paths.{visit_path, path_visit}
use Rattle.plank_scene.proofs.Walks.Passing.{move, Comes, passed_path, final}
use Rattle.plank_scene.proofs.Walks.Parts.{Setting, Good}
use Rattle.plank_scene.proofs.Scenes.Chains.{fast_name}
use Rattle.plank_scene.proofs.Writes.Reading.{Reads, some_edge}
use Rattle.plank_scene.proofs.Walks.Moving.{out_decides, untouched, still_visited, same_end}
use Rattle.plank_scene.proofs.Writes.Sides.{IsStep, side, is_side, part_named, side_right, side_comes, endless, side_good, passed_name, name_passed, entered_name, side_kept}

pub agree_with : {o : Option Bool} {b c : Bool} → o ≡ Some b → b ≡ c → agrees_with o c ≡ true
agree_with {o} {b} {c} e d = ap (λ v. agrees_with v c) e ∙ beq_same (sym d)

-- ---- the place by which a part leaves

module _ (F : Frame) (P : Picture) (S T : Scene) (k : KeyName) (isS : IsScene F S) (isT : IsScene F T) (reads : Reads F P S T k) (i y : ℕ) (below : i < F.names) (named : S.named i ≡ Some y) (q : Place) where
  abbrev Tells : Type 0
  Tells = (q.name ≡ i) × (q.pointer < length F.header.pointers) × ((a : ℕ) × (leads T y q.pointer ≡ Some a)) × ((j : ℕ) → j < F.names → is_node (leads T y q.pointer) (S.named j) ≡ false)

  out_is : {p : Place} → Target.Out p ≡ Target.Out q → p ≡ q
  out_is e = cc

  chain_out : (i q' : ℕ) (o r : Bool) → (if o then Target.Stops i q' 0 else if r then Target.Stops i q' 1 else Target.Jumps q') ≡ Target.Out q → ⊥
  chain_out i q' true r e = cc
  chain_out i q' false true e = cc
  chain_out i q' false false e = cc

  outer_out : (f : ℕ) (o : Option ℕ) → elim o [ Some q' ↦ chain_target P k i q' | None ↦ Target.Out (place i f) ] ≡ Target.Out q → place i f ≡ q
  outer_out f None e = out_is e
  outer_out f (Some q') e = absurd (chain_out i q' (P (Part.Picks k i q' 0)) (P (Part.Picks k i q' 1)) e)

  pointer_out : (f : ℕ) → f < length F.header.pointers → ((a : ℕ) × (leads T y f ≡ Some a)) → (o : Option ℕ) → least_below (leads_to P (place i f)) F.names ≡ o → elim o [ Some j ↦ Target.To j | None ↦ outer_target F P k i f ] ≡ Target.Out q → Tells
  pointer_out f few lead (Some j) e d = absurd cc
  pointer_out f few lead None e d =
      let at : place i f ≡ q = outer_out f (least_below (chains_on P i) F.names) d in
      let same : f ≡ q.pointer = ap (λ (p : Place). p.pointer) at in (
        sym (ap (λ (p : Place). p.name) at),
        subst (λ g. g < length F.header.pointers) same few,
        (lead.0, subst (λ g. leads T y g ≡ Some lead.0) same lead.1),
        λ j h. subst (λ g. is_node (leads T y g) (S.named j) ≡ false) same (sym (reads.leads_to i y f j below named few h) ∙ least_none (leads_to P (place i f)) F.names e j h),
      )

  edge_out : (o : Option ℕ) → edge F.header P k i ≡ o → elim o [ Some f ↦ pointer_target F P k i f | None ↦ Target.Ends ] ≡ Target.Out q → Tells
  edge_out None e d = absurd cc
  edge_out (Some f) e d =
      let w = some_edge F P S T k isS isT reads i y below named f e in
      pointer_out f w.0 w.2 (least_below (leads_to P (place i f)) F.names) refl d

  pub out_tells : target F P k i ≡ Target.Out q → Tells
  out_tells d = edge_out (edge F.header P k i) refl d

-- ---- the slot of a stop node

module _ (F : Frame) (P : Picture) (k : KeyName) (i y q s : ℕ) where
  abbrev Stopped : Target → Type 0
  Stopped t = t ≡ Target.Stops y q s → (P (Part.Picks k y q s) ≡ true) × (s < 2)

  slot_is : (q' s' : ℕ) → s' < 2 → P (Part.Picks k i q' s') ≡ true → Stopped (Target.Stops i q' s')
  slot_is q' s' two e d =
      let a : i ≡ y = cc in
      let b : q' ≡ q = cc in
      let c : s' ≡ s = cc in
      (subst (λ v. P (Part.Picks k y q v) ≡ true) c (subst (λ v. P (Part.Picks k y v s') ≡ true) b (subst (λ v. P (Part.Picks k v q' s') ≡ true) a e)), subst (λ v. v < 2) c two)

  chain_stop : (q' : ℕ) → Stopped (chain_target P k i q')
  chain_stop q' =
      elim (cases_Bool (P (Part.Picks k i q' 0))) [
        | inl p0 ↦ subst Stopped (sym (cond-true (P (Part.Picks k i q' 0)) (Target.Stops i q' 0) _ p0)) (slot_is q' 0 (omega arith) p0)
        | inr n0 ↦ elim (cases_Bool (P (Part.Picks k i q' 1))) [
          | inl p1 ↦ subst Stopped (sym (cond-false (P (Part.Picks k i q' 0)) (Target.Stops i q' 0) _ n0 ∙ cond-true (P (Part.Picks k i q' 1)) (Target.Stops i q' 1) _ p1)) (slot_is q' 1 (omega arith) p1)
          | inr n1 ↦ subst Stopped (sym (cond-false (P (Part.Picks k i q' 0)) (Target.Stops i q' 0) _ n0 ∙ cond-false (P (Part.Picks k i q' 1)) (Target.Stops i q' 1) (Target.Jumps q') n1)) (λ d. absurd cc)
        ]
      ]

  outer_stop : (f : ℕ) (o : Option ℕ) → Stopped (elim o [ Some q' ↦ chain_target P k i q' | None ↦ Target.Out (place i f) ])
  outer_stop f None d = absurd cc
  outer_stop f (Some q') d = chain_stop q' d

  pointer_stop : (f : ℕ) (o : Option ℕ) → Stopped (elim o [ Some j ↦ Target.To j | None ↦ outer_target F P k i f ])
  pointer_stop f (Some j) d = absurd cc
  pointer_stop f None d = outer_stop f (least_below (chains_on P i) F.names) d

  edge_stop : (o : Option ℕ) → Stopped (elim o [ Some f ↦ pointer_target F P k i f | None ↦ Target.Ends ])
  edge_stop None d = absurd cc
  edge_stop (Some f) d = pointer_stop f (least_below (leads_to P (place i f)) F.names) d

  pub stops_tell : target F P k i ≡ Target.Stops y q s → (P (Part.Picks k y q s) ≡ true) × (s < 2)
  stops_tell d = edge_stop (edge F.header P k i) d

-- ---- both sides

module _ (F : Frame) (S T : Scene) (k : KeyName) (isS : IsScene F S) (isT : IsScene F T) (x at : ℕ) (below : at < F.names) (named : S.named at ≡ Some x)
    (step : IsStep F S T x) (same_names : T.named ≡ S.named) (M : Picture) (readsB : Reads F (shown F S) S S k) (readsM : Reads F M S T k) where
  abbrev H : Header
  H = F.header

  abbrev B : Picture
  B = shown F S

  abbrev W : Picture
  W = shown F T

  pub idle : IsStep F S S x
  idle = record {
    stops = λ k s. refl;
    ever = λ k y. refl;
    root = refl;
    walked = refl;
    nodes = λ b n. refl;
    agree = λ k a n. refl;
    lead = λ b f n. refl;
    fast = λ b n e. e;
    written = λ f a few e. inl e;
  }

  pub back : (k : KeyName) → AgreeOff (walk H T k) (walk H S k) x
  back k a n = sym (step.agree k a n)

  -- what a name's visit bit is
  pub bit_before : (i b : ℕ) → i < F.names → S.named i ≡ Some b → B (Part.Visits k i) ≡ walk_visits H S.heap (S.walked k) b
  bit_before i b h e = shown_says F S (Part.Visits k i) (lt-ltb i F.names h) ∙ on_at (walk_visits H S.heap (S.walked k)) e

  pub bit_after : (i b : ℕ) → i < F.names → S.named i ≡ Some b → W (Part.Visits k i) ≡ walk_visits H T.heap (T.walked k) b
  bit_after i b h e = shown_says F T (Part.Visits k i) (lt-ltb i F.names h) ∙ on_at (walk_visits H T.heap (T.walked k)) (ap (λ n. n i) same_names ∙ e)

  pub bits_null : (i : ℕ) → S.named i ≡ None → (B (Part.Visits k i) ≡ false) × (W (Part.Visits k i) ≡ false)
  bits_null i e = (
    and_right (nat_lt i F.names) _ (ap (on (walk_visits H S.heap (S.walked k))) e),
    and_right (nat_lt i F.names) _ (ap (on (walk_visits H T.heap (T.walked k))) (ap (λ n. n i) same_names ∙ e)),
  )

  to_root_T : {b : ℕ} → Path (walk H T k) S.heap.root.0 b → Path (walk H T k) T.heap.root.0 b
  to_root_T {b} p = subst (λ r. Path (walk H T k) r b) (sym step.root) p

  from_root_T : {b : ℕ} → Path (walk H T k) T.heap.root.0 b → Path (walk H T k) S.heap.root.0 b
  from_root_T {b} p = subst (λ r. Path (walk H T k) r b) step.root p

  -- ---- where x is not visited

  module _ (away : walk_visits H S.heap (S.walked k) x ≡ false) where
    not_met : Path (walk H S k) S.heap.root.0 x → ⊥
    not_met p = true≢false (sym (path_visit H S isS.owned k x p) ∙ away)

    not_met_T : Path (walk H T k) S.heap.root.0 x → ⊥
    not_met_T p = not_met (still_visited (walk H T k) (walk H S k) x (back k) p)

    pub visits_untouched : (b : ℕ) → walk_visits H S.heap (S.walked k) b ≡ walk_visits H T.heap (T.walked k) b
    visits_untouched b = same_tests _ _
        (λ e. path_visit H T isT.owned k b (to_root_T (untouched (walk H S k) (walk H T k) x (step.agree k) not_met (visit_path H S isS.owned k b e))))
        (λ e. path_visit H S isS.owned k b (untouched (walk H T k) (walk H S k) x (back k) not_met_T (from_root_T (visit_path H T isT.owned k b e))))

    pub ends_untouched : (b : ℕ) → EndsAt (walk H S k) S.heap.root.0 b → (b ≡ x → ⊥) × EndsAt (walk H T k) S.heap.root.0 b
    ends_untouched b ends =
        let other : b ≡ x → ⊥ = λ e. not_met (subst (λ v. Path (walk H S k) S.heap.root.0 v) e ends.0) in
        (other, (untouched (walk H S k) (walk H T k) x (step.agree k) not_met ends.0, sym (step.agree k b other) ∙ ends.1))

    pub ends_untouched_T : (b : ℕ) → EndsAt (walk H T k) S.heap.root.0 b → (b ≡ x → ⊥) × EndsAt (walk H S k) S.heap.root.0 b
    ends_untouched_T b ends =
        let other : b ≡ x → ⊥ = λ e. not_met_T (subst (λ v. Path (walk H T k) S.heap.root.0 v) e ends.0) in
        (other, (untouched (walk H T k) (walk H S k) x (back k) not_met_T ends.0, step.agree k b other ∙ ends.1))

  -- ---- where x is visited

  module _ (vis : walk_visits H S.heap (S.walked k) x ≡ true) (quietB : (is_fast_in H S x ≡ false) ⊎ (enters F B k at ≡ false)) (quietM : (is_fast_in H S x ≡ false) ⊎ (enters F M k at ≡ false)) where
    pub met : Path (walk H S k) S.heap.root.0 x
    met = visit_path H S isS.owned k x vis

    pub met_T : Path (walk H T k) S.heap.root.0 x
    met_T = still_visited (walk H S k) (walk H T k) x (step.agree k) met

    pub vis_T : walk_visits H T.heap (T.walked k) x ≡ true
    vis_T = path_visit H T isT.owned k x (to_root_T met_T)

    abbrev sideB : Setting
    sideB = side F B S S k isS isS readsB x idle at below named vis quietB

    abbrev sideM : Setting
    sideM = side F M S T k isS isT readsM x step at below named vis_T quietM

    abbrev pub LeavesB : Type 0
    LeavesB = (a : ℕ) (p : Place) → Path (move (target F B k)) sideB.start a → target F B k a ≡ Target.Out p → Path (walk H T k) x (sideB.A p)

    abbrev pub LeavesM : Type 0
    LeavesM = (a : ℕ) (p : Place) → Path (move (target F M k)) sideM.start a → target F M k a ≡ Target.Out p → Path (walk H S k) x (sideM.A p)

    -- the visit bits of nodes on no part and inside no chain
    pub visit_agrees : LeavesB → LeavesM → (i : ℕ) → i < F.names → agrees_with (visit_moved F B M k at i) (W (Part.Visits k i)) ≡ true
    visit_agrees lb lm i h = by_name (S.named i) refl
      where
        agree_true : (o : Option Bool) (b c : Bool) → o ≡ Some b → b ≡ c → agrees_with o c ≡ true
        agree_true o b c e d = ap (λ v. agrees_with v c) e ∙ beq_same (sym d)

        at_null : S.named i ≡ None → agrees_with (visit_moved F B M k at i) (W (Part.Visits k i)) ≡ true
        at_null e =
            let none = bits_null i e in
            elim (cases_Bool (passes F M k at i)) [
              | inl passM ↦
                  let w = passed_path (target F M k) (λ m. M (Part.Same m i)) F.names sideM.start passM in
                  let told = is_node_true (S.named w.0) (S.named i) (shown_true F S (Part.Same w.0 i) (sym (readsM.same w.0 i) ∙ w.2)).1 in
                  absurd (none-some told.0 (sym e ∙ told.2))
              | inr offM ↦ elim (cases_Bool (passes F B k at i || (enters_either F B M k at && is_fast H B i))) [
                | inl free ↦ ap (λ v. agrees_with v (W (Part.Visits k i))) (cond-false (passes F M k at i) (Some true) _ offM ∙ cond-true _ None _ free)
                | inr stays ↦ agree_true _ (B (Part.Visits k i)) _ (cond-false (passes F M k at i) (Some true) _ offM ∙ cond-false _ None _ stays) (none.0 ∙ sym none.1)
              ]
            ]

        at_node : (b : ℕ) → S.named i ≡ Some b → agrees_with (visit_moved F B M k at i) (W (Part.Visits k i)) ≡ true
        at_node b e =
            elim (cases_Bool (passes F M k at i)) [
              | inl passM ↦ agree_true _ true _ (cond-true (passes F M k at i) (Some true) _ passM)
                  (sym (bit_after i b h e ∙ name_passed F M S T k isS isT readsM x step at below named vis_T quietM i b e passM))
              | inr offM ↦ elim (cases_Bool (passes F B k at i || (enters_either F B M k at && is_fast H B i))) [
                | inl free ↦ ap (λ v. agrees_with v (W (Part.Visits k i))) (cond-false (passes F M k at i) (Some true) _ offM ∙ cond-true _ None _ free)
                | inr stays ↦
                    let parts = or_parts (passes F B k at i) (enters_either F B M k at && is_fast H B i) stays in
                    agree_true _ (B (Part.Visits k i)) _ (cond-false (passes F M k at i) (Some true) _ offM ∙ cond-false _ None _ stays)
                    (bit_before i b h e ∙ same_tests _ _ (forth b e parts.0 parts.1) (back_again b e offM parts.1) ∙ sym (bit_after i b h e))
              ]
            ]
          where
            fast_bit : (b : ℕ) → S.named i ≡ Some b → is_fast H B i ≡ is_fast_in H S b
            fast_bit b e = fast_name F S isS i b h e

            forth : (b : ℕ) → S.named i ≡ Some b → passes F B k at i ≡ false → (enters_either F B M k at && is_fast H B i) ≡ false → walk_visits H S.heap (S.walked k) b ≡ true → walk_visits H T.heap (T.walked k) b ≡ true
            forth b e offB calm v =
                elim (side_kept F B S S k isS isS readsB x idle at below named vis quietB T (step.agree k) lb S.heap.root.0 b (visit_path H S isS.owned k b v)) [
                  | inl p ↦ path_visit H T isT.owned k b (to_root_T p)
                  | inr (inl w) ↦ absurd (true≢false (sym (passed_name F B S S k isS isS readsB x idle at below named vis quietB i b h e w) ∙ offB))
                  | inr (inr w) ↦
                      let n = entered_name F B S S k isS isS readsB x idle at below named vis quietB b w in
                      absurd (true≢false (sym (and_from _ _ (or_left _ _ n.0) (fast_bit b e ∙ n.1)) ∙ calm))
                ]

            back_again : (b : ℕ) → S.named i ≡ Some b → passes F M k at i ≡ false → (enters_either F B M k at && is_fast H B i) ≡ false → walk_visits H T.heap (T.walked k) b ≡ true → walk_visits H S.heap (S.walked k) b ≡ true
            back_again b e offM calm v =
                elim (side_kept F M S T k isS isT readsM x step at below named vis_T quietM S (back k) lm S.heap.root.0 b (from_root_T (visit_path H T isT.owned k b v))) [
                  | inl p ↦ path_visit H S isS.owned k b p
                  | inr (inl w) ↦ absurd (true≢false (sym (passed_name F M S T k isS isT readsM x step at below named vis_T quietM i b h e w) ∙ offM))
                  | inr (inr w) ↦
                      let n = entered_name F M S T k isS isT readsM x step at below named vis_T quietM b w in
                      absurd (true≢false (sym (and_from _ _ (or_right _ _ n.0) (fast_bit b e ∙ n.1)) ∙ calm))
                ]

        by_name : (o : Option ℕ) → S.named i ≡ o → agrees_with (visit_moved F B M k at i) (W (Part.Visits k i)) ≡ true
        by_name None e = at_null e
        by_name (Some b) e = at_node b e

    -- ---- where both leave to one outside node

    -- a part that leaves does so from a name
    pub leaves_from : (to : ℕ → Target) (n i : ℕ) (q : Place) (o : Outcome) → Comes to n i o → o ≡ Outcome.Leaves q → (m : ℕ) × Path (move to) i m × (to m ≡ Target.Out q)
    leaves_from to n i q o came e = elim came [
      | inl w ↦ (w.0, w.1, by_final w.0 (to w.0) refl (w.2 ∙ ap Some e))
      | inr w ↦ absurd (let clash : Outcome.Cycles ≡ Outcome.Leaves q = sym w.0 ∙ e in cc)
    ]
      where
        by_final : (m : ℕ) (t : Target) → to m ≡ t → final m t ≡ Some (Outcome.Leaves q) → to m ≡ Target.Out q
        by_final m Target.Ends h d = absurd (let c : Outcome.EndsAt m ≡ Outcome.Leaves q = same_Some _ _ d in cc)
        by_final m (Target.To j) h d = absurd (none-some (Outcome.Leaves q) d)
        by_final m (Target.Out p) h d = let c : Outcome.Leaves p ≡ Outcome.Leaves q = same_Some _ _ d in let e : p ≡ q = cc in h ∙ ap Target.Out e
        by_final m (Target.Stops y r s) h d = absurd (let c : Outcome.StopsIn y r s ≡ Outcome.Leaves q = same_Some _ _ d in cc)
        by_final m (Target.Jumps r) h d = absurd (none-some (Outcome.Leaves q) d)

    module _ (p q : Place) (outB : outcome F B k at ≡ Outcome.Leaves p) (outM : outcome F M k at ≡ Outcome.Leaves q) (meet : B (Part.SameBeyond p q) ≡ true) where
      goodB : Path (walk H S k) x (sideB.A p)
      goodB = subst (Good sideB (is_side F B S S k isS isS readsB x idle at below named vis quietB) (side_right F B S S k isS isS readsB x idle at below named vis quietB)) outB (side_good F B S S k isS isS readsB x idle at below named vis quietB)

      goodM : Path (walk H T k) x (sideM.A q)
      goodM = subst (Good sideM (is_side F M S T k isS isT readsM x step at below named vis_T quietM) (side_right F M S T k isS isT readsM x step at below named vis_T quietM)) outM (side_good F M S T k isS isT readsM x step at below named vis_T quietM)

      -- the node to which both lead
      node_p : (yp yq u : ℕ) × (S.named p.name ≡ Some yp) × (S.named q.name ≡ Some yq) × (leads S yp p.pointer ≡ Some u) × (leads S yq q.pointer ≡ Some u) × (is_nameless F S (Some u) ≡ true)
      node_p =
          let both = and_parts (is_nameless F S (leads_from S (S.named p.name) p.pointer)) _ (shown_true F S (Part.SameBeyond p q) meet).1 in
          let w = is_node_true (leads_from S (S.named p.name) p.pointer) (leads_from S (S.named q.name) q.pointer) both.1 in
          let a = from_name (S.named p.name) p.pointer w.0 refl w.1 in
          let b = from_name (S.named q.name) q.pointer w.0 refl w.2 in
          (a.0, b.0, w.0, a.1, b.1, a.2, b.2, subst (λ o. is_nameless F S o ≡ true) w.1 both.0)
        where
          from_name : (o : Option ℕ) (f u : ℕ) → {r : Option ℕ} → r ≡ o → leads_from S r f ≡ Some u → (y : ℕ) × (r ≡ Some y) × (leads S y f ≡ Some u)
          from_name None f u e d = absurd (none-some u (sym (ap (λ r. leads_from S r f) e) ∙ d))
          from_name (Some y) f u e d = (y, e, sym (ap (λ r. leads_from S r f) e) ∙ d)

      at_p : sideB.A p ≡ node_p.2
      at_p = ap (λ b. unwrap_or (leads S b p.pointer) 0) (ap (λ o. unwrap_or o 0) node_p.3) ∙ ap (λ o. unwrap_or o 0) node_p.5

      leads_q : leads T node_p.1 q.pointer ≡ Some node_p.2
      leads_q =
          elim (cases_eq node_p.1 x) [
            | inr other ↦ step.lead node_p.1 q.pointer other ∙ node_p.6
            | inl same ↦
                let m = leaves_from (target F M k) F.names sideM.start q (outcome F M k at) (side_comes F M S T k isS isT readsM x step at below named vis_T quietM) outM in
                let w = part_named F M S T k isS isT readsM x step at below named vis_T quietM m.0 m.1 in
                let told = out_tells F M S T k isS isT readsM m.0 w.1.0 w.0 w.1.1 q m.2 in
                let at_y : w.1.0 ≡ node_p.1 = same_Some _ _ (sym w.1.1 ∙ ap S.named (sym told.0) ∙ node_p.4) in
                let at_x : w.1.0 ≡ x = at_y ∙ same in
                let lead_x : leads T x q.pointer ≡ Some told.2.0 = subst (λ b. leads T b q.pointer ≡ Some told.2.0) at_x told.2.1 in
                elim (step.written q.pointer told.2.0 told.1 lead_x) [
                  | inl old ↦
                      let u : told.2.0 ≡ node_p.2 = same_Some _ _ (sym old ∙ subst (λ b. leads S b q.pointer ≡ Some node_p.2) same node_p.6) in
                      subst (λ b. leads T b q.pointer ≡ Some node_p.2) (sym same) (lead_x ∙ ap Some u)
                  | inr new ↦ absurd (true≢false (sym (is_node_at told.2.1 new.2) ∙ told.3 new.0 new.1))
                ]
          ]

      at_q : sideM.A q ≡ node_p.2
      at_q = ap (λ b. unwrap_or (leads T b q.pointer) 0) (ap (λ o. unwrap_or o 0) node_p.4) ∙ ap (λ o. unwrap_or o 0) leads_q

      pub leavesB : LeavesB
      leavesB a p' path out =
          let d = out_decides (target F B k) F.names sideB.start (outcome F B k at) (side_comes F B S S k isS isS readsB x idle at below named vis quietB) (endless F B S S k isS isS readsB x idle at below named vis quietB) a p' path out in
          let c : Outcome.Leaves p ≡ Outcome.Leaves p' = sym outB ∙ d in
          let e : p ≡ p' = cc in
          subst (λ r. Path (walk H T k) x (sideB.A r)) e (subst (λ b. Path (walk H T k) x b) (at_q ∙ sym at_p) goodM)

      pub leavesM : LeavesM
      leavesM a q' path out =
          let d = out_decides (target F M k) F.names sideM.start (outcome F M k at) (side_comes F M S T k isS isT readsM x step at below named vis_T quietM) (endless F M S T k isS isT readsM x step at below named vis_T quietM) a q' path out in
          let c : Outcome.Leaves q ≡ Outcome.Leaves q' = sym outM ∙ d in
          let e : q ≡ q' = cc in
          subst (λ r. Path (walk H S k) x (sideM.A r)) e (subst (λ b. Path (walk H S k) x b) (at_p ∙ sym at_q) goodB)

      -- that node is not x
      apart : node_p.2 ≡ x → ⊥
      apart e =
          let none = (and_parts (is_some (Some node_p.2)) (not (some_below (λ j. is_node (Some node_p.2) (S.named j)) F.names)) node_p.7).1 in
          true≢false (sym (some_there (λ j. is_node (Some node_p.2) (S.named j)) F.names at below (is_node_at refl (named ∙ ap Some (sym e)))) ∙ not-true _ none)

      pub leave_ends : (b : ℕ) → EndsAt (walk H S k) S.heap.root.0 b → (b ≡ x → ⊥) × EndsAt (walk H T k) S.heap.root.0 b
      leave_ends b = same_end (walk H S k) (walk H T k) x S.heap.root.0 node_p.2 (step.agree k) met apart (subst (λ c. Path (walk H S k) x c) at_p goodB) (subst (λ c. Path (walk H T k) x c) at_q goodM) b

      pub leave_ends_T : (b : ℕ) → EndsAt (walk H T k) S.heap.root.0 b → (b ≡ x → ⊥) × EndsAt (walk H S k) S.heap.root.0 b
      leave_ends_T b = same_end (walk H T k) (walk H S k) x S.heap.root.0 node_p.2 (back k) met_T apart (subst (λ c. Path (walk H T k) x c) at_q goodM) (subst (λ c. Path (walk H S k) x c) at_p goodB) b
