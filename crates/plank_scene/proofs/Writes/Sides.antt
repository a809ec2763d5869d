-- One side of a write, the picture before or the mixed one: what its outcome, its passed names and its entered chains say
-- of the walk from the written node. The record of what a write leaves as it was.
use Rattle.std.proofs.Common.{◌≡◌, ◌⊎◌, ℕ, ◌<◌, ◌==◌, Bool, true, false, not, length, Option, Some, None, refl, sym, ◌∙◌, ap, subst, inl, inr}
use Rattle.std.specs.Prelude.{slice_get, unwrap_or, if◌then◌else◌}
use Rattle.std.proofs.lemmas.Bool.{true≢false, and_parts, and_from, lt-ltb}
use Rattle.std.proofs.lemmas.Option.{none-some, same_Some}
use Rattle.plank_base.specs.Paths.{Path, StaysBelow, AgreeOff, NeverEnds, after}
use Rattle.plank_prog.specs.declared.headers.Header.{Header}
use Rattle.plank_heap.specs.Walks.{walk_visits}
use Rattle.plank_pic.specs.declared.parts.KeyName.{KeyName}
use Rattle.plank_pic.specs.declared.parts.Target.{Target}
use Rattle.plank_pic.specs.declared.parts.Place.{Place}
use Rattle.plank_pic.specs.declared.parts.Part.{Part}
use Rattle.plank_pic.specs.Frames.{Frame}
use Rattle.plank_pic.specs.Below.{least_below}
use Rattle.plank_pic.specs.Pictures.{Picture, place, leads_to, chains_on, edge, target, pointer_target, outer_target, chain_target}
use Rattle.plank_pic.specs.Outcomes.{first_name, outcome, passes}
use Rattle.plank_pic.specs.Steps.{enters}
use Rattle.plank_pic.proofs.Below.{least_some}
use Rattle.plank_scene.specs.Scenes.{Scene, leads, is_fast_in, walk, stop_node, is_visited_ever}
use Rattle.plank_scene.specs.Worlds.{IsScene}
use Rattle.plank_scene.proofs.Scenes.Showing.{is_node_at, is_node_true, shown_says, shown_true}
use Rattle.plank_scene.proofs.Scenes.Paths.{visit_on}
use Rattle.plank_scene.proofs.Walks.Passing.{move_of, is_chained, move, Comes, comes, passed_path, path_passes, path_enters, cycle_never_ends}
use Rattle.plank_scene.proofs.Walks.Parts.{Setting, Right, IsSetting, Passed, Entered, passed_visited, good, Good}
use Rattle.plank_scene.proofs.Writes.Reading.{Reads, path_named}
use Rattle.plank_scene.proofs.Walks.Moving.{kept}
use Rattle.plank_scene.proofs.Writes.Rights.{setting, is_setting, right_name}

-- ---- targets are names

chain_below : (F : Frame) (i q : ℕ) (o r : Bool) → q < F.names → (m : ℕ) → move_of (if o then Target.Stops i q 0 else if r then Target.Stops i q 1 else Target.Jumps q) ≡ Some m → m < F.names
chain_below F i q true r h m d = absurd (none-some m d)
chain_below F i q false true h m d = absurd (none-some m d)
chain_below F i q false false h m d = subst (λ v. v < F.names) (same_Some q m d) h

module _ (F : Frame) (P : Picture) (k : KeyName) where
  outer_below : (i f : ℕ) (o : Option ℕ) → least_below (chains_on P i) F.names ≡ o → (m : ℕ) → move_of (elim o [ Some q ↦ chain_target P k i q | None ↦ Target.Out (place i f) ]) ≡ Some m → m < F.names
  outer_below i f None e m d = absurd (none-some m d)
  outer_below i f (Some q) e m d = chain_below F i q (P (Part.Picks k i q 0)) (P (Part.Picks k i q 1)) (least_some (chains_on P i) F.names q e).0 m d

  pointer_below : (i f : ℕ) (o : Option ℕ) → least_below (leads_to P (place i f)) F.names ≡ o → (m : ℕ) → move_of (elim o [ Some j ↦ Target.To j | None ↦ outer_target F P k i f ]) ≡ Some m → m < F.names
  pointer_below i f None e m d = outer_below i f (least_below (chains_on P i) F.names) refl m d
  pointer_below i f (Some j) e m d = subst (λ v. v < F.names) (same_Some j m d) (least_some (leads_to P (place i f)) F.names j e).0

  edge_below : (i : ℕ) (o : Option ℕ) (m : ℕ) → move_of (elim o [ Some f ↦ pointer_target F P k i f | None ↦ Target.Ends ]) ≡ Some m → m < F.names
  edge_below i None m d = absurd (none-some m d)
  edge_below i (Some f) m d = pointer_below i f (least_below (leads_to P (place i f)) F.names) refl m d

  pub target_stays : StaysBelow (move (target F P k)) F.names
  target_stays i m below d = edge_below i (edge F.header P k i) m d

-- the scene after a write of the node x
pub record IsStep (F : Frame) (S T : Scene) (x : ℕ) : Type 0 where
  pub stops : (k : KeyName) (s : ℕ) → stop_node F.header T k s ≡ stop_node F.header S k s
  pub ever : (k : KeyName) (y : ℕ) → is_visited_ever F.header T k y ≡ is_visited_ever F.header S k y
  pub root : T.heap.root.0 ≡ S.heap.root.0
  pub walked : T.walked ≡ S.walked
  pub nodes : (b : ℕ) → (b ≡ x → ⊥) → slice_get T.heap.nodes b ≡ slice_get S.heap.nodes b
  pub agree : (k : KeyName) → AgreeOff (walk F.header S k) (walk F.header T k) x
  pub lead : (b f : ℕ) → (b ≡ x → ⊥) → leads T b f ≡ leads S b f
  pub fast : (b : ℕ) → (b ≡ x → ⊥) → is_fast_in F.header S b ≡ true → is_fast_in F.header T b ≡ true
  -- a written pointer is null or leads to a named node
  pub written : (f a : ℕ) → f < length F.header.pointers → leads T x f ≡ Some a → (leads S x f ≡ Some a) ⊎ ((j : ℕ) × (j < F.names) × (S.named j ≡ Some a))

-- ---- one side of a step: the picture before, or the mixed one

module _ (F : Frame) (P : Picture) (S U : Scene) (k : KeyName) (isS : IsScene F S) (isU : IsScene F U) (reads : Reads F P S U k)
    (x : ℕ) (step : IsStep F S U x) (at : ℕ) (below : at < F.names) (named : S.named at ≡ Some x)
    (vis : walk_visits F.header U.heap (U.walked k) x ≡ true) (quiet : (is_fast_in F.header S x ≡ false) ⊎ (enters F P k at ≡ false)) where
  abbrev H : Header
  H = F.header

  abbrev pub start : ℕ
  start = first_name F P at

  start_found : (o : Option ℕ) → least_below (λ j. P (Part.Same at j)) F.names ≡ o → (unwrap_or o at < F.names) × (S.named (unwrap_or o at) ≡ Some x)
  start_found None e = (below, named)
  start_found (Some j) e =
      let found = least_some (λ j. P (Part.Same at j)) F.names j e in
      let w = is_node_true (S.named at) (S.named j) (shown_true F S (Part.Same at j) (sym (reads.same at j) ∙ found.1)).1 in
      (found.0, w.2 ∙ ap Some (same_Some _ _ (sym w.1 ∙ named)))

  pub start_is : (start < F.names) × (S.named start ≡ Some x)
  start_is = start_found (least_below (λ j. P (Part.Same at j)) F.names) refl

  abbrev pub side : Setting
  side = setting F P S U k isS isU reads x (step.stops k) (step.ever k) (step.agree k) (λ b. step.lead b 0) start

  pub is_side : IsSetting side
  is_side = is_setting F P S U k isS isU reads x (step.stops k) (step.ever k) (step.agree k) (λ b. step.lead b 0) start (ap (λ o. unwrap_or o 0) start_is.1)

  pub part_named : (i : ℕ) → Path (move (target F P k)) start i → (i < F.names) × ((y : ℕ) × (S.named i ≡ Some y))
  part_named i p = path_named F P S U k isS isU reads start i (start_is.0, (x, start_is.1)) p

  no_chain : (i : ℕ) → Path (move (target F P k)) start i → is_chained (target F P k i) ≡ true → is_fast_in H S x ≡ false
  no_chain i p c = elim quiet [
    | inl nf ↦ nf
    | inr calm ↦ absurd (true≢false (sym (path_enters (target F P k) F.names (target_stays F P k) start start_is.0 i p c) ∙ calm))
  ]

  pub side_right : (i : ℕ) → Path (move (target F P k)) start i → Path (walk H U k) x (side.N i) → Right side i (target F P k i)
  side_right i p q =
      let w = part_named i p in
      let same : side.N i ≡ w.1.0 = ap (λ o. unwrap_or o 0) w.1.1 in
      right_name F P S U k isS isU reads x (step.stops k) (step.ever k) (step.agree k) (λ b. step.lead b 0) start i w.1.0 w.0 w.1.1
      (visit_on H U isU.owned k x w.1.0 vis (subst (λ b. Path (walk H U k) x b) same q)) (no_chain i p)

  pub side_comes : Comes (target F P k) F.names start (outcome F P k at)
  side_comes = comes (target F P k) F.names start

  pub endless : (c : ℕ) → after (move (target F P k)) F.names start ≡ Some c → NeverEnds (move (target F P k)) start
  endless = cycle_never_ends (target F P k) F.names (target_stays F P k) start start_is.0

  pub side_good : Good side is_side side_right (outcome F P k at)
  side_good = good side is_side side_right F.names (outcome F P k at) side_comes endless

  -- a passed node is passed in the picture
  pub passed_name : (i b : ℕ) → i < F.names → S.named i ≡ Some b → Passed side b → passes F P k at i ≡ true
  passed_name i b h e w =
      let v = part_named w.0 w.1 in
      let same : v.1.0 ≡ b = sym (ap (λ o. unwrap_or o 0) v.1.1) ∙ sym w.2 in
      path_passes (target F P k) F.names (target_stays F P k) start start_is.0 (λ m. P (Part.Same m i)) w.0 w.1
      (reads.same w.0 i ∙ shown_says F S (Part.Same w.0 i) (and_from _ _ (lt-ltb w.0 F.names v.0) (lt-ltb i F.names h)) ∙ is_node_at (v.1.1 ∙ ap Some same) e)

  -- and what the picture passes is visited
  pub name_passed : (i b : ℕ) → S.named i ≡ Some b → passes F P k at i ≡ true → walk_visits H U.heap (U.walked k) b ≡ true
  name_passed i b e pass =
      let w = passed_path (target F P k) (λ m. P (Part.Same m i)) F.names start pass in
      let told = is_node_true (S.named w.0) (S.named i) (shown_true F S (Part.Same w.0 i) (sym (reads.same w.0 i) ∙ w.2)).1 in
      let same : side.N w.0 ≡ b = ap (λ o. unwrap_or o 0) told.1 ∙ same_Some _ _ (sym told.2 ∙ e) in
      visit_on H U isU.owned k x b vis (subst (λ c. Path (walk H U k) x c) same (passed_visited side is_side side_right w.0 w.1))

  pub entered_name : (b : ℕ) → Entered side b → (enters F P k at ≡ true) × (is_fast_in H S b ≡ true)
  entered_name b w =
      (path_enters (target F P k) F.names (target_stays F P k) start start_is.0 w.0 w.1 w.2, (and_parts (is_fast_in H S b) (not (b == x)) w.3).0)

  -- what this walk visits the other one visits, but for the part and the insides of chains
  pub side_kept : (V : Scene) → AgreeOff (walk H U k) (walk H V k) x → ((a : ℕ) (p : Place) → Path (move (target F P k)) start a → target F P k a ≡ Target.Out p → Path (walk H V k) x (side.A p)) → (root b : ℕ) → Path (walk H U k) root b → Path (walk H V k) root b ⊎ (Passed side b ⊎ Entered side b)
  side_kept V agree leaves root b p = kept side is_side side_right (walk H V k) agree root leaves b p
