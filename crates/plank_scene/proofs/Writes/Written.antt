-- A write of a world, seen by pictures, is a write of the picture.
use Rattle.std.proofs.Common.{◌≡◌, ◌⊎◌, ℕ, zero, suc, ◌<◌, ◌==◌, Bool, true, false, not, List, length, Option, Some, None, refl, sym, ◌∙◌, ap, subst, inl, inr, arith}
use Rattle.std.specs.Prelude.{◌&&◌, ◌||◌, nat_lt, slice_get, is_none, option_map, option_and_then}
use Rattle.std.specs.Option.{option_map_or, option_flatten}
use Rattle.std.proofs.lemmas.Bool.{and_left, true≢false, and_parts, and_from, or_left, and_right, cases_Bool, lt-ltb, ltb-true, cond-true, cond-false, not-true, or_cases}
use Rattle.std.proofs.lemmas.Option.{none-some}
use Rattle.plank_base.specs.declared.keys.NodeId.{NodeId}
use Rattle.plank_base.specs.Paths.{here}
use Rattle.plank_prog.specs.declared.headers.Header.{Header}
use Rattle.plank_prog.specs.Views.{is_frozen, is_bit_set}
use Rattle.plank_heap.specs.declared.nodes.Node.{Node}
use Rattle.plank_heap.specs.declared.heaps.Heap.{Heap}
use Rattle.plank_heap.specs.Walks.{next_from, walk_visits}
use Rattle.plank_pic.specs.declared.parts.KeyName.{KeyName}
use Rattle.plank_pic.specs.declared.parts.Part.{Part}
use Rattle.plank_pic.specs.Frames.{Frame}
use Rattle.plank_pic.specs.Below.{some_below}
use Rattle.plank_pic.specs.Pictures.{Picture, is_fast, is_picked, is_picked_from, picks_from}
use Rattle.plank_pic.specs.Lawful.{part_fits, slot_count, place_fits}
use Rattle.plank_pic.specs.Steps.{movement, agrees_with, Change, mixed, leads_there, IsWrite, written, flag_of_stop_after, is_published, spent_after, chain_after, pick_after}
use Rattle.plank_pic.proofs.Below.{some_found, none_there}
use Rattle.plank_scene.specs.Scenes.{is_mine_in, Scene, node_at, leads, is_node, is_fast_in, is_shared_in, stop_node, is_visited_ever, on, shown}
use Rattle.plank_scene.specs.Worlds.{IsScene}
use Rattle.plank_scene.specs.Writes.{new_lead, IsWritten, value_node, with_heap}
use Rattle.plank_scene.proofs.Scenes.Showing.{on_at, is_node_true, shown_says, shown_true}
use Rattle.plank_scene.proofs.Scenes.Paths.{fast_step}
use Rattle.plank_scene.proofs.Scenes.Chains.{fast_name, pick_stop, chain_shown, slots_few}
use Rattle.plank_scene.proofs.Writes.Reading.{Reads}
use Rattle.plank_scene.proofs.Writes.Sides.{IsStep}
use Rattle.plank_scene.proofs.Writes.Bits.{agree_with}
use Rattle.plank_scene.proofs.Writes.Staying.{chain_kept, picks_kept}
use Rattle.plank_scene.proofs.Writes.Clauses.{moves_so, Clauses}
use Rattle.plank_scene.proofs.Writes.Fields.{mixed_reads, shown_reads, null_after, leads_after, beyond_after, flag_after, locked_after, mine_after, others_after, order_after, meet_after}
use Rattle.plank_scene.proofs.Scenes.Pictured.{no_node}

module _ (F : Frame) (S : Scene) (heap : Heap) (owners : List (Option ℕ)) (spent : Bool) (c : Change) (x : ℕ)
    (isS : IsScene F S) (isT : IsScene F (with_heap S heap owners spent)) (is : IsWritten F S heap owners spent c x)
    (nodes : (b : ℕ) → (b ≡ x → ⊥) → slice_get heap.nodes b ≡ slice_get S.heap.nodes b) (root : heap.root.0 ≡ S.heap.root.0)
    (before : S.heap ≡ S.before) (after_it : heap ≡ S.after)
    (shares : (y : ℕ) → is_shared_in (with_heap S heap owners spent) y ≡ (is_shared_in S y || (not (y == x) && some_below (λ f. is_node (value_node S (c.pointer f)) (Some y)) (length F.header.pointers))))
    (spends : spent ≡ spent_after (shown F S) (shown F (with_heap S heap owners spent)) c.own) where
  abbrev H : Header
  H = F.header

  abbrev T : Scene
  T = with_heap S heap owners spent

  abbrev B : Picture
  B = shown F S

  abbrev W : Picture
  W = shown F T

  abbrev M : Picture
  M = mixed B c

  lead_cases : (o : Option (Option ℕ)) (old : Option ℕ) (a : ℕ) → ((v : ℕ) → o ≡ Some (Some v) → v < F.names) → new_lead S o old ≡ Some a → (old ≡ Some a) ⊎ ((j : ℕ) × (j < F.names) × (S.named j ≡ Some a))
  lead_cases None old a h e = inl e
  lead_cases (Some None) old a h e = absurd (none-some a e)
  lead_cases (Some (Some v)) old a h e = inr (v, h v refl, e)

  same_fast : (b : ℕ) → (b ≡ x → ⊥) → is_fast_in H S b ≡ true → is_fast_in H T b ≡ true
  same_fast b other e =
      let w = and_parts (is_shared_in S b) (is_frozen H (node_at S b).key (node_at S b).flags) e in
      and_from _ _ (shares b ∙ or_left _ _ w.0) (ap (λ (z : Node). is_frozen H z.key z.flags) (is.elsewhere b other) ∙ w.1)

  pub step : IsStep F S T x
  step = record {
    stops = λ k s. by_slot k s;
    ever = λ k y. refl;
    root = root;
    walked = refl;
    nodes = nodes;
    agree = λ k a other. ap (option_and_then (next_from H (S.walked k))) (sym (nodes a other));
    lead = λ b f other. ap (λ (z : Node). option_map (λ (to : NodeId). to.0) (option_flatten (slice_get z.pointers f))) (is.elsewhere b other);
    fast = same_fast;
    written = λ f a few e. lead_cases (c.pointer f) (leads S x f) a (λ v d. is.values f v d) (sym (is.pointer f few) ∙ e);
  }
    where
      by_slot : (k : KeyName) (s : ℕ) → stop_node H T k s ≡ stop_node H S k s
      by_slot k zero = refl
      by_slot k (suc s) = refl

  seen : (k : KeyName) (y : ℕ) → is_visited_ever H S k y ≡ true → (walk_visits H S.heap (S.walked k) y ≡ true) ⊎ (walk_visits H heap (S.walked k) y ≡ true)
  seen k y e = elim (or_cases (walk_visits H S.before (S.walked k) y) (walk_visits H S.after (S.walked k) y) e) [
    | inl v ↦ inl (subst (λ (G : Heap). walk_visits H G (S.walked k) y ≡ true) (sym before) v)
    | inr v ↦ inr (subst (λ (G : Heap). walk_visits H G (S.walked k) y ≡ true) (sym after_it) v)
  ]

  pub readsB : (k : KeyName) → Reads F B S S k
  readsB k = shown_reads F S isS k

  pub readsM : (k : KeyName) → Reads F M S T k
  readsM k = mixed_reads F S heap owners spent c x is isS k

  moves : (k : KeyName) → Clauses F S T k isS isT x c.at is.below is.named step refl M (readsB k) (readsM k) (seen k) (movement F B M k c.at)
  moves k = moves_so F S T k isS isT x c.at is.below is.named step refl M (readsB k) (readsM k) (seen k)

  fast_at : is_fast H B c.at ≡ is_fast_in H S x
  fast_at = fast_name F S isS c.at x is.below is.named

  -- ---- chains

  chain_so : (i j : ℕ) → i < F.names → j < F.names → agrees_with (chain_after F B c i j) (W (Part.Chain i j)) ≡ true
  chain_so i j bi bj =
      elim (cases_Bool (B (Part.Same i j) || (B (Part.Chain i j) && not (is_fast H B c.at)))) [
        | inr free ↦ ap (λ v. agrees_with v (W (Part.Chain i j))) (cond-false _ (Some true) None free)
        | inl so ↦ agree_with (cond-true _ (Some true) None so) (sym (elim (or_cases (B (Part.Same i j)) (B (Part.Chain i j) && not (is_fast H B c.at)) so) [
          | inl same ↦
              let w = is_node_true (S.named i) (S.named j) (shown_true F S (Part.Same i j) same).1 in
              chain_shown F T isT i j w.0 w.0 bi bj w.1 w.2 here
          | inr old ↦
              let w = and_parts (B (Part.Chain i j)) (not (is_fast H B c.at)) old in
              chain_kept F S T KeyName.Own isS isT x step refl M (readsM KeyName.Own) (sym fast_at ∙ not-true _ w.1) i j bi bj w.0
        ]))
      ]

  pick_so : (k : KeyName) (i j s : ℕ) → part_fits F (Part.Picks k i j s) ≡ true → agrees_with (pick_after F B c k i j s) (W (Part.Picks k i j s)) ≡ true
  pick_so k i j s fits =
      elim (cases_Bool (B (Part.Chain i j) && not (is_fast H B c.at))) [
        | inr free ↦ ap (λ v. agrees_with v (W (Part.Picks k i j s))) (cond-false _ (Some (B (Part.Picks k i j s))) None free)
        | inl old ↦
            let w = and_parts (B (Part.Chain i j)) (not (is_fast H B c.at)) old in
            agree_with (cond-true _ (Some (B (Part.Picks k i j s))) None old)
            (picks_kept F S T k isS isT x step refl M (readsM k) (sym fast_at ∙ not-true _ w.1) i j s fits w.0)
      ]

  -- the flags of a stop node that some chain has
  stop_flag_so : (k : KeyName) (s f : ℕ) → s < slot_count F → part_fits F (Part.StopFlag k s f) ≡ true → agrees_with (flag_of_stop_after F B c k s f) (W (Part.StopFlag k s f)) ≡ true
  stop_flag_so k s f few fits =
      elim (cases_Bool (is_picked F B k s && not (is_fast H B c.at))) [
        | inr free ↦ ap (λ v. agrees_with v (W (Part.StopFlag k s f))) (cond-false _ (Some (B (Part.StopFlag k s f))) None free)
        | inl so ↦
            let w = and_parts (is_picked F B k s) (not (is_fast H B c.at)) so in
            let a = some_found (is_picked_from F B k s) F.names w.0 in
            let b = some_found (picks_from B k s a.0) F.names a.2 in
            let two : s < 2 = (let le = slots_few F S isS in omega arith) in
            let stop = pick_stop F S isS k a.0 b.0 s two b.2 in
            let quick = (fast_step H S isS.owned stop.0 stop.3.0 stop.3.1).1 in
            let other : stop.0 ≡ x → ⊥ = λ e. true≢false (sym quick ∙ ap (is_fast_in H S) e ∙ sym fast_at ∙ not-true _ w.1) in
            agree_with (cond-true _ (Some (B (Part.StopFlag k s f))) None so)
            (shown_says F S (Part.StopFlag k s f) fits ∙ on_at (λ y. is_bit_set (node_at S y).flags f) stop.1
            ∙ ap (λ (z : Node). is_bit_set z.flags f) (sym (is.elsewhere stop.0 other))
            ∙ sym (shown_says F T (Part.StopFlag k s f) fits ∙ on_at (λ y. is_bit_set (node_at T y).flags f) (step.stops k s ∙ stop.1)))
      ]

  -- ---- sharing

  value_is : (o : Option (Option ℕ)) (i y : ℕ) → i < F.names → S.named i ≡ Some y → ((v : ℕ) → o ≡ Some (Some v) → v < F.names) → option_map_or (λ to. leads_there B to i) o false ≡ is_node (value_node S o) (Some y)
  value_is None i y h e v = refl
  value_is (Some None) i y h e v = refl
  value_is (Some (Some u)) i y h e v = shown_says F S (Part.Same u i) (and_from _ _ (lt-ltb u F.names (v u refl)) (lt-ltb i F.names h)) ∙ ap (is_node (S.named u)) e

  no_value : (o : Option (Option ℕ)) (i : ℕ) → S.named i ≡ None → option_map_or (λ to. leads_there B to i) o false ≡ false
  no_value None i e = refl
  no_value (Some None) i e = refl
  no_value (Some (Some u)) i e = and_right (part_fits F (Part.Same u i)) (is_node (S.named u) (S.named i)) (ap (is_node (S.named u)) e ∙ no_node (S.named u))

  share_so : (i : ℕ) → i < F.names → (B (Part.Shared i) || is_published F B c i) ≡ W (Part.Shared i)
  share_so i h = cases (S.named i) refl
    where
      cases : (o : Option ℕ) → S.named i ≡ o → (B (Part.Shared i) || is_published F B c i) ≡ W (Part.Shared i)
      cases None e =
          ap (λ b. b || is_published F B c i) (shown_says F S (Part.Shared i) (lt-ltb i F.names h) ∙ ap (on (is_shared_in S)) e)
          ∙ and_right (not (B (Part.Same i c.at))) _ (none_there (λ f. option_map_or (λ to. leads_there B to i) (c.pointer f) false) (length H.pointers) (λ f few. no_value (c.pointer f) i e))
          ∙ sym (shown_says F T (Part.Shared i) (lt-ltb i F.names h) ∙ ap (on (is_shared_in T)) e)
      cases (Some y) e =
          ap (λ b. b || is_published F B c i) (shown_says F S (Part.Shared i) (lt-ltb i F.names h) ∙ on_at (is_shared_in S) e)
          ∙ ap (λ b. is_shared_in S y || (not b && some_below (λ f. option_map_or (λ to. leads_there B to i) (c.pointer f) false) (length H.pointers)))
          (shown_says F S (Part.Same i c.at) (and_from _ _ (lt-ltb i F.names h) (lt-ltb c.at F.names is.below)) ∙ ap (λ r. is_node r (S.named c.at)) e ∙ ap (is_node (Some y)) is.named)
          ∙ ap (λ (t : ℕ → Bool). is_shared_in S y || (not (y == x) && some_below t (length H.pointers))) (λ i'. λ f. value_is (c.pointer f) i y h e (λ v d. is.values f v d) i')
          ∙ sym (shares y)
          ∙ sym (shown_says F T (Part.Shared i) (lt-ltb i F.names h) ∙ on_at (is_shared_in T) e)

  -- what is published is nobody's own any more
  apart_from : (m a p : Bool) → (m && not a && not p) ≡ (m && not (a || p))
  apart_from true true p = refl
  apart_from true false p = refl
  apart_from false a p = refl

  mine_so : (i : ℕ) → i < F.names → (B (Part.Mine i) && not (is_published F B c i)) ≡ W (Part.Mine i)
  mine_so i h = cases (S.named i) refl
    where
      fits : nat_lt i F.names ≡ true
      fits = lt-ltb i F.names h

      cases : (o : Option ℕ) → S.named i ≡ o → (B (Part.Mine i) && not (is_published F B c i)) ≡ W (Part.Mine i)
      cases None e = and_left _ _ (shown_says F S (Part.Mine i) fits ∙ ap (on (is_mine_in S)) e) ∙ sym (shown_says F T (Part.Mine i) fits ∙ ap (on (is_mine_in T)) e)
      cases (Some y) e =
          ap (λ b. b && not (is_published F B c i)) (shown_says F S (Part.Mine i) fits ∙ on_at (is_mine_in S) e)
          ∙ apart_from (S.mine y) (is_shared_in S y) (is_published F B c i)
          ∙ ap (λ b. S.mine y && not (b || is_published F B c i)) (sym (shown_says F S (Part.Shared i) fits ∙ on_at (is_shared_in S) e))
          ∙ ap (λ b. S.mine y && not b) (share_so i h ∙ shown_says F T (Part.Shared i) fits ∙ on_at (is_shared_in T) e)
          ∙ sym (shown_says F T (Part.Mine i) fits ∙ on_at (is_mine_in T) e)

  -- ---- the whole

  parts_so : (part : Part) → part_fits F part ≡ true → agrees_with (written F B c part) (W part) ≡ true
  parts_so (Part.Null i) fits = agree_with refl refl
  parts_so (Part.Same i j) fits = agree_with refl refl
  parts_so (Part.Flag i f) fits = let w = and_parts _ _ fits in agree_with refl (flag_after F S heap owners spent c x is i f (ltb-true _ _ w.0) (ltb-true _ _ w.1))
  parts_so (Part.Shared i) fits = agree_with refl (share_so i (ltb-true _ _ fits))
  parts_so (Part.Mine i) fits = agree_with refl (mine_so i (ltb-true _ _ fits))
  parts_so (Part.Locked i) fits = agree_with refl (locked_after F S heap owners spent c x is i fits)
  parts_so (Part.LockMine i) fits = agree_with refl (mine_after F S heap owners spent c x is i fits)
  parts_so (Part.LockOthers i) fits = agree_with refl (others_after F S heap owners spent c x is i fits)
  parts_so (Part.PointerNull p) fits = agree_with refl (null_after F S heap owners spent c x is p fits)
  parts_so (Part.Beyond p) fits = agree_with refl (beyond_after F S heap owners spent c x is p fits)
  parts_so (Part.Leads p j) fits = let w = and_parts (place_fits F p) (nat_lt j F.names) fits in agree_with refl (leads_after F S heap owners spent c x is p j w.0 (ltb-true _ _ w.1))
  parts_so (Part.SameBeyond p q) fits = let w = and_parts (place_fits F p) (place_fits F q) fits in agree_with refl (meet_after F S heap owners spent c x is p q w.0 w.1)
  parts_so (Part.AtMost s t) fits = agree_with refl (order_after F S heap owners spent c x is s t)
  parts_so (Part.Visits k i) fits = (moves k).0 i (ltb-true _ _ fits)
  parts_so (Part.InSet k) fits = (moves k).1
  parts_so Part.Spent fits = refl
  parts_so (Part.Chain i j) fits = let w = and_parts (nat_lt i F.names) (nat_lt j F.names) fits in chain_so i j (ltb-true _ _ w.0) (ltb-true _ _ w.1)
  parts_so (Part.Picks k i j s) fits = pick_so k i j s fits
  parts_so (Part.StopFlag k s f) fits = let w = and_parts (nat_lt s (slot_count F)) _ fits in stop_flag_so k s f (ltb-true _ _ w.0) fits
  parts_so (Part.StopVisited k s) fits = (moves k).2 s (ltb-true _ _ fits)

  -- a write of a node, seen by the picture, is a write of the picture
  pub write_shown : IsWrite F c B W
  write_shown = record {
    at = shown_says F S (Part.Null c.at) (lt-ltb c.at F.names is.below) ∙ ap is_none is.named;
    parts = parts_so;
    spent = spends;
  }
