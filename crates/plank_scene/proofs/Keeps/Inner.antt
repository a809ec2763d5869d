-- A node without a name that lies on a chain which one side of a write enters: its view is one that the obligation on keeps
-- inside chains speaks of.
use Rattle.std.proofs.Common.{◌≡◌, ◌⊎◌, ℕ, ◌<◌, ◌==◌, Bool, true, false, not, List, [], ◌∷◌, map, length, Option, Some, None, refl, sym, ◌∙◌, ap, subst, inl, inr, arith}
use Rattle.std.specs.Prelude.{slice_get, is_none, unwrap_or, if◌then◌else◌}
use Rattle.std.specs.Option.{option_map_or}
use Rattle.std.proofs.lemmas.Bool.{false≢true, and_parts, and_from, or_left, or_right, cases_Bool, eqb-true, eq-eqb, lt-ltb, cond-true, cond-false, cases_eq}
use Rattle.std.proofs.lemmas.Option.{none-some, same_Some, option_and_then_some}
use Rattle.plank_base.specs.declared.keys.Key.{Key}
use Rattle.plank_base.specs.declared.keys.NodeId.{NodeId}
use Rattle.plank_base.specs.Keys.{is_at_most, is_less}
use Rattle.plank_base.specs.Paths.{Path, here, onward}
use Rattle.plank_base.proofs.Paths.{chain_law, one_end}
use Rattle.plank_base.proofs.KeyOrder.{total_keys, transitive_keys, min_at_most, at_most_max}
use Rattle.plank_prog.specs.declared.conditions.KeyTerm.{KeyTerm}
use Rattle.plank_prog.specs.declared.headers.Header.{Header}
use Rattle.plank_prog.specs.declared.headers.KeyOrder.{KeyOrder}
use Rattle.plank_prog.specs.declared.headers.Pointer.{Pointer}
use Rattle.plank_prog.specs.Conditions.{View}
use Rattle.plank_prog.specs.Views.{admits}
use Rattle.plank_heap.specs.declared.nodes.Node.{Node}
use Rattle.plank_heap.specs.Heaps.{view_of_node}
use Rattle.plank_heap.specs.Walks.{next_from, first_admitted, walk_visits}
use Rattle.plank_pic.specs.declared.parts.KeyName.{KeyName}
use Rattle.plank_pic.specs.declared.parts.Part.{Part}
use Rattle.plank_pic.specs.Frames.{Frame}
use Rattle.plank_pic.specs.declared.parts.Target.{Target}
use Rattle.plank_pic.specs.Below.{least_below}
use Rattle.plank_pic.specs.Pictures.{Picture, place, chains_on, leads_to, edge, target, pointer_target, outer_target, chain_target}
use Rattle.plank_pic.specs.Lawful.{order_of}
use Rattle.plank_pic.specs.Steps.{enters}
use Rattle.plank_pic.specs.Keeps.{chain_of, enters_chain, Placed, placed_order, lies_between, IsInner}
use Rattle.plank_pic.proofs.Below.{least_some}
use Rattle.plank_scene.specs.Scenes.{Scene, node_at, leads, is_shared_in, is_fast_in, fast_next, walk, is_chain, stop_of, stop_node, is_in_slot, is_visited_ever, is_nameless, key_in, shown}
use Rattle.plank_scene.specs.Worlds.{IsScene, in_order}
use Rattle.plank_scene.proofs.Scenes.Edges.{lead_at}
use Rattle.plank_scene.proofs.Scenes.Showing.{is_node_at, implies, shown_says, key_named, node_found}
use Rattle.plank_scene.proofs.Scenes.Paths.{chain_path, fast_step, stop_found, in_slot_node}
use Rattle.plank_scene.proofs.Scenes.Views.{IsViewOf, frozen_value}
use Rattle.plank_scene.proofs.Scenes.Targets.{chain_follows, first_of_chain, no_slot}
use Rattle.plank_scene.proofs.Scenes.Chains.{picks_named}
use Rattle.plank_scene.proofs.Writes.Reading.{Reads, chain_end_named}
use Rattle.plank_scene.proofs.Writes.Bits.{stops_tell}
use Rattle.plank_scene.proofs.Writes.Rights.{along_walk}
use Rattle.plank_scene.proofs.Walks.Passing.{is_chained, path_passes}
use Rattle.plank_scene.proofs.Walks.Parts.{EndOf, Entered}
use Rattle.plank_scene.proofs.Scenes.Pictured.{order_shown}
use Rattle.plank_scene.proofs.Scenes.Orderly.{order_then, chain_ordered}
use Rattle.plank_scene.proofs.Writes.Sides.{IsStep, target_stays, start, start_is, side, part_named}

-- ---- the chain that a target enters

module _ (F : Frame) (P : Picture) (k : KeyName) (a : ℕ) where
  abbrev Chained : Target → Type 0
  Chained t = is_chained t ≡ true → (q : ℕ) × (chain_of t ≡ Some q) × (q < F.names) × (chains_on P a q ≡ true)

  chain_enters : (q : ℕ) → q < F.names → chains_on P a q ≡ true → Chained (chain_target P k a q)
  chain_enters q bq on c = (q, either (P (Part.Picks k a q 0)) (P (Part.Picks k a q 1)), bq, on)
    where
      either : (b d : Bool) → chain_of (if b then Target.Stops a q 0 else if d then Target.Stops a q 1 else Target.Jumps q) ≡ Some q
      either true d = refl
      either false true = refl
      either false false = refl

  outer_enters : (f : ℕ) (o : Option ℕ) → least_below (chains_on P a) F.names ≡ o → Chained (elim o [ Some q ↦ chain_target P k a q | None ↦ Target.Out (place a f) ])
  outer_enters f None e c = absurd (false≢true c)
  outer_enters f (Some q) e c = let w = least_some (chains_on P a) F.names q e in chain_enters q w.0 w.1 c

  pointer_enters : (f : ℕ) (o : Option ℕ) → Chained (elim o [ Some j ↦ Target.To j | None ↦ outer_target F P k a f ])
  pointer_enters f (Some j) c = absurd (false≢true c)
  pointer_enters f None c = outer_enters f (least_below (chains_on P a) F.names) refl c

  edge_enters : (o : Option ℕ) → Chained (elim o [ Some f ↦ pointer_target F P k a f | None ↦ Target.Ends ])
  edge_enters None c = absurd (false≢true c)
  edge_enters (Some f) c = pointer_enters f (least_below (leads_to P (place a f)) F.names) c

  pub target_enters : Chained (target F P k a)
  target_enters c = edge_enters (edge F.header P k a) c

-- a walk goes through the one pointer
one_lead : (adm : Pointer → Bool) (ps : List Pointer) (ts : List (Option NodeId)) (m : ℕ) → length ps ≡ 1 → first_admitted adm ps ts ≡ Some m → lead_at ts 0 ≡ Some m
one_lead adm [] ts m one e = absurd (none-some m e)
one_lead adm (p ∷ q ∷ ps) ts m one e = absurd (omega (arith, one))
one_lead adm (p ∷ []) [] m one e = absurd (none-some m e)
one_lead adm (p ∷ []) (None ∷ ts) m one e = absurd (none-some m e)
one_lead adm (p ∷ []) (Some to ∷ ts) m one e = elim (cases_Bool (adm p)) [
  | inl c ↦ sym (cond-true (adm p) (Some to.0) None c) ∙ e
  | inr c ↦ absurd (none-some m (sym (cond-false (adm p) (Some to.0) None c) ∙ e))
]

pub walk_lead : (F : Frame) (U : Scene) → IsScene F U → (k : KeyName) → length F.header.pointers ≡ 1 → (a m : ℕ) → walk F.header U k a ≡ Some m → leads U a 0 ≡ Some m
walk_lead F U isU k one a m e =
    option_and_then_some (next_from F.header (U.walked k)) (slice_get U.heap.nodes a) m e (λ node found goes.
    ap (λ (n : Node). lead_at n.pointers 0) (node_found U a node found)
    ∙ one_lead (λ p. admits p node.key node.flags (U.walked k)) F.header.pointers node.pointers m one goes)

-- keys are in order along walks, where there is one pointer
module _ (F : Frame) (U : Scene) (isU : IsScene F U) (k : KeyName) (one : length F.header.pointers ≡ 1)
    (ordered : (y f z : ℕ) → leads U y f ≡ Some z → in_order (order_of F f) (node_at U y).key (node_at U z).key ≡ true) where
  path_ordered : (a b : ℕ) → Path (walk F.header U k) a b → (a ≡ b) ⊎ (in_order (order_of F 0) (node_at U a).key (node_at U b).key ≡ true)
  path_ordered a b here = inl refl
  path_ordered a b (onward {m} e p) =
      let first = ordered a 0 m (walk_lead F U isU k one a m e) in
      inr (elim (path_ordered m b p) [
        | inl same ↦ subst (λ z. in_order (order_of F 0) (node_at U a).key (node_at U z).key ≡ true) same first
        | inr rest ↦ order_then (order_of F 0) (node_at U a).key (node_at U m).key (node_at U b).key first rest
      ])

  pub walk_ordered : (a b : ℕ) → Path (walk F.header U k) a b → (a ≡ b → ⊥) → in_order (order_of F 0) (node_at U a).key (node_at U b).key ≡ true
  walk_ordered a b p other = elim (path_ordered a b p) [ inl same ↦ absurd (other same) | inr e ↦ e ]

-- the stop node that a chain picks lies on the chain, before its end
pub stop_before : (F : Frame) (S : Scene) → IsScene F S → (k : KeyName) (i j s : ℕ) → s < 2 → shown F S (Part.Picks k i j s) ≡ true → (z y : ℕ) × (stop_node F.header S k s ≡ Some z) × (S.named j ≡ Some y) × Path (fast_next F.header S) z y × (z ≡ y → ⊥) × ((t : ℕ) × (fast_next F.header S z ≡ Some t))
stop_before F S isS k i j s two e =
    let w = picks_named F S isS k i j s e in
    let p4 = and_parts _ (is_in_slot F.header S k (stop_of F.header S k w.0 w.1) s) w.4 in
    let p3 = and_parts _ (is_visited_ever F.header S k w.0) p4.0 in
    let p2 = and_parts _ (is_nameless F S (leads S w.0 0)) p3.0 in
    let p1 = and_parts (is_chain F.header S w.0 w.1) (not (w.0 == w.1)) p2.0 in
    of_stop w.0 w.1 w.3 (chain_path F.header S isS.owned w.0 w.1 p1.0) (stop_of F.header S k w.0 w.1) refl p4.1
  where
    of_stop : (x y : ℕ) → S.named j ≡ Some y → Path (fast_next F.header S) x y → (o : Option ℕ) → stop_of F.header S k x y ≡ o → is_in_slot F.header S k o s ≡ true → (z y : ℕ) × (stop_node F.header S k s ≡ Some z) × (S.named j ≡ Some y) × Path (fast_next F.header S) z y × (z ≡ y → ⊥) × ((t : ℕ) × (fast_next F.header S z ≡ Some t))
    of_stop x y nj p None stop slot = absurd (no_slot F.header S k s slot)
    of_stop x y nj p (Some z) stop slot =
        let found = stop_found F.header S isS.owned k x y z stop in
        elim (chain_law (chain_follows F S isS k) p) [
          | inl q ↦ absurd (found.1.0 q)
          | inr r ↦
              let same : r.0 ≡ z = one_end r.1.0 r.1.1 found.0.0 found.0.1 in (
                z,
                y,
                in_slot_node F.header S isS.owned k (Some z) s z refl two slot,
                nj,
                subst (λ b. Path (fast_next F.header S) b y) same (onward r.3.1 r.3.2),
                (λ e. found.1.0 (subst (λ b. Path (walk F.header S k) x b) e found.0.0)),
                (r.3.0, subst (λ b. fast_next F.header S b ≡ Some r.3.0) same r.3.1),
              )
        ]

-- a pointer that leads on is not null
lead_there : (ts : List (Option NodeId)) (t : ℕ) → lead_at ts 0 ≡ Some t → unwrap_or (slice_get (map (λ p. is_none p) ts) 0) false ≡ false
lead_there [] t e = refl
lead_there (None ∷ ts) t e = absurd (none-some t e)
lead_there (Some to ∷ ts) t e = refl

-- the place of a node's key in the order of a scene
abbrev pub placed_at : Frame → Scene → ℕ → Placed
placed_at F S y = record {
  at_most = λ t. is_at_most (node_at S y).key (key_in F S t);
  at_least = λ t. is_at_most (key_in F S t) (node_at S y).key;
}

module _ (F : Frame) (P : Picture) (S U : Scene) (k : KeyName) (isS : IsScene F S) (isU : IsScene F U) (reads : Reads F P S U k)
    (x : ℕ) (step : IsStep F S U x) (at : ℕ) (below : at < F.names) (named : S.named at ≡ Some x)
    (vis : walk_visits F.header U.heap (U.walked k) x ≡ true) (quiet : (is_fast_in F.header S x ≡ false) ⊎ (enters F P k at ≡ false))
    (keys : (y : ℕ) → (node_at U y).key ≡ (node_at S y).key)
    (ordered_S : (y f z : ℕ) → leads S y f ≡ Some z → in_order (order_of F f) (node_at S y).key (node_at S z).key ≡ true)
    (ordered_U : (y f z : ℕ) → leads U y f ≡ Some z → in_order (order_of F f) (node_at U y).key (node_at U z).key ≡ true)
    (y : ℕ) (unnamed : (j : ℕ) → j < F.names → S.named j ≡ Some y → ⊥) (w : Entered (side F P S U k isS isU reads x step at below named vis quiet) y) where
  abbrev H : Header
  H = F.header

  abbrev B : Picture
  B = shown F S

  abbrev pub entry : ℕ
  entry = w.0

  its : (w.0 < F.names) × ((z : ℕ) × (S.named w.0 ≡ Some z))
  its = part_named F P S U k isS isU reads x step at below named vis quiet w.0 w.1

  enter : (q : ℕ) × (chain_of (target F P k w.0) ≡ Some q) × (q < F.names) × (chains_on P w.0 q ≡ true)
  enter = target_enters F P k w.0 w.2

  pub exit : ℕ
  exit = enter.0

  told : (a b : ℕ) × (S.named w.0 ≡ Some a) × (S.named enter.0 ≡ Some b) × Path (fast_next H S) a b × (a ≡ b → ⊥)
  told = chain_end_named F P S U k isS isU reads w.0 enter.0 enter.3

  first : (m : ℕ) × (fast_next H S told.0 ≡ Some m)
  first = first_of_chain F S isS told.0 told.1 told.5 told.4

  one : length H.pointers ≡ 1
  one = eqb-true (length H.pointers) 1 (fast_step H S isS.owned told.0 first.0 first.1).0

  not_x : y ≡ x → ⊥
  not_x e = unnamed at below (named ∙ ap Some (sym e))

  -- from a key of U to one of S
  in_S : (o : KeyOrder) (a b : ℕ) → in_order o (node_at U a).key (node_at U b).key ≡ true → in_order o (node_at S a).key (node_at S b).key ≡ true
  in_S o a b e = ap (λ c. in_order o c (node_at S b).key) (sym (keys a)) ∙ ap (in_order o (node_at U a).key) (sym (keys b)) ∙ e

  at_entry : unwrap_or (S.named w.0) 0 ≡ told.0
  at_entry = ap (λ o. unwrap_or o 0) told.2

  at_exit : unwrap_or (S.named enter.0) 0 ≡ told.1
  at_exit = ap (λ o. unwrap_or o 0) told.3

  lower : in_order (order_of F 0) (node_at S told.0).key (node_at S y).key ≡ true
  lower = in_S (order_of F 0) told.0 y (walk_ordered F U isU k one ordered_U told.0 y (subst (λ b. Path (walk H U k) b y) at_entry w.4) (λ e. unnamed w.0 its.0 (told.2 ∙ ap Some e)))

  -- a stop node lies below the end of its chain
  stop_below : (z : ℕ) (a q s : ℕ) → target F P k w.0 ≡ Target.Stops a q s → z ≡ unwrap_or (stop_node H S k s) 0 → in_order (order_of F 0) (node_at S z).key (node_at S told.1).key ≡ true
  stop_below z a q s e at_z =
      let shows = stops_tell F P k w.0 a q s e in
      let r = stop_before F S isS k a q s shows.1 (sym (reads.picks a q s) ∙ shows.0) in
      let same_q : q ≡ enter.0 = same_Some _ _ (sym (ap chain_of e) ∙ enter.1) in
      let end : r.1 ≡ told.1 = same_Some _ _ (sym r.3 ∙ ap S.named same_q ∙ told.3) in
      let stop : r.0 ≡ z = ap (λ o. unwrap_or o 0) (sym r.2) ∙ sym at_z in
      subst (λ b. in_order (order_of F 0) (node_at S b).key (node_at S told.1).key ≡ true) stop
      (subst (λ b. in_order (order_of F 0) (node_at S r.0).key (node_at S b).key ≡ true) end (chain_ordered F S isS.owned ordered_S r.0 r.1 r.4 r.5))

  -- on to the end of the chain, or to its stop node
  on : (m : ℕ) → walk H U k y ≡ Some m → (e : ℕ) → EndOf (side F P S U k isS isU reads x step at below named vis quiet) w.0 e → Path (walk H U k) m e → in_order (order_of F 0) (node_at S y).key (node_at S told.1).key ≡ true
  on m moves e (inl j) p =
      let same_q : j.0 ≡ enter.0 = same_Some _ _ (sym (ap chain_of j.1) ∙ enter.1) in
      let end : e ≡ told.1 = j.2 ∙ ap (λ q. unwrap_or (S.named q) 0) same_q ∙ at_exit in
      in_S (order_of F 0) y told.1 (walk_ordered F U isU k one ordered_U y told.1 (onward moves (subst (λ b. Path (walk H U k) m b) end p)) (λ same. unnamed enter.0 enter.2 (told.3 ∙ ap Some (sym same))))
  on m moves e (inr j) p =
      let stop = stop_below e j.0 j.1 j.2 j.3 j.4 in
      elim (cases_eq y e) [
        | inl same ↦ subst (λ b. in_order (order_of F 0) (node_at S b).key (node_at S told.1).key ≡ true) (sym same) stop
        | inr other ↦ order_then (order_of F 0) (node_at S y).key (node_at S e).key (node_at S told.1).key
            (in_S (order_of F 0) y e (walk_ordered F U isU k one ordered_U y e (onward moves p) other)) stop
      ]

  side_walk : (a m : ℕ) → (side F P S U k isS isU reads x step at below named vis quiet).along a ≡ Some m → walk H U k a ≡ Some m
  side_walk = along_walk F P S U k isS isU reads x (step.stops k) (step.ever k) (step.agree k) (λ b. step.lead b 0)

  upper : in_order (order_of F 0) (node_at S y).key (node_at S told.1).key ≡ true
  upper = elim w.5 [
    | inl v ↦ on v.1 (side_walk y v.1 v.3) v.0 v.2 v.4
    | inr v ↦ stop_below y v.0 v.1 v.2 v.3 v.4
  ]

  leads_on : (m : ℕ) × (leads S y 0 ≡ Some m)
  leads_on = elim w.5 [
    | inl v ↦ (v.1, sym (step.lead y 0 not_x) ∙ walk_lead F U isU k one y v.1 (side_walk y v.1 v.3))
    | inr v ↦
        let shows = stops_tell F P k w.0 v.0 v.1 v.2 v.3 in
        let r = stop_before F S isS k v.0 v.1 v.2 shows.1 (sym (reads.picks v.0 v.1 v.2) ∙ shows.0) in
        let stop : r.0 ≡ y = ap (λ o. unwrap_or o 0) (sym r.2) ∙ sym v.4 in
        (r.6.0, subst (λ b. leads S b 0 ≡ Some r.6.0) stop (fast_step H S isS.owned r.0 r.6.0 r.6.1).2)
  ]

  pub is_entered : enters_chain F P k at entry exit ≡ true
  unfolding exit
  is_entered = and_from _ _
      (path_passes (target F P k) F.names (target_stays F P k) (start F P S U k isS isU reads x step at below named vis quiet) (start_is F P S U k isS isU reads x step at below named vis quiet).0 (λ m. P (Part.Same m w.0)) w.0 w.1
      (reads.same w.0 w.0 ∙ shown_says F S (Part.Same w.0 w.0) (and_from _ _ (lt-ltb w.0 F.names its.0) (lt-ltb w.0 F.names its.0)) ∙ is_node_at its.1.1 its.1.1))
      (ap (λ o. option_map_or (λ e. e == enter.0) o false) enter.1 ∙ eq-eqb enter.0 enter.0 refl)

  -- ---- the view

  abbrev view : Bool → View
  view b = view_of_node (node_at S y) (S.walked k) b

  key_self : is_at_most (node_at S y).key (node_at S y).key ≡ true
  key_self = elim (total_keys (node_at S y).key (node_at S y).key) [ inl e ↦ e | inr e ↦ e ]

  same_order : (b : Bool) (s t : KeyTerm) → (view b).at_most s t ≡ placed_order B k (placed_at F S y) s t
  same_order b KeyTerm.Node KeyTerm.Node = key_self
  same_order b KeyTerm.Node KeyTerm.Walked = refl
  same_order b KeyTerm.Node KeyTerm.Min = refl
  same_order b KeyTerm.Node KeyTerm.Max = refl
  same_order b KeyTerm.Walked KeyTerm.Node = refl
  same_order b KeyTerm.Walked KeyTerm.Walked = refl
  same_order b KeyTerm.Walked KeyTerm.Min = refl
  same_order b KeyTerm.Walked KeyTerm.Max = refl
  same_order b KeyTerm.Min KeyTerm.Node = refl
  same_order b KeyTerm.Min KeyTerm.Walked = refl
  same_order b KeyTerm.Min KeyTerm.Min = refl
  same_order b KeyTerm.Min KeyTerm.Max = refl
  same_order b KeyTerm.Max KeyTerm.Node = refl
  same_order b KeyTerm.Max KeyTerm.Walked = refl
  same_order b KeyTerm.Max KeyTerm.Min = refl
  same_order b KeyTerm.Max KeyTerm.Max = refl

  less_so : (a b : Key) → is_less a b ≡ true → not (is_at_most b a) ≡ true
  less_so a b e = ap (λ c. not (not c)) e

  between_so : (o : KeyOrder) → in_order o (node_at S told.0).key (node_at S y).key ≡ true → in_order o (node_at S y).key (node_at S told.1).key ≡ true → lies_between o (placed_at F S y) w.0 enter.0 ≡ true
  between_so KeyOrder.Ascending lo up = and_from _ _
      (ap (λ c. not (is_at_most (node_at S y).key c)) (key_named F S w.0 told.0 told.2) ∙ less_so (node_at S told.0).key (node_at S y).key lo)
      (ap (λ c. not (is_at_most c (node_at S y).key)) (key_named F S enter.0 told.1 told.3) ∙ less_so (node_at S y).key (node_at S told.1).key up)
  between_so KeyOrder.Descending lo up = and_from _ _
      (ap (λ c. not (is_at_most c (node_at S y).key)) (key_named F S w.0 told.0 told.2) ∙ less_so (node_at S y).key (node_at S told.0).key lo)
      (ap (λ c. not (is_at_most (node_at S y).key c)) (key_named F S enter.0 told.1 told.3) ∙ less_so (node_at S told.1).key (node_at S y).key up)
  between_so KeyOrder.Free lo up = refl

  its_fast : is_fast_in H S y ≡ true
  its_fast = (and_parts (is_fast_in H S y) (not (y == x)) w.3).0

  view_is : (b : Bool) → IsViewOf H (view b) (node_at S y).key (node_at S y).flags (Key.Num (S.walked k))
  view_is b = record { keys = λ s t. refl; flag = λ f few. refl }

  pub is_inner : (b : Bool) → IsInner F B k entry exit (view_of_node (node_at S y) (S.walked k) b) (placed_at F S y)
  unfolding exit
  is_inner b = record {
    total = λ t ft. elim (total_keys (node_at S y).key (key_in F S t)) [ inl e ↦ or_left _ _ e | inr e ↦ or_right _ _ e ];
    up = λ s t fs ft. implies _ _ (λ e. let v = and_parts _ (B (Part.AtMost s t)) e in transitive_keys (node_at S y).key (key_in F S s) (key_in F S t) v.0 (sym (order_shown F S s t fs ft) ∙ v.1));
    down = λ s t fs ft. implies _ _ (λ e. let v = and_parts (B (Part.AtMost s t)) _ e in transitive_keys (key_in F S s) (key_in F S t) (node_at S y).key (sym (order_shown F S s t fs ft) ∙ v.0) v.1);
    through = λ s t fs ft. implies _ _ (λ e. let v = and_parts (is_at_most (key_in F S s) (node_at S y).key) _ e in order_shown F S s t fs ft ∙ transitive_keys (key_in F S s) (node_at S y).key (key_in F S t) v.0 v.1);
    order = same_order b;
    frozen = frozen_value H (view b) (node_at S y).key (node_at S y).flags (S.walked k) (view_is b) isS.lawful ∙ (and_parts (is_shared_in S y) _ its_fast).1;
    pointer = lead_there (node_at S y).pointers leads_on.0 leads_on.1;
    ends = and_from _ _ (min_at_most (node_at S y).key) (at_most_max (node_at S y).key);
    between = between_so (order_of F 0) lower upper;
  }
