-- The picture of a scene of a world is lawful, where every shared node meets the keeps and pointers their order.
use Rattle.std.proofs.Common.{◌≡◌, ◌⊎◌, ℕ, zero, suc, ◌<◌, ◌≤◌, ◌==◌, Bool, true, false, not, List, [], ◌∷◌, map, length, Option, Some, None, refl, sym, ◌∙◌, ap, subst, inl, inr, arith}
use Rattle.std.specs.Prelude.{◌&&◌, ◌||◌, slice_get, is_none, unwrap_or, option_map}
use Rattle.std.specs.Option.{option_map_or, option_flatten}
use Rattle.std.specs.List.{list_all}
use Rattle.std.proofs.lemmas.Bool.{true≢false, and_parts, and_from, or_left, or_right, eqb-true, lt-ltb, ltb-true, false_from_ne_true, not-false}
use Rattle.std.proofs.lemmas.Option.{none-some, same_Some}
use Rattle.plank_base.specs.declared.keys.Key.{Key}
use Rattle.plank_base.specs.declared.keys.NodeId.{NodeId}
use Rattle.plank_base.specs.Keys.{is_at_most, is_less}
use Rattle.plank_base.specs.Paths.{Path, here, onward}
use Rattle.plank_base.specs.declared.limits.TheConstants.{POINTERS_LIMIT}
use Rattle.plank_base.proofs.Paths.{chain_law, one_end, end_or_successor}
use Rattle.plank_base.proofs.KeyOrder.{transitive_keys, min_at_most, at_most_max, above, less_then}
use Rattle.plank_prog.specs.declared.headers.Header.{Header}
use Rattle.plank_prog.specs.declared.headers.Keep.{Keep}
use Rattle.plank_prog.specs.declared.headers.KeyOrder.{KeyOrder}
use Rattle.plank_prog.specs.Conditions.{View, value}
use Rattle.plank_prog.specs.Headers.{keep_scope, is_lawful_header}
use Rattle.plank_prog.specs.Scopes.{condition_fits, AgreeWithin}
use Rattle.plank_prog.specs.Views.{is_bit_set, key_of_term}
use Rattle.plank_prog.proofs.ScopeLaws.{scoped_value}
use Rattle.plank_prog.proofs.HeaderFacts.{lawful_conditions, list_all_at, few_pointers}
use Rattle.plank_heap.specs.declared.nodes.Node.{Node}
use Rattle.plank_heap.specs.Heaps.{view_of_node}
use Rattle.plank_heap.specs.Walks.{walk_visits}
use Rattle.plank_pic.specs.declared.parts.KeyName.{KeyName}
use Rattle.plank_pic.specs.declared.parts.Term.{Term}
use Rattle.plank_pic.specs.declared.parts.Place.{Place}
use Rattle.plank_pic.specs.declared.parts.Part.{Part}
use Rattle.plank_pic.specs.Frames.{Frame}
use Rattle.plank_pic.specs.Pictures.{Picture, node_view, stop_view_on, is_picked, is_picked_from, picks_from}
use Rattle.plank_pic.specs.Lawful.{place_fits, term_fits, slot_count, leads_to_shared, node_keeps, keep_holds, keeps_hold, stop_keeps, stop_keeps_on, keys_ordered, key_leaves_room, order_of, edge_is_ordered, beyond_has_room, chain_is_ordered, pick_is_ordered, IsLawful}
use Rattle.plank_pic.proofs.Below.{some_found}
use Rattle.plank_scene.specs.Scenes.{Scene, node_at, leads, is_shared_in, fast_next, walk, is_chain, stop_of, stop_node, is_in_slot, is_visited_ever, is_nameless, key_in, shown}
use Rattle.plank_scene.specs.Worlds.{IsInWorld, IsOrderly, in_order, node_meets}
use Rattle.plank_scene.proofs.Scenes.Showing.{on_true, on_at, implies, shown_says, shown_true, key_named, node_found}
use Rattle.plank_scene.proofs.Scenes.Paths.{chain_path, fast_step, stop_found, in_slot_node, unborn_unshared}
use Rattle.plank_scene.proofs.Scenes.Views.{name_view, pointer_null}
use Rattle.plank_scene.proofs.Scenes.Targets.{fast_there, chain_follows, no_slot}
use Rattle.plank_scene.proofs.Scenes.Chains.{picks_named, pick_stop, stop_view_on_is, slots_few, chain_named, other_nodes}
use Rattle.plank_scene.proofs.Scenes.Pictured.{order_shown, leads_told, beyond_told, fits_name}
use Rattle.plank_scene.proofs.Scenes.Possible.{shows_possible, from_name}

-- ---- orders along pointers

less_not : (a b : Key) → is_less a b ≡ true → is_at_most b a ≡ false
less_not a b e = ap not e

pub not_less : (a b : Key) → is_at_most b a ≡ false → is_less a b ≡ true
not_less a b e = not-false (is_less a b) e

-- the keeps of a lawful header fit
pub keep_fits : (h : Header) → is_lawful_header h ≡ true → (n : ℕ) (q : Keep) → slice_get h.keeps n ≡ Some q → condition_fits (keep_scope h) q.condition ≡ true
keep_fits h lawful n q e = list_all_at (λ (k : Keep). condition_fits (keep_scope h) k.condition) h.keeps n q (and_parts _ _ (and_parts _ _ (lawful_conditions h lawful)).0).1 e

-- an order along pointers goes on along paths
pub order_then : (o : KeyOrder) (a b c : Key) → in_order o a b ≡ true → in_order o b c ≡ true → in_order o a c ≡ true
order_then KeyOrder.Ascending a b c e d = not_less a c (less_then a b c (less_not a b e) (above c b (less_not b c d)))
order_then KeyOrder.Descending a b c e d = not_less c a (less_then c b a (less_not c b d) (above a b (less_not b a e)))
order_then KeyOrder.Free a b c e d = refl

-- where a pointer leads, and whether it is null
pub lead_null : (ts : List (Option NodeId)) (f : ℕ) → f < length ts → is_none (option_map (λ (to : NodeId). to.0) (option_flatten (slice_get ts f))) ≡ unwrap_or (slice_get (map (λ p. is_none p) ts) f) false
lead_null [] f h = absurd (omega arith)
lead_null (None ∷ ts) zero h = refl
lead_null (Some to ∷ ts) zero h = refl
lead_null (None ∷ ts) (suc f) h = lead_null ts f (omega arith)
lead_null (Some to ∷ ts) (suc f) h = lead_null ts f (omega arith)

-- where pointers are in order, keys are in order along chains
module _ (F : Frame) (S : Scene) (owned : length S.owners ≡ length S.heap.nodes) (ordered : (x f y : ℕ) → leads S x f ≡ Some y → in_order (order_of F f) (node_at S x).key (node_at S y).key ≡ true) where
  path_ordered : (x y : ℕ) → Path (fast_next F.header S) x y → (x ≡ y) ⊎ (in_order (order_of F 0) (node_at S x).key (node_at S y).key ≡ true)
  path_ordered x y here = inl refl
  path_ordered x y (onward {m} e p) =
      let first = ordered x 0 m (fast_step F.header S owned x m e).2 in
      inr (elim (path_ordered m y p) [
        | inl same ↦ subst (λ z. in_order (order_of F 0) (node_at S x).key (node_at S z).key ≡ true) same first
        | inr rest ↦ order_then (order_of F 0) (node_at S x).key (node_at S m).key (node_at S y).key first rest
      ])

  pub chain_ordered : (x y : ℕ) → Path (fast_next F.header S) x y → (x ≡ y → ⊥) → in_order (order_of F 0) (node_at S x).key (node_at S y).key ≡ true
  chain_ordered x y p other = elim (path_ordered x y p) [ inl same ↦ absurd (other same) | inr e ↦ e ]

module _ (F : Frame) (S : Scene) (is : IsInWorld F S) (orderly : IsOrderly F S) where
  abbrev H : Header
  H = F.header

  abbrev P : Picture
  P = shown F S

  -- ---- sharing

  published : (x : Place) (j : ℕ) → place_fits F x ≡ true → j < F.names → leads_to_shared P x j ≡ true
  published x j fits bj =
      implies _ _ (λ e.
      let both = and_parts (P (Part.Shared x.name)) (P (Part.Leads x j)) e in
      let w = on_true (is_shared_in S) (S.named x.name) (shown_true F S (Part.Shared x.name) both.0).1 in
      let l = leads_told F S x j both.1 in
      let v = from_name S (S.named x.name) x.pointer l.0 l.1 in
      let same : v.0 ≡ w.0 = same_Some _ _ (sym v.1 ∙ w.1) in
      shown_says F S (Part.Shared j) (lt-ltb j F.names bj) ∙ on_at (is_shared_in S) l.2
      ∙ is.shared_leads v.0 x.pointer l.0 (subst (λ y. is_shared_in S y ≡ true) (sym same) w.2) v.2)

  -- ---- keeps

  -- a view with the answers of a node of the heap meets the keeps that the node meets
  module _ (v : View) (k : KeyName) (x : ℕ) (node : Node) (agree : AgreeWithin (keep_scope H) v (view_of_node node (S.walked k) (walk_visits H S.heap (S.walked k) x))) where
    met_of : (c : ℕ) (o : Option Keep) → slice_get H.keeps c ≡ o → option_map_or (λ q. value (view_of_node node (S.walked k) (walk_visits H S.heap (S.walked k) x)) q.condition) o true ≡ true → option_map_or (λ q. value v q.condition) o true ≡ true
    met_of c None e met = refl
    met_of c (Some q) e met = scoped_value (keep_scope H) v (view_of_node node (S.walked k) (walk_visits H S.heap (S.walked k) x)) agree q.condition (keep_fits H is.scene.lawful c q e) ∙ met

    keeps_met : (c : ℕ) → node_meets F S k x node c ≡ true → keep_holds H v c ≡ true
    keeps_met c met = met_of c (slice_get H.keeps c) refl met

  shared_there : (x : ℕ) → is_shared_in S x ≡ true → (node : Node) × (slice_get S.heap.nodes x ≡ Some node)
  shared_there x shared = there (slice_get S.heap.nodes x) refl
    where
      there : (o : Option Node) → slice_get S.heap.nodes x ≡ o → (node : Node) × (slice_get S.heap.nodes x ≡ Some node)
      there (Some node) e = (node, e)
      there None e = absurd (true≢false (sym shared ∙ past (slice_get_none S.heap.nodes x e)))
        where
          slice_get_none : {X : Type 0} (xs : List X) (i : ℕ) → slice_get xs i ≡ None → length xs ≤ i
          slice_get_none [] i e = omega arith
          slice_get_none (y ∷ ys) zero e = absurd (none-some y (sym e))
          slice_get_none (y ∷ ys) (suc i) e = let le = slice_get_none ys i e in omega arith

          past : length S.heap.nodes ≤ x → is_shared_in S x ≡ false
          past le = unborn_unshared H S is.scene.owned x le

  keeps : (k : KeyName) (i c : ℕ) → i < F.names → c < length H.keeps → node_keeps F P k i c ≡ true
  keeps k i c bi bc =
      implies _ _ (λ e.
      let w = on_true (is_shared_in S) (S.named i) (shown_true F S (Part.Shared i) e).1 in
      let node = shared_there w.0 w.2 in
      let found = node_found S w.0 node.0 node.1 in
      keeps_met (node_view P k i) k w.0 node.0 (agree w.0 node.0 w.1 found (is.wide w.0 node.0 node.1)) c (orderly.keeps k w.0 node.0 c node.1 w.2))
    where
      agree : (x : ℕ) (node : Node) → S.named i ≡ Some x → node_at S x ≡ node → length node.pointers ≡ POINTERS_LIMIT → AgreeWithin (keep_scope H) (node_view P k i) (view_of_node node (S.walked k) (walk_visits H S.heap (S.walked k) x))
      agree x node named found wide = record {
        at_most = λ a b _ _. (name_view F S i x bi named k).keys a b
            ∙ ap (λ (z : Node). is_at_most (key_of_term z.key (Key.Num (S.walked k)) a) (key_of_term z.key (Key.Num (S.walked k)) b)) found;
        flag = λ f below. (name_view F S i x bi named k).flag f below ∙ ap (λ (z : Node). is_bit_set z.flags f) found;
        null = λ f below. pointer_null F S i x bi named f below
            ∙ ap (λ (z : Node). is_none (option_map (λ (to : NodeId). to.0) (option_flatten (slice_get z.pointers f)))) found
            ∙ lead_null node.pointers f (let few = few_pointers H is.scene.lawful in omega arith);
        visited = λ asked. shown_says F S (Part.Visits k i) (lt-ltb i F.names bi) ∙ on_at (walk_visits H S.heap (S.walked k)) named;
      }

  -- ---- stop nodes

  -- a picked stop node, on each walked key, answers as the node of the heap does
  module _ (k : KeyName) (s : ℕ) (few : s < slot_count F) where
    null_lead : (ts : List (Option NodeId)) (t : ℕ) → option_map (λ (to : NodeId). to.0) (option_flatten (slice_get ts 0)) ≡ Some t → false ≡ unwrap_or (slice_get (map (λ p. is_none p) ts) 0) false
    null_lead [] t e = refl
    null_lead (None ∷ ts) t e = absurd (none-some t e)
    null_lead (Some to ∷ ts) t e = refl

    agree : (j : KeyName) (z t : ℕ) (node : Node) (b : Bool) → b ≡ walk_visits H S.heap (S.walked j) z → stop_node H S k s ≡ Some z → node_at S z ≡ node → leads S z 0 ≡ Some t → length H.pointers ≡ 1 → AgreeWithin (keep_scope H) (stop_view_on P k s j b) (view_of_node node (S.walked j) (walk_visits H S.heap (S.walked j) z))
    agree j z t node b bit at found lead one = record {
      at_most = λ a c _ _. (stop_view_on_is F S is.scene k s z few at j b).keys a c
          ∙ ap (λ (y : Node). is_at_most (key_of_term y.key (Key.Num (S.walked j)) a) (key_of_term y.key (Key.Num (S.walked j)) c)) found;
      flag = λ f below. (stop_view_on_is F S is.scene k s z few at j b).flag f below ∙ ap (λ (y : Node). is_bit_set y.flags f) found;
      null = λ f below. let first : f ≡ 0 = omega (arith, one) in
          null_lead node.pointers t (ap (λ (y : Node). option_map (λ (to : NodeId). to.0) (option_flatten (slice_get y.pointers 0))) (sym found) ∙ lead)
          ∙ ap (λ g. unwrap_or (slice_get (map (λ p. is_none p) node.pointers) g) false) (sym first);
      visited = λ asked. bit;
    }

    -- with the bit of whether the walk visits it, it meets each keep
    met : is_picked F P k s ≡ true → (j : KeyName) → (b : Bool) × ((j ≡ k → b ≡ P (Part.StopVisited k s)) × ((c : ℕ) → c < length H.keeps → keep_holds H (stop_view_on P k s j b) c ≡ true))
    met e j =
        let a = some_found (is_picked_from F P k s) F.names e in
        let g = some_found (picks_from P k s a.0) F.names a.2 in
        let w = pick_stop F S is.scene k a.0 g.0 s (let m = slots_few F S is.scene in omega arith) g.2 in
        let step = fast_step H S is.scene.owned w.0 w.3.0 w.3.1 in
        let node = fast_there F S is.scene w.0 step.1 in
        let found = node_found S w.0 node.0 node.1 in
        let b = walk_visits H S.heap (S.walked j) w.0 in (
          b,
          (
            (λ same. ap (λ i. walk_visits H S.heap (S.walked i) w.0) same ∙ sym (shown_says F S (Part.StopVisited k s) (lt-ltb s (slot_count F) few) ∙ on_at (walk_visits H S.heap (S.walked k)) w.1)),
            (λ c bc. keeps_met (stop_view_on P k s j b) j w.0 node.0 (agree j w.0 w.3.0 node.0 b refl w.1 found step.2 (eqb-true (length H.pointers) 1 step.0)) c
                (orderly.keeps j w.0 node.0 c node.1 (and_parts _ _ step.1).0)),
          ),
        )

    stop_kept : (c : ℕ) → c < length H.keeps → stop_keeps F P k s c ≡ true
    stop_kept c bc =
        implies _ _ (λ e.
        let w = met e k in
        subst (λ b. keep_holds H (stop_view_on P k s k b) c ≡ true) (w.1.0 refl) (w.1.1 c bc))

    stop_kept_on : (j : KeyName) → stop_keeps_on F P k s j ≡ true
    stop_kept_on j =
        implies _ _ (λ e.
        let w = met e j in
        for_some w.0 (λ v. keeps_hold H (stop_view_on P k s j v)) (every (stop_view_on P k s j w.0) H.keeps w.1.1))
      where
        for_some : (b : Bool) (test : Bool → Bool) → test b ≡ true → (test true || test false) ≡ true
        for_some true test e = or_left (test true) (test false) e
        for_some false test e = or_right (test true) (test false) e

        every : (v : View) (qs : List Keep) → ((c : ℕ) → c < length qs → option_map_or (λ (q : Keep). value v q.condition) (slice_get qs c) true ≡ true) → list_all (λ (q : Keep). value v q.condition) qs ≡ true
        every v [] each = refl
        every v (q ∷ qs) each = and_from _ _ (each 0 (omega arith)) (every v qs (λ c below. each (suc c) (omega arith)))

  -- ---- the order of keys

  less_shown : (s t : Term) → term_fits F s ≡ true → term_fits F t ≡ true → is_less (key_in F S s) (key_in F S t) ≡ true → (P (Part.AtMost s t) && not (P (Part.AtMost t s))) ≡ true
  less_shown s t fs ft e =
      let less = less_not (key_in F S s) (key_in F S t) e in
      and_from _ _ (order_shown F S s t fs ft ∙ above (key_in F S t) (key_in F S s) less) (ap not (order_shown F S t s ft fs ∙ less))

  keys_shown : (o : KeyOrder) (s t : Term) → term_fits F s ≡ true → term_fits F t ≡ true → in_order o (key_in F S s) (key_in F S t) ≡ true → keys_ordered o P s t ≡ true
  keys_shown KeyOrder.Ascending s t fs ft e = less_shown s t fs ft e
  keys_shown KeyOrder.Descending s t fs ft e = less_shown t s ft fs e
  keys_shown KeyOrder.Free s t fs ft e = refl

  node_order : (o : KeyOrder) (i j x y : ℕ) → i < F.names → j < F.names → S.named i ≡ Some x → S.named j ≡ Some y → in_order o (node_at S x).key (node_at S y).key ≡ true → keys_ordered o P (Term.Node i) (Term.Node j) ≡ true
  node_order o i j x y bi bj ni nj e =
      keys_shown o (Term.Node i) (Term.Node j) (lt-ltb i F.names bi) (lt-ltb j F.names bj)
      (ap (λ a. in_order o a (key_in F S (Term.Node j))) (key_named F S i x ni) ∙ ap (in_order o (node_at S x).key) (key_named F S j y nj) ∙ e)

  edges : (x : Place) (j : ℕ) → place_fits F x ≡ true → j < F.names → edge_is_ordered F P x j ≡ true
  edges x j fits bj =
      implies _ _ (λ e.
      let l = leads_told F S x j e in
      let v = from_name S (S.named x.name) x.pointer l.0 l.1 in
      node_order (order_of F x.pointer) x.name j v.0 l.0 (below_name x fits) bj v.1 l.2 (orderly.ordered v.0 x.pointer l.0 v.2))
    where
      below_name : (x : Place) → place_fits F x ≡ true → x.name < F.names
      below_name x fits = ltb-true x.name F.names (fits_name F x fits)

  room_of : (o : KeyOrder) (s : Term) (b : Key) → term_fits F s ≡ true → in_order o (key_in F S s) b ≡ true → key_leaves_room o P s ≡ true
  room_of KeyOrder.Ascending s b fs e =
      and_from _ _ (order_shown F S s Term.Max fs refl ∙ at_most_max (key_in F S s))
      (ap not (order_shown F S Term.Max s refl fs ∙ less_then (key_in F S s) b Key.Max (less_not (key_in F S s) b e) (at_most_max b)))
  room_of KeyOrder.Descending s b fs e =
      and_from _ _ (order_shown F S Term.Min s refl fs ∙ min_at_most (key_in F S s))
      (ap not (order_shown F S s Term.Min fs refl ∙ false_from_ne_true _ (λ d. true≢false (sym (transitive_keys (key_in F S s) Key.Min b d (min_at_most b)) ∙ less_not b (key_in F S s) e))))
  room_of KeyOrder.Free s b fs e = refl

  room : (x : Place) → place_fits F x ≡ true → beyond_has_room F P x ≡ true
  room x fits =
      implies _ _ (λ e.
      let l = beyond_told F S x e in
      let v = from_name S (S.named x.name) x.pointer l.0 l.1 in
      room_of (order_of F x.pointer) (Term.Node x.name) (node_at S l.0).key (fits_name F x fits)
      (ap (λ a. in_order (order_of F x.pointer) a (node_at S l.0).key) (key_named F S x.name v.0 v.1) ∙ orderly.ordered v.0 x.pointer l.0 v.2))

  chain_order : (i j : ℕ) → i < F.names → j < F.names → chain_is_ordered F P i j ≡ true
  chain_order i j bi bj =
      implies _ _ (λ e.
      let both = and_parts (P (Part.Chain i j)) (not (P (Part.Same i j))) e in
      let w = chain_named F S is.scene i j both.0 in
      node_order (order_of F 0) i j w.0 w.1 bi bj w.2 w.3 (chain_ordered F S is.scene.owned orderly.ordered w.0 w.1 w.4 (other_nodes F S is.scene i j w.0 w.1 bi bj w.2 w.3 both.1)))

  -- a stop node lies between the ends of its chain
  module _ (k : KeyName) (i j s : ℕ) (bi : i < F.names) (bj : j < F.names) (few : s < slot_count F) where
    two : s < 2
    two = let m = slots_few F S is.scene in omega arith

    between : (x y : ℕ) → S.named i ≡ Some x → S.named j ≡ Some y → Path (fast_next H S) x y → (o : Option ℕ) → stop_of H S k x y ≡ o → is_in_slot H S k o s ≡ true
        → (keys_ordered (order_of F 0) P (Term.Node i) (Term.Stop k s) && keys_ordered (order_of F 0) P (Term.Stop k s) (Term.Node j)) ≡ true
    between x y ni nj p None stop slot = absurd (no_slot H S k s slot)
    between x y ni nj p (Some z) stop slot =
        let found = stop_found H S is.scene.owned k x y z stop in
        let at : stop_node H S k s ≡ Some z = in_slot_node H S is.scene.owned k (Some z) s z refl two slot in
        let key : key_in F S (Term.Stop k s) ≡ (node_at S z).key = ap (λ o. option_map_or (λ w. (node_at S w).key) o Key.Min) at in
        elim (chain_law (chain_follows F S is.scene k) p) [
          | inl q ↦ absurd (found.1.0 q)
          | inr r ↦
              let same : r.0 ≡ z = one_end r.1.0 r.1.1 found.0.0 found.0.1 in
              let to : Path (fast_next H S) x z = subst (λ b. Path (fast_next H S) x b) same r.2 in
              let from : Path (fast_next H S) z y = subst (λ b. Path (fast_next H S) b y) same (onward r.3.1 r.3.2) in
              and_from _ _
              (keys_shown (order_of F 0) (Term.Node i) (Term.Stop k s) (lt-ltb i F.names bi) (lt-ltb s (slot_count F) few)
              (ap (λ a. in_order (order_of F 0) a (key_in F S (Term.Stop k s))) (key_named F S i x ni) ∙ ap (in_order (order_of F 0) (node_at S x).key) key
              ∙ chain_ordered F S is.scene.owned orderly.ordered x z to (λ e. end_or_successor (subst (λ b. walk H S k b ≡ None) (sym e) found.0.1) found.1.1.1)))
              (keys_shown (order_of F 0) (Term.Stop k s) (Term.Node j) (lt-ltb s (slot_count F) few) (lt-ltb j F.names bj)
              (ap (λ a. in_order (order_of F 0) a (key_in F S (Term.Node j))) key ∙ ap (in_order (order_of F 0) (node_at S z).key) (key_named F S j y nj)
              ∙ chain_ordered F S is.scene.owned orderly.ordered z y from (λ e. found.1.0 (subst (λ b. Path (walk H S k) x b) e found.0.0))))
        ]

    pick_between : pick_is_ordered F P k i j s ≡ true
    pick_between =
        implies _ _ (λ e.
        let w = picks_named F S is.scene k i j s e in
        let p4 = and_parts _ (is_in_slot H S k (stop_of H S k w.0 w.1) s) w.4 in
        let p3 = and_parts _ (is_visited_ever H S k w.0) p4.0 in
        let p2 = and_parts _ (is_nameless F S (leads S w.0 0)) p3.0 in
        let p1 = and_parts (is_chain H S w.0 w.1) (not (w.0 == w.1)) p2.0 in
        between w.0 w.1 w.2 w.3 (chain_path H S is.scene.owned w.0 w.1 p1.0) (stop_of H S k w.0 w.1) refl p4.1)

  pub shows_lawful : IsLawful F P
  shows_lawful = record {
    possible = shows_possible F S is;
    published = published;
    keeps = keeps;
    stop_kept = λ k s c few bc. stop_kept k s few c bc;
    stop_kept_on = λ k j s few. stop_kept_on k s few j;
    edges = edges;
    room = room;
    chain_order = chain_order;
    pick_order = λ k i j s bi bj few. pick_between k i j s bi bj few;
  }
