-- The picture of a scene of a world is possible.
use Rattle.std.proofs.Common.{◌≡◌, ℕ, ◌<◌, ◌==◌, true, false, not, Option, Some, None, refl, sym, ◌∙◌, ap, inl, inr, arith}
use Rattle.std.specs.Prelude.{slice_get, is_none}
use Rattle.std.specs.Option.{option_map_or}
use Rattle.std.proofs.lemmas.Bool.{false≢true, true≢false, and_from, or_left, or_right, eqb-true, lt-ltb}
use Rattle.std.proofs.lemmas.Option.{none-some, slice_get_cases}
use Rattle.plank_base.specs.declared.keys.Key.{Key}
use Rattle.plank_base.specs.Keys.{is_at_most, is_ordinary}
use Rattle.plank_base.specs.Paths.{here}
use Rattle.plank_base.proofs.KeyOrder.{total_keys, min_at_most, at_most_max}
use Rattle.plank_prog.specs.declared.headers.StartNode.{StartNode}
use Rattle.plank_prog.specs.declared.headers.Header.{Header}
use Rattle.plank_prog.proofs.HeaderFacts.{root_within, start_key_is_end}
use Rattle.plank_heap.specs.Walks.{walk_visits}
use Rattle.plank_pic.specs.declared.parts.KeyName.{KeyName}
use Rattle.plank_pic.specs.declared.parts.Term.{Term}
use Rattle.plank_pic.specs.declared.parts.Place.{Place}
use Rattle.plank_pic.specs.declared.parts.Part.{Part}
use Rattle.plank_pic.specs.Frames.{Frame}
use Rattle.plank_pic.specs.Pictures.{Picture}
use Rattle.plank_pic.specs.Lawful.{place_fits, term_fits, end_term, root_term, lies_between_ends, is_ordinary_key, root_is_right, root_is_visited, own_is_unvisited, own_is_unreached, chain_of_itself, IsPossible}
use Rattle.plank_scene.specs.Scenes.{Scene, node_at, leads, leads_from, is_shared_in, key_in, shown}
use Rattle.plank_scene.specs.Worlds.{IsInWorld}
use Rattle.plank_scene.proofs.Scenes.Showing.{is_node_at, is_node_true, on_true, on_at, implies, shown_says, shown_true}
use Rattle.plank_scene.proofs.Scenes.Paths.{path_visit}
use Rattle.plank_scene.proofs.Scenes.Targets.{goes_on}
use Rattle.plank_scene.proofs.Scenes.Chains.{chain_shown, begins, chain_onward, grows, pick_right, pick_one, stop_right}
use Rattle.plank_scene.proofs.Scenes.Pictured.{shows_picture, order_shown, leads_told, fits_name}

at_most_itself : (a : Key) → is_at_most a a ≡ true
at_most_itself a = elim (total_keys a a) [ inl e ↦ e | inr e ↦ e ]

-- the name of the root
root_is : (o : Option ℕ) (i : ℕ) → option_map_or (λ r. r == i) o false ≡ true → o ≡ Some i
root_is None i e = absurd (false≢true e)
root_is (Some r) i e = ap Some (eqb-true r i e)

-- a pointer of the node of a name
pub from_name : (S : Scene) (o : Option ℕ) (f z : ℕ) → leads_from S o f ≡ Some z → (y : ℕ) × (o ≡ Some y) × (leads S y f ≡ Some z)
from_name S None f z e = absurd (none-some z e)
from_name S (Some y) f z e = (y, refl, e)

module _ (F : Frame) (S : Scene) (is : IsInWorld F S) where
  abbrev H : Header
  H = F.header

  abbrev P : Picture
  P = shown F S

  ends : (t : Term) → term_fits F t ≡ true → lies_between_ends P t ≡ true
  ends t fits = and_from _ _ (order_shown F S Term.Min t refl fits ∙ min_at_most (key_in F S t)) (order_shown F S t Term.Max fits refl ∙ at_most_max (key_in F S t))

  ordinary : (k : KeyName) → is_ordinary_key P k ≡ true
  ordinary k = refl

  -- ---- the root

  end_is : (key : Key) → is_ordinary key ≡ false → (term_fits F (end_term key) ≡ true) × (key_in F S (end_term key) ≡ key)
  end_is Key.Min e = (refl, refl)
  end_is (Key.Num j) e = absurd (true≢false e)
  end_is Key.Max e = (refl, refl)

  start_found : (n : StartNode) × (slice_get H.nodes H.root ≡ Some n)
  start_found = elim (slice_get_cases H.nodes H.root).1 [
    | inl found ↦ (found.0, found.2)
    | inr past ↦ absurd (let le = past.0 in let lt = root_within H is.scene.lawful in omega arith)
  ]

  root_term_is : (term_fits F (root_term F) ≡ true) × (key_in F S (root_term F) ≡ start_found.0.key)
  root_term_is =
      let n = start_found in
      let at : root_term F ≡ end_term n.0.key = ap (λ o. option_map_or (λ (m : StartNode). end_term m.key) o Term.Max) n.1 in
      let w = end_is n.0.key (start_key_is_end H is.scene.lawful H.root n.0 n.1) in
      (ap (term_fits F) at ∙ w.0, ap (key_in F S) at ∙ w.1)

  root_right : (i : ℕ) → i < F.names → root_is_right F P i ≡ true
  root_right i bi =
      implies _ _ (λ e.
      let named = is.root_named i (root_is F.root i e) in
      let fits = lt-ltb i F.names bi in
      let key : key_in F S (Term.Node i) ≡ start_found.0.key = ap (λ o. option_map_or (λ x. (node_at S x).key) o Key.Min) named ∙ is.root_key start_found.0 start_found.1 in
      let term = root_term_is in
      and_from _ _ (and_from _ _ (ap not (shown_says F S (Part.Null i) fits ∙ ap is_none named)) (shown_says F S (Part.Shared i) fits ∙ on_at (is_shared_in S) named ∙ is.root_shared))
      (and_from _ _
      (order_shown F S (Term.Node i) (root_term F) fits term.0 ∙ ap (λ a. is_at_most a (key_in F S (root_term F))) key ∙ ap (is_at_most start_found.0.key) term.1 ∙ at_most_itself start_found.0.key)
      (order_shown F S (root_term F) (Term.Node i) term.0 fits ∙ ap (is_at_most (key_in F S (root_term F))) key ∙ ap (λ a. is_at_most a start_found.0.key) term.1 ∙ at_most_itself start_found.0.key)))

  root_visited : (k : KeyName) (i : ℕ) → i < F.names → root_is_visited F P k i ≡ true
  root_visited k i bi =
      implies _ _ (λ e.
      let named = is.root_named i (root_is F.root i e) in
      shown_says F S (Part.Visits k i) (lt-ltb i F.names bi) ∙ on_at (walk_visits H S.heap (S.walked k)) named ∙ path_visit H S is.scene.owned k S.heap.root.0 here)

  -- ---- nodes that are not shared

  unvisited : (k : KeyName) (i : ℕ) → i < F.names → own_is_unvisited P k i ≡ true
  unvisited k i bi =
      implies _ _ (λ e.
      let w = on_true (walk_visits H S.heap (S.walked k)) (S.named i) (shown_true F S (Part.Visits k i) e).1 in
      shown_says F S (Part.Shared i) (lt-ltb i F.names bi) ∙ on_at (is_shared_in S) w.1 ∙ is.visited_shared k w.0 w.2)

  unreached : (x : Place) (j : ℕ) → place_fits F x ≡ true → j < F.names → own_is_unreached P x j ≡ true
  unreached x j fits bj =
      implies _ _ (λ e.
      let w = leads_told F S x j e in
      let v = from_name S (S.named x.name) x.pointer w.0 w.1 in
      elim (is.own_apart v.0 x.pointer w.0 v.2) [
        | inl shared ↦ or_left _ _ (shown_says F S (Part.Shared j) (lt-ltb j F.names bj) ∙ on_at (is_shared_in S) w.2 ∙ shared)
        | inr same ↦ or_right _ _ (shown_says F S (Part.Same x.name j) (and_from _ _ (fits_name F x fits) (lt-ltb j F.names bj)) ∙ is_node_at v.1 (w.2 ∙ ap Some (sym same)))
      ])

  chain_itself : (i j : ℕ) → i < F.names → j < F.names → chain_of_itself P i j ≡ true
  chain_itself i j bi bj =
      implies _ _ (λ e.
      let w = is_node_true (S.named i) (S.named j) (shown_true F S (Part.Same i j) e).1 in
      chain_shown F S is.scene i j w.0 w.0 bi bj w.1 w.2 here)

  pub shows_possible : IsPossible F P
  shows_possible = record {
    picture = shows_picture F S;
    ends = ends;
    ordinary = ordinary;
    root = root_right;
    root_visited = root_visited;
    unvisited = unvisited;
    unreached = unreached;
    goes_on = goes_on F S is.scene;
    stops = stop_right F S is.scene;
    chain_itself = chain_itself;
    chain_first = begins F S is.scene;
    chain_on = chain_onward F S is.scene;
    chain_end = grows F S is.scene;
    pick = pick_right F S is.scene;
    pick_once = λ k i j bi bj. pick_one F S is.scene k i j;
  }
