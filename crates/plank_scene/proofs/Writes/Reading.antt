-- A picture that tells the fields of one scene and the chains and stop nodes of another, as the mixed picture of a write
-- does: its edges are the walk's, and its targets are names of nodes.
use Rattle.std.proofs.Common.{◌≡◌, ℕ, ◌<◌, Bool, true, false, not, List, length, Option, Some, None, refl, sym, ◌∙◌, ap, subst, arith, zero, suc}
use Rattle.std.specs.Prelude.{◌&&◌, nat_lt, is_some, is_none, if◌then◌else◌}
use Rattle.std.specs.Option.{option_map_or}
use Rattle.std.proofs.lemmas.Bool.{true≢false, and_parts, and_from, not-true}
use Rattle.std.proofs.lemmas.Option.{none-some, same_Some}
use Rattle.plank_base.specs.Paths.{Path, here, onward}
use Rattle.plank_base.specs.declared.keys.Key.{Key}
use Rattle.plank_prog.specs.declared.headers.Header.{Header}
use Rattle.plank_prog.specs.declared.headers.Pointer.{Pointer}
use Rattle.plank_prog.specs.Views.{admits}
use Rattle.plank_heap.specs.declared.heaps.Heap.{Heap}
use Rattle.plank_heap.specs.Walks.{next_from}
use Rattle.plank_pic.specs.declared.parts.KeyName.{KeyName}
use Rattle.plank_pic.specs.declared.parts.Target.{Target}
use Rattle.plank_pic.specs.declared.parts.Part.{Part}
use Rattle.plank_pic.specs.Frames.{Frame}
use Rattle.plank_pic.specs.Below.{least_below}
use Rattle.plank_pic.specs.Pictures.{Picture, place, leads_to, chains_on, node_view, edge, target, pointer_target, outer_target, chain_target, stop_view, view_admits, goes}
use Rattle.plank_pic.specs.Lawful.{slot_count}
use Rattle.plank_pic.specs.declared.parts.Term.{Term}
use Rattle.plank_pic.proofs.Below.{least_some, least_none, least_first}
use Rattle.plank_scene.specs.Scenes.{Scene, node_at, leads, is_node, fast_next, is_chain, stop_node, shown, key_in}
use Rattle.plank_scene.specs.Worlds.{IsScene}
use Rattle.plank_scene.specs.Writes.{with_heap}
use Rattle.plank_scene.proofs.Scenes.Showing.{on_both_true, is_node_at, is_node_true, shown_says, shown_true}
use Rattle.plank_scene.proofs.Scenes.Paths.{chain_path}
use Rattle.plank_scene.proofs.Scenes.Edges.{goes_at, first_goes, none_goes}
use Rattle.plank_scene.proofs.Scenes.Views.{IsViewOf, view_admits_is, one_there, not_none}
use Rattle.plank_scene.proofs.Walks.Passing.{move_of, move}

-- a picture tells the fields of one scene, and the chains and stop nodes of another with the same names
pub record Reads (F : Frame) (P : Picture) (S T : Scene) (k : KeyName) : Type 0 where
  pub same_names : T.named ≡ S.named
  pub null : (i y f : ℕ) → i < F.names → S.named i ≡ Some y → f < length F.header.pointers → P (Part.PointerNull (place i f)) ≡ is_none (leads T y f)
  pub view : (i y : ℕ) → i < F.names → S.named i ≡ Some y → IsViewOf F.header (node_view P k i) (node_at T y).key (node_at T y).flags (Key.Num (T.walked k))
  pub leads_to : (i y f j : ℕ) → i < F.names → S.named i ≡ Some y → f < length F.header.pointers → j < F.names → P (Part.Leads (place i f) j) ≡ is_node (leads T y f) (S.named j)
  pub same : (i j : ℕ) → P (Part.Same i j) ≡ shown F S (Part.Same i j)
  pub chain : (i j : ℕ) → P (Part.Chain i j) ≡ shown F S (Part.Chain i j)
  pub picks : (i j s : ℕ) → P (Part.Picks k i j s) ≡ shown F S (Part.Picks k i j s)
  pub stop : (s z : ℕ) → s < slot_count F → stop_node F.header S k s ≡ Some z → IsViewOf F.header (stop_view P k s) (node_at S z).key (node_at S z).flags (Key.Num (S.walked k))

-- where nodes keep their keys, all keys are the same with another heap
module _ (F : Frame) (S : Scene) (heap : Heap) (owners : List (Option ℕ)) (spent : Bool) (same : (y : ℕ) → (node_at (with_heap S heap owners spent) y).key ≡ (node_at S y).key) where
  abbrev later : Scene
  later = with_heap S heap owners spent

  of_node : (o : Option ℕ) → option_map_or (λ y. (node_at later y).key) o Key.Min ≡ option_map_or (λ y. (node_at S y).key) o Key.Min
  of_node None = refl
  of_node (Some y) = same y

  pub keys_stay : (t : Term) → key_in F later t ≡ key_in F S t
  keys_stay (Term.Node i) = of_node (S.named i)
  keys_stay Term.Min = refl
  keys_stay Term.Max = refl
  keys_stay (Term.Walked k) = refl
  keys_stay (Term.Stop k zero) = of_node (stop_node F.header S k zero)
  keys_stay (Term.Stop k (suc s)) = of_node (stop_node F.header S k (suc s))

module _ (F : Frame) (P : Picture) (S T : Scene) (k : KeyName) (isS : IsScene F S) (isT : IsScene F T) (reads : Reads F P S T k) where
  abbrev H : Header
  H = F.header

  -- ---- the edge is the pointer that the walk goes through

  module _ (i y : ℕ) (below : i < F.names) (named : S.named i ≡ Some y) where
    abbrev adm : Pointer → Bool
    adm p = admits p (node_at T y).key (node_at T y).flags (T.walked k)

    goes_is : (f : ℕ) → f < length H.pointers → goes H P k i f ≡ goes_at adm H.pointers (node_at T y).pointers f
    goes_is f few =
        ap (λ b. not b && view_admits H (node_view P k i) f) (reads.null i y f below named few)
        ∙ ap (λ b. b && view_admits H (node_view P k i) f) (not_none (leads T y f))
        ∙ ap (λ b. is_some (leads T y f) && b) (view_admits_is H (node_view P k i) (node_at T y).key (node_at T y).flags (T.walked k) (reads.view i y below named) isT.lawful f)

    pub some_edge : (f : ℕ) → edge H P k i ≡ Some f → (f < length H.pointers) × (next_from H (T.walked k) (node_at T y) ≡ leads T y f) × ((a : ℕ) × (leads T y f ≡ Some a))
    some_edge f e =
        let least = least_some (goes H P k i) (length H.pointers) f e in
        let here : goes_at adm H.pointers (node_at T y).pointers f ≡ true = sym (goes_is f least.0) ∙ least.1 in (
          least.0,
          first_goes adm H.pointers (node_at T y).pointers f here
              (λ g before. let few : g < length H.pointers = (let b : f < length H.pointers = least.0 in omega arith) in
              sym (goes_is g few) ∙ least_first (goes H P k i) (length H.pointers) f e g before),
          one_there (leads T y f) (and_parts _ _ here).0,
        )

    pub no_edge : edge H P k i ≡ None → next_from H (T.walked k) (node_at T y) ≡ None
    no_edge e = none_goes adm H.pointers (node_at T y).pointers
        (λ g few. sym (goes_is g few) ∙ least_none (goes H P k i) (length H.pointers) e g few)

  -- ---- targets are names of nodes

  abbrev IsName : ℕ → Type 0
  IsName m = (m < F.names) × ((z : ℕ) × (S.named m ≡ Some z))

  pub chain_end_named : (i q : ℕ) → chains_on P i q ≡ true → (x y : ℕ) × (S.named i ≡ Some x) × (S.named q ≡ Some y) × Path (fast_next H S) x y × (x ≡ y → ⊥)
  chain_end_named i q e =
      let both = and_parts (P (Part.Chain i q)) (not (P (Part.Same i q))) e in
      let shows = shown_true F S (Part.Chain i q) (sym (reads.chain i q) ∙ both.0) in
      let fits = and_parts (nat_lt i F.names) (nat_lt q F.names) shows.0 in
      let w = on_both_true (is_chain H S) (S.named i) (S.named q) shows.1 in (
        w.0,
        w.1,
        w.2,
        w.3,
        chain_path H S isS.owned w.0 w.1 w.4,
        λ same. true≢false (sym (shown_says F S (Part.Same i q) (and_from _ _ fits.0 fits.1) ∙ is_node_at w.2 (w.3 ∙ ap Some (sym same))) ∙ sym (reads.same i q) ∙ not-true (P (Part.Same i q)) both.1),
      )

  name_chain : (i q : ℕ) (o r : Bool) → q < F.names → (z : ℕ) → S.named q ≡ Some z → (m : ℕ) → move_of (if o then Target.Stops i q 0 else if r then Target.Stops i q 1 else Target.Jumps q) ≡ Some m → IsName m
  name_chain i q true r h z e m d = absurd (none-some m d)
  name_chain i q false true h z e m d = absurd (none-some m d)
  name_chain i q false false h z e m d = subst IsName (same_Some q m d) (h, (z, e))

  name_outer : (i f : ℕ) (o : Option ℕ) → least_below (chains_on P i) F.names ≡ o → (m : ℕ) → move_of (elim o [ Some q ↦ chain_target P k i q | None ↦ Target.Out (place i f) ]) ≡ Some m → IsName m
  name_outer i f None e m d = absurd (none-some m d)
  name_outer i f (Some q) e m d =
      let found = least_some (chains_on P i) F.names q e in
      let w = chain_end_named i q found.1 in
      name_chain i q (P (Part.Picks k i q 0)) (P (Part.Picks k i q 1)) found.0 w.1 w.3 m d

  name_pointer : (i y f : ℕ) → i < F.names → S.named i ≡ Some y → f < length H.pointers → (o : Option ℕ) → least_below (leads_to P (place i f)) F.names ≡ o → (m : ℕ) → move_of (elim o [ Some j ↦ Target.To j | None ↦ outer_target F P k i f ]) ≡ Some m → IsName m
  name_pointer i y f below named few None e m d = name_outer i f (least_below (chains_on P i) F.names) refl m d
  name_pointer i y f below named few (Some j) e m d =
      let found = least_some (leads_to P (place i f)) F.names j e in
      let w = is_node_true (leads T y f) (S.named j) (sym (reads.leads_to i y f j below named few found.0) ∙ found.1) in
      subst IsName (same_Some j m d) (found.0, (w.0, w.2))

  name_edge : (i y : ℕ) → i < F.names → S.named i ≡ Some y → (o : Option ℕ) → edge H P k i ≡ o → (m : ℕ) → move_of (elim o [ Some f ↦ pointer_target F P k i f | None ↦ Target.Ends ]) ≡ Some m → IsName m
  name_edge i y below named None e m d = absurd (none-some m d)
  name_edge i y below named (Some f) e m d =
      name_pointer i y f below named (some_edge i y below named f e).0 (least_below (leads_to P (place i f)) F.names) refl m d

  pub next_named : (i m : ℕ) → IsName i → move (target F P k) i ≡ Some m → IsName m
  next_named i m is d = name_edge i is.1.0 is.0 is.1.1 (edge H P k i) refl m d

  pub path_named : (i m : ℕ) → IsName i → Path (move (target F P k)) i m → IsName m
  path_named i m is here = is
  path_named i m is (onward {m = n} d p) = path_named n m (next_named i n is d) p
