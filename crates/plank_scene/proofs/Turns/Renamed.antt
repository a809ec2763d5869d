-- The picture of a scene with other names is the renamed picture: each part is that of the nodes that are named.
use Rattle.std.proofs.Common.{◌≡◌, ℕ, zero, suc, ◌<◌, ◌==◌, Bool, true, false, not, [], ◌∷◌, length, Option, Some, None, refl, sym, ◌∙◌, ap, subst, inl, inr}
use Rattle.std.specs.Prelude.{◌&&◌, nat_lt, slice_get, is_some, is_none, option_map}
use Rattle.std.specs.Option.{option_map_or, option_flatten}
use Rattle.std.proofs.lemmas.Bool.{true≢false, and_parts, and_from, and_left, and_right, or_cases, or_left, or_right, cases_Bool, eq-eqb, lt-ltb, ltb-true, not-true, cond-true, cond-false, false_from_ne_true}
use Rattle.std.proofs.lemmas.Nat.Bits.{bit_at-zero}
use Rattle.std.proofs.lemmas.Option.{none-some}
use Rattle.plank_base.specs.declared.keys.Key.{Key}
use Rattle.plank_base.specs.declared.keys.NodeId.{NodeId}
use Rattle.plank_base.specs.Keys.{is_at_most}
use Rattle.plank_base.specs.Paths.{Path, here, onward}
use Rattle.plank_base.proofs.Digits.{same_tests}
use Rattle.plank_prog.specs.declared.headers.Header.{Header}
use Rattle.plank_prog.specs.Views.{is_bit_set}
use Rattle.plank_heap.specs.declared.nodes.Node.{Node}
use Rattle.plank_heap.specs.Walks.{walk_visits}
use Rattle.plank_pic.specs.declared.parts.KeyName.{KeyName}
use Rattle.plank_pic.specs.declared.parts.Term.{Term}
use Rattle.plank_pic.specs.declared.parts.Place.{Place}
use Rattle.plank_pic.specs.declared.parts.Part.{Part}
use Rattle.plank_pic.specs.Frames.{Frame}
use Rattle.plank_pic.specs.Below.{some_below}
use Rattle.plank_pic.specs.Pictures.{Picture, place}
use Rattle.plank_pic.specs.Lawful.{part_fits, place_fits, term_fits, slot_count}
use Rattle.plank_pic.specs.Steps.{Source, Of, Null, Fresh, of_name, of_both, term_of, moved_term, leads_after, beyond_after, meet_beyond, picks_after, renamed, agrees_with, IsRenaming}
use Rattle.plank_pic.proofs.Below.{some_found, some_there, none_there, some_below_alike}
use Rattle.plank_scene.specs.Scenes.{is_mine_in, has_others_lock, Scene, node_at, leads, leads_from, is_node, is_nameless, is_shared_in, fast_next, is_chain, stop_of, is_in_slot, is_visited_ever, has_lock, key_in, picks_in, on, on_both, shown}
use Rattle.plank_scene.specs.Worlds.{IsScene, renamed_scene, source_node, IsJustAllocated, IsSourced}
use Rattle.plank_scene.proofs.Scenes.Showing.{is_node_true, is_node_same, is_node_at, shown_says}
use Rattle.plank_scene.proofs.Scenes.Paths.{chain_path, path_chain, fast_step}
use Rattle.plank_scene.proofs.Scenes.Pictured.{no_node, none_on_both}
use Rattle.plank_scene.proofs.Writes.Bits.{agree_with}
use Rattle.plank_scene.proofs.Scenes.Views.{not_none}

-- a fresh node has no pointer
pub no_lead : (f : ℕ) → option_map (λ (to : NodeId). to.0) (option_flatten (slice_get (None ∷ None ∷ []) f)) ≡ None
no_lead zero = refl
no_lead (suc zero) = refl
no_lead (suc (suc f)) = refl

module _ (F : Frame) (S : Scene) (isS : IsScene F S) (from : ℕ → Source) (named : ℕ → Option ℕ) (x : ℕ) (is : IsSourced F S from named x) where
  abbrev H : Header
  H = F.header

  abbrev A : Scene
  A = renamed_scene S named

  abbrev W : Picture
  W = shown F S

  abbrev V : Picture
  V = shown F A

  named_by : (i : ℕ) (s : Source) → i < F.names → from i ≡ s → source_node S x s ≡ named i
  named_by i s bi e = sym (is.sources i bi ∙ ap (source_node S x) e)

  -- ---- parts of one name

  by_source : (i : ℕ) → i < F.names → (t : Option ℕ → Bool) (w : ℕ → Bool) (fresh : Bool) → ((n : ℕ) → n < F.names → w n ≡ t (S.named n)) → (IsJustAllocated F S x → fresh ≡ t (Some x)) → of_name w (t None) fresh (from i) ≡ t (named i)
  by_source i bi t w fresh old new = go (from i) refl
    where
      go : (s : Source) → from i ≡ s → of_name w (t None) fresh s ≡ t (named i)
      go (Of n) e = old n (is.within i n bi e) ∙ ap t (named_by i (Of n) bi e)
      go Null e = ap t (named_by i Null bi e)
      go Fresh e = new (is.allocated i bi e) ∙ ap t (named_by i Fresh bi e)

  -- ---- parts of two names

  by_sources : (i j : ℕ) → i < F.names → j < F.names → (t : Option ℕ → Option ℕ → Bool) (w : ℕ → ℕ → Bool) (fresh : Bool)
      → ((n m : ℕ) → n < F.names → m < F.names → w n m ≡ t (S.named n) (S.named m))
      → ((r : Option ℕ) → t None r ≡ false) → ((o : Option ℕ) → t o None ≡ false)
      → (IsJustAllocated F S x → (fresh ≡ t (Some x) (Some x)) × ((n : ℕ) → n < F.names → (t (S.named n) (Some x) ≡ false) × (t (Some x) (S.named n) ≡ false)))
      → of_both w fresh (from i) (from j) ≡ t (named i) (named j)
  by_sources i j bi bj t w fresh old left right new = go (from i) (from j) refl refl
    where
      both : (s r : Source) → from i ≡ s → from j ≡ r → t (source_node S x s) (source_node S x r) ≡ t (named i) (named j)
      both s r e d = ap (λ o. t o (source_node S x r)) (named_by i s bi e) ∙ ap (t (named i)) (named_by j r bj d)

      go : (s r : Source) → from i ≡ s → from j ≡ r → of_both w fresh s r ≡ t (named i) (named j)
      go (Of n) (Of m) e d = old n m (is.within i n bi e) (is.within j m bj d) ∙ both (Of n) (Of m) e d
      go (Of n) Null e d = sym (right (S.named n)) ∙ both (Of n) Null e d
      go (Of n) Fresh e d = sym ((new (is.allocated j bj d)).1 n (is.within i n bi e)).0 ∙ both (Of n) Fresh e d
      go Null (Of m) e d = sym (left (S.named m)) ∙ both Null (Of m) e d
      go Null Null e d = sym (left None) ∙ both Null Null e d
      go Null Fresh e d = sym (left (Some x)) ∙ both Null Fresh e d
      go Fresh (Of m) e d = sym ((new (is.allocated i bi e)).1 m (is.within j m bj d)).1 ∙ both Fresh (Of m) e d
      go Fresh Null e d = sym (right (Some x)) ∙ both Fresh Null e d
      go Fresh Fresh e d = (new (is.allocated i bi e)).0 ∙ both Fresh Fresh e d

  -- ---- the fresh node

  module _ (new : IsJustAllocated F S x) where
    not_named : (o : Option ℕ) (n : ℕ) → n < F.names → S.named n ≡ o → (is_node o (Some x) ≡ false) × (is_node (Some x) o ≡ false)
    not_named o n bn e = (
      false_from_ne_true _ (λ d. let w = is_node_true o (Some x) d in new.unnamed n bn (e ∙ w.1 ∙ sym w.2)),
      false_from_ne_true _ (λ d. let w = is_node_true (Some x) o d in new.unnamed n bn (e ∙ w.2 ∙ sym w.1)),
    )

    fresh_lead : (f : ℕ) → leads S x f ≡ None
    fresh_lead f = ap (λ (z : Node). option_map (λ (to : NodeId). to.0) (option_flatten (slice_get z.pointers f))) new.fields ∙ no_lead f

    -- no chain but that of itself
    chain_to : (y : ℕ) → Path (fast_next H S) y x → y ≡ x
    chain_to y here = refl
    chain_to y (onward {m} e p) =
        let same = chain_to m p in
        absurd (new.unreached y 0 (subst (λ z. leads S y 0 ≡ Some z) same (fast_step H S isS.owned y m e).2))

    chain_from : (y : ℕ) → Path (fast_next H S) x y → x ≡ y
    chain_from y here = refl
    chain_from y (onward {m} e p) = absurd (none-some m (sym (fresh_lead 0) ∙ (fast_step H S isS.owned x m e).2))

    no_chain : (n : ℕ) → n < F.names → (on_both (is_chain H S) (S.named n) (Some x) ≡ false) × (on_both (is_chain H S) (Some x) (S.named n) ≡ false)
    no_chain n bn = by_name (S.named n) refl
      where
        by_name : (o : Option ℕ) → S.named n ≡ o → (on_both (is_chain H S) o (Some x) ≡ false) × (on_both (is_chain H S) (Some x) o ≡ false)
        by_name None e = (refl, refl)
        by_name (Some y) e = (
          false_from_ne_true _ (λ c. new.unnamed n bn (e ∙ ap Some (chain_to y (chain_path H S isS.owned y x c)))),
          false_from_ne_true _ (λ c. new.unnamed n bn (e ∙ ap Some (sym (chain_from y (chain_path H S isS.owned x y c))))),
        )

  -- ---- pointers

  abbrev to : Scene → Place → Option ℕ
  to U p = leads_from U (U.named p.name) p.pointer

  fits_parts : (p : Place) → place_fits F p ≡ true → (p.name < F.names) × (nat_lt p.pointer (length H.pointers) ≡ true)
  fits_parts p e = let w = and_parts (nat_lt p.name F.names) (nat_lt p.pointer (length H.pointers)) e in (ltb-true _ _ w.0, w.1)

  place_at : (p : Place) (n : ℕ) → place_fits F p ≡ true → n < F.names → place_fits F (place n p.pointer) ≡ true
  place_at p n fits bn = and_from _ _ (lt-ltb n F.names bn) (fits_parts p fits).1

  leads_so : (p : Place) (j : ℕ) → place_fits F p ≡ true → j < F.names → leads_after F from W p j ≡ is_node (to A p) (named j)
  leads_so p j fits bj =
      by_sources p.name j (fits_parts p fits).0 bj (λ o r. is_node (leads_from S o p.pointer) r) (λ n m. W (Part.Leads (place n p.pointer) m)) false
      (λ n m bn bm. shown_says F S (Part.Leads (place n p.pointer) m) (and_from _ _ (place_at p n fits bn) (lt-ltb m F.names bm)))
      (λ r. refl) (λ o. no_node (leads_from S o p.pointer))
      (λ new. (
        sym (ap (λ o. is_node o (Some x)) (fresh_lead new p.pointer)),
        λ n bn. (no_leads new (S.named n), ap (λ o. is_node o (S.named n)) (fresh_lead new p.pointer)),
      ))
    where
      no_leads : IsJustAllocated F S x → (o : Option ℕ) → is_node (leads_from S o p.pointer) (Some x) ≡ false
      no_leads new None = refl
      no_leads new (Some y) = false_from_ne_true _ (λ d. let w = is_node_true (leads S y p.pointer) (Some x) d in new.unreached y p.pointer (w.1 ∙ sym w.2))

  -- a pointer of a name that is not null
  there_so : (p : Place) → place_fits F p ≡ true → of_name (λ n. not (W (Part.Null n)) && not (W (Part.PointerNull (place n p.pointer)))) false false (from p.name) ≡ is_some (to A p)
  there_so p fits =
      by_source p.name (fits_parts p fits).0 (λ o. is_some (leads_from S o p.pointer)) (λ n. not (W (Part.Null n)) && not (W (Part.PointerNull (place n p.pointer)))) false
      (λ n bn. ap (λ b. not b && not (W (Part.PointerNull (place n p.pointer)))) (shown_says F S (Part.Null n) (lt-ltb n F.names bn))
      ∙ ap (λ b. not (is_none (S.named n)) && not b) (shown_says F S (Part.PointerNull (place n p.pointer)) (place_at p n fits bn)) ∙ there (S.named n))
      (λ new. sym (ap is_some (fresh_lead new p.pointer)))
    where
      there : (o : Option ℕ) → (not (is_none o) && not (on (λ y. is_none (leads S y p.pointer)) o)) ≡ is_some (leads_from S o p.pointer)
      there None = refl
      there (Some y) = not_none (leads S y p.pointer)

  beyond_so : (p : Place) → place_fits F p ≡ true → beyond_after F from W p ≡ is_nameless F A (to A p)
  beyond_so p fits =
      ap (λ b. b && not (some_below (leads_after F from W p) F.names)) (there_so p fits)
      ∙ ap (λ b. is_some (to A p) && not b) (some_below_alike (leads_after F from W p) (λ j. is_node (to A p) (named j)) F.names (λ j bj. leads_so p j fits bj))

  -- two pointers of named nodes lead to one node
  meet_so : (p q : Place) (n m : ℕ) → place_fits F p ≡ true → place_fits F q ≡ true → n < F.names → m < F.names → meet_beyond F W (place n p.pointer) (place m q.pointer) ≡ is_node (leads_from S (S.named n) p.pointer) (leads_from S (S.named m) q.pointer)
  meet_so p q n m fp fq bn bm =
      same_tests _ _
      (λ e. elim (or_cases (W (Part.SameBeyond (place n p.pointer) (place m q.pointer))) _ e) [
        | inl a ↦ (and_parts (is_nameless F S (leads_from S (S.named n) p.pointer)) _ (sym (shown_says F S (Part.SameBeyond (place n p.pointer) (place m q.pointer)) (and_from _ _ fits_p fits_q)) ∙ a)).1
        | inr b ↦
            let w = some_found (λ h. W (Part.Leads (place n p.pointer) h) && W (Part.Leads (place m q.pointer) h)) F.names b in
            let v = and_parts (W (Part.Leads (place n p.pointer) w.0)) (W (Part.Leads (place m q.pointer) w.0)) w.2 in
            let a = is_node_true (leads_from S (S.named n) p.pointer) (S.named w.0) (sym (shown_says F S (Part.Leads (place n p.pointer) w.0) (and_from _ _ fits_p (lt-ltb w.0 F.names w.1))) ∙ v.0) in
            let c = is_node_true (leads_from S (S.named m) q.pointer) (S.named w.0) (sym (shown_says F S (Part.Leads (place m q.pointer) w.0) (and_from _ _ fits_q (lt-ltb w.0 F.names w.1))) ∙ v.1) in
            is_node_at a.1 (c.1 ∙ sym c.2 ∙ a.2)
      ])
      (λ e.
      let w = is_node_true (leads_from S (S.named n) p.pointer) (leads_from S (S.named m) q.pointer) e in
      elim (cases_Bool (some_below (λ h. is_node (leads_from S (S.named n) p.pointer) (S.named h)) F.names)) [
        | inr c ↦ or_left _ _ (shown_says F S (Part.SameBeyond (place n p.pointer) (place m q.pointer)) (and_from _ _ fits_p fits_q) ∙ and_from _ _ (and_from _ _ (ap is_some w.1) (ap not c)) e)
        | inl c ↦
            let h = some_found (λ h. is_node (leads_from S (S.named n) p.pointer) (S.named h)) F.names c in
            let v = is_node_true (leads_from S (S.named n) p.pointer) (S.named h.0) h.2 in
            or_right _ _ (some_there (λ h. W (Part.Leads (place n p.pointer) h) && W (Part.Leads (place m q.pointer) h)) F.names h.0 h.1
            (and_from _ _ (shown_says F S (Part.Leads (place n p.pointer) h.0) (and_from _ _ fits_p (lt-ltb h.0 F.names h.1)) ∙ h.2)
            (shown_says F S (Part.Leads (place m q.pointer) h.0) (and_from _ _ fits_q (lt-ltb h.0 F.names h.1)) ∙ is_node_at w.2 (v.2 ∙ sym v.1 ∙ w.1))))
      ])
    where
      fits_p : place_fits F (place n p.pointer) ≡ true
      fits_p = place_at p n fp bn

      fits_q : place_fits F (place m q.pointer) ≡ true
      fits_q = place_at q m fq bm

  meets_after : (p q : Place) → place_fits F p ≡ true → place_fits F q ≡ true → of_both (λ n m. meet_beyond F W (place n p.pointer) (place m q.pointer)) false (from p.name) (from q.name) ≡ is_node (to A p) (to A q)
  meets_after p q fp fq =
      by_sources p.name q.name (fits_parts p fp).0 (fits_parts q fq).0 (λ o r. is_node (leads_from S o p.pointer) (leads_from S r q.pointer)) (λ n m. meet_beyond F W (place n p.pointer) (place m q.pointer)) false
      (λ n m bn bm. meet_so p q n m fp fq bn bm)
      (λ r. refl) (λ o. no_node (leads_from S o p.pointer))
      (λ new. (
        sym (ap (λ o. is_node o (leads S x q.pointer)) (fresh_lead new p.pointer)),
        λ n bn. (ap (is_node (leads_from S (S.named n) p.pointer)) (fresh_lead new q.pointer) ∙ no_node (leads_from S (S.named n) p.pointer), ap (λ o. is_node o (leads_from S (S.named n) q.pointer)) (fresh_lead new p.pointer)),
      ))

  same_beyond_so : (p q : Place) → place_fits F p ≡ true → place_fits F q ≡ true → (beyond_after F from W p && beyond_after F from W q && of_both (λ n m. meet_beyond F W (place n p.pointer) (place m q.pointer)) false (from p.name) (from q.name)) ≡ (is_nameless F A (to A p) && is_node (to A p) (to A q))
  same_beyond_so p q fp fq =
      ap (λ b. b && beyond_after F from W q && of_both (λ n m. meet_beyond F W (place n p.pointer) (place m q.pointer)) false (from p.name) (from q.name)) (beyond_so p fp)
      ∙ ap (λ b. is_nameless F A (to A p) && b && of_both (λ n m. meet_beyond F W (place n p.pointer) (place m q.pointer)) false (from p.name) (from q.name)) (beyond_so q fq)
      ∙ ap (λ b. is_nameless F A (to A p) && is_nameless F A (to A q) && b) (meets_after p q fp fq)
      ∙ once (to A p) (to A q)
    where
      once : (o r : Option ℕ) → (is_nameless F A o && is_nameless F A r && is_node o r) ≡ (is_nameless F A o && is_node o r)
      once o r = elim (cases_Bool (is_node o r)) [
        | inr c ↦ and_right (is_nameless F A o && is_nameless F A r) _ c ∙ sym (and_right (is_nameless F A o) _ c)
        | inl c ↦
            let w = is_node_true o r c in
            let same : r ≡ o = w.2 ∙ sym w.1 in
            ap (λ s. is_nameless F A o && is_nameless F A s && is_node o r) same ∙ ap (λ b. b && is_node o r) (twice (is_nameless F A o))
      ]
        where
          twice : (b : Bool) → (b && b) ≡ b
          twice true = refl
          twice false = refl

  -- ---- keys

  moved_fits : (t : Term) → term_fits F t ≡ true → term_fits F (moved_term from t) ≡ true
  moved_fits (Term.Node i) fits = go (from i) refl
    where
      go : (s : Source) → from i ≡ s → term_fits F (term_of s) ≡ true
      go (Of n) e = lt-ltb n F.names (is.within i n (ltb-true i F.names fits) e)
      go Null e = refl
      go Fresh e = refl
  moved_fits Term.Min fits = refl
  moved_fits Term.Max fits = refl
  moved_fits (Term.Walked k) fits = refl
  moved_fits (Term.Stop k s) fits = fits

  moved_key : (t : Term) → term_fits F t ≡ true → key_in F S (moved_term from t) ≡ key_in F A t
  moved_key (Term.Node i) fits = go (from i) refl
    where
      bi : i < F.names
      bi = ltb-true i F.names fits

      go : (s : Source) → from i ≡ s → key_in F S (term_of s) ≡ key_in F A (Term.Node i)
      go (Of n) e = ap (λ o. option_map_or (λ y. (node_at S y).key) o Key.Min) (named_by i (Of n) bi e)
      go Null e = ap (λ o. option_map_or (λ y. (node_at S y).key) o Key.Min) (named_by i Null bi e)
      go Fresh e = ap (λ (z : Node). z.key) (sym (is.allocated i bi e).fields) ∙ ap (λ o. option_map_or (λ y. (node_at S y).key) o Key.Min) (named_by i Fresh bi e)
  moved_key Term.Min fits = refl
  moved_key Term.Max fits = refl
  moved_key (Term.Walked k) fits = refl
  moved_key (Term.Stop k zero) fits = refl
  moved_key (Term.Stop k (suc s)) fits = refl

  -- ---- picks

  same_slot : (k : KeyName) (o : Option ℕ) (s : ℕ) → is_in_slot H A k o s ≡ is_in_slot H S k o s
  same_slot k o zero = refl
  same_slot k o (suc s) = refl

  -- what no name was of, none is
  still_nameless : (y f : ℕ) → is_nameless F S (leads S y f) ≡ true → is_nameless F A (leads S y f) ≡ true
  still_nameless y f e =
      let w = and_parts (is_some (leads S y f)) (not (some_below (λ j. is_node (leads S y f) (S.named j)) F.names)) e in
      and_from _ _ w.0 (ap not (none_there (λ j. is_node (leads S y f) (named j)) F.names (λ j bj. false_from_ne_true _ (λ d. by_from j bj (from j) refl (is_node_true (leads S y f) (named j) d) (not-true _ w.1)))))
    where
      by_from : (j : ℕ) → j < F.names → (s : Source) → from j ≡ s → (z : ℕ) × (leads S y f ≡ Some z) × (named j ≡ Some z) → some_below (λ j. is_node (leads S y f) (S.named j)) F.names ≡ false → ⊥
      by_from j bj (Of n) e w none = true≢false (sym (some_there (λ j. is_node (leads S y f) (S.named j)) F.names n (is.within j n bj e) (is_node_at w.1 (named_by j (Of n) bj e ∙ w.2))) ∙ none)
      by_from j bj Null e w none = none-some w.0 (named_by j Null bj e ∙ w.2)
      by_from j bj Fresh e w none = (is.allocated j bj e).unreached y f (w.1 ∙ sym w.2 ∙ sym (named_by j Fresh bj e))

  picks_same : (k : KeyName) (s y q : ℕ) → is_nameless F S (leads S y 0) ≡ true → picks_in F S k s y q ≡ picks_in F A k s y q
  picks_same k s y q e =
      ap (λ b. is_chain H S y q && not (y == q) && b && is_visited_ever H S k y && is_in_slot H S k (stop_of H S k y q) s) (e ∙ sym (still_nameless y 0 e))
      ∙ ap (λ b. is_chain H S y q && not (y == q) && is_nameless F A (leads S y 0) && is_visited_ever H S k y && b) (sym (same_slot k (stop_of H S k y q) s))

  no_pick : (k : KeyName) (s y q : ℕ) → (is_chain H S y q && not (y == q)) ≡ false → picks_in F A k s y q ≡ false
  no_pick k s y q e = and_left _ _ (and_left _ _ (and_left _ _ e))

  picks_so : (k : KeyName) (i j s : ℕ) → i < F.names → j < F.names → nat_lt s (slot_count F) ≡ true → agrees_with (picks_after W k s (from i) (from j)) (V (Part.Picks k i j s)) ≡ true
  picks_so k i j s bi bj few = go (from i) (from j) refl refl
    where
      fits : part_fits F (Part.Picks k i j s) ≡ true
      fits = and_from _ _ (and_from _ _ (lt-ltb i F.names bi) (lt-ltb j F.names bj)) few

      both : (a b : Source) → from i ≡ a → from j ≡ b → V (Part.Picks k i j s) ≡ on_both (picks_in F A k s) (source_node S x a) (source_node S x b)
      both a b e d =
          shown_says F A (Part.Picks k i j s) fits ∙ ap (λ o. on_both (picks_in F A k s) o (named j)) (sym (named_by i a bi e))
          ∙ ap (on_both (picks_in F A k s) (source_node S x a)) (sym (named_by j b bj d))

      false_so : V (Part.Picks k i j s) ≡ false → agrees_with (Some false) (V (Part.Picks k i j s)) ≡ true
      false_so e = agree_with refl (sym e)

      apart_to : IsJustAllocated F S x → (o : Option ℕ) → on_both (picks_in F A k s) o (Some x) ≡ false
      apart_to new None = refl
      apart_to new (Some y) = no_pick k s y x (false_from_ne_true _ (λ e.
          let w = and_parts (is_chain H S y x) (not (y == x)) e in
          true≢false (sym (eq-eqb y x (chain_to new y (chain_path H S isS.owned y x w.0))) ∙ not-true (y == x) w.1)))

      apart_from : IsJustAllocated F S x → (o : Option ℕ) → on_both (picks_in F A k s) (Some x) o ≡ false
      apart_from new None = refl
      apart_from new (Some y) = no_pick k s x y (false_from_ne_true _ (λ e.
          let w = and_parts (is_chain H S x y) (not (x == y)) e in
          true≢false (sym (eq-eqb x y (chain_from new y (chain_path H S isS.owned x y w.0))) ∙ not-true (x == y) w.1)))

      old : (n m : ℕ) → n < F.names → m < F.names → W (Part.Beyond (place n 0)) ≡ true → W (Part.Picks k n m s) ≡ on_both (picks_in F A k s) (S.named n) (S.named m)
      old n m bn bm beyond = shown_says F S (Part.Picks k n m s) (and_from _ _ (and_from _ _ (lt-ltb n F.names bn) (lt-ltb m F.names bm)) few) ∙ by_node (S.named n) refl
        where
          by_node : (o : Option ℕ) → S.named n ≡ o → on_both (picks_in F S k s) o (S.named m) ≡ on_both (picks_in F A k s) o (S.named m)
          by_node None e = refl
          by_node (Some y) e = by_other (S.named m)
            where
              nameless : is_nameless F S (leads S y 0) ≡ true
              nameless = ap (λ o. is_nameless F S (leads_from S o 0)) (sym e) ∙ (and_parts (part_fits F (Part.Beyond (place n 0))) (is_nameless F S (leads_from S (S.named n) 0)) beyond).1

              by_other : (r : Option ℕ) → on_both (picks_in F S k s) (Some y) r ≡ on_both (picks_in F A k s) (Some y) r
              by_other None = refl
              by_other (Some q) = picks_same k s y q nameless

      go : (a b : Source) → from i ≡ a → from j ≡ b → agrees_with (picks_after W k s a b) (V (Part.Picks k i j s)) ≡ true
      go (Of n) (Of m) e d = elim (cases_Bool (W (Part.Beyond (place n 0)))) [
        | inr c ↦ ap (λ o. agrees_with o (V (Part.Picks k i j s))) (cond-false (W (Part.Beyond (place n 0))) (Some (W (Part.Picks k n m s))) None c)
        | inl c ↦ agree_with (cond-true (W (Part.Beyond (place n 0))) (Some (W (Part.Picks k n m s))) None c) (old n m (is.within i n bi e) (is.within j m bj d) c ∙ sym (both (Of n) (Of m) e d))
      ]
      go (Of n) Null e d = false_so (both (Of n) Null e d ∙ none_on_both (picks_in F A k s) (S.named n))
      go (Of n) Fresh e d = false_so (both (Of n) Fresh e d ∙ apart_to (is.allocated j bj d) (S.named n))
      go Null b e d = false_so (both Null b e d)
      go Fresh b e d = false_so (both Fresh b e d ∙ apart_from (is.allocated i bi e) (source_node S x b))

  -- ---- the whole

  so : (part : Part) (b : Bool) → renamed F from W part ≡ Some b → b ≡ V part → agrees_with (renamed F from W part) (V part) ≡ true
  so part b e d = agree_with e d

  name_so : (i : ℕ) → nat_lt i F.names ≡ true → (t : Option ℕ → Bool) (w : ℕ → Bool) (fresh : Bool) → ((n : ℕ) → nat_lt n F.names ≡ true → w n ≡ t (S.named n)) → (IsJustAllocated F S x → fresh ≡ t (Some x)) → of_name w (t None) fresh (from i) ≡ t (named i)
  name_so i fits t w fresh old new = by_source i (ltb-true i F.names fits) t w fresh (λ n bn. old n (lt-ltb n F.names bn)) new

  parts_so : (part : Part) → part_fits F part ≡ true → agrees_with (renamed F from W part) (V part) ≡ true
  parts_so (Part.Null i) fits = so (Part.Null i) _ refl (name_so i fits is_none (λ n. W (Part.Null n)) false (λ n h. shown_says F S (Part.Null n) h) (λ new. refl) ∙ sym (shown_says F A (Part.Null i) fits))
  parts_so (Part.Same i j) fits =
      let w = and_parts (nat_lt i F.names) (nat_lt j F.names) fits in
      so (Part.Same i j) _ refl (by_sources i j (ltb-true _ _ w.0) (ltb-true _ _ w.1) is_node (λ n m. W (Part.Same n m)) true
      (λ n m bn bm. shown_says F S (Part.Same n m) (and_from _ _ (lt-ltb n F.names bn) (lt-ltb m F.names bm)))
      (λ r. refl) no_node (λ new. (sym (is_node_same x), λ n bn. not_named new (S.named n) n bn refl)) ∙ sym (shown_says F A (Part.Same i j) fits))
  parts_so (Part.Flag i f) fits =
      let w = and_parts (nat_lt i F.names) (nat_lt f (length H.flags)) fits in
      so (Part.Flag i f) _ refl (name_so i w.0 (on (λ y. is_bit_set (node_at S y).flags f)) (λ n. W (Part.Flag n f)) false (λ n h. shown_says F S (Part.Flag n f) (and_from _ _ h w.1))
      (λ new. sym (ap (λ (z : Node). is_bit_set z.flags f) new.fields ∙ ap (λ b. b == 1) (bit_at-zero f))) ∙ sym (shown_says F A (Part.Flag i f) fits))
  parts_so (Part.Shared i) fits = so (Part.Shared i) _ refl (name_so i fits (on (is_shared_in S)) (λ n. W (Part.Shared n)) false (λ n h. shown_says F S (Part.Shared n) h) (λ new. sym new.own) ∙ sym (shown_says F A (Part.Shared i) fits))
  parts_so (Part.Mine i) fits = so (Part.Mine i) _ refl (name_so i fits (on (is_mine_in S)) (λ n. W (Part.Mine n)) true (λ n h. shown_says F S (Part.Mine n) h) (λ new. sym (and_from _ _ new.mine (ap not new.own))) ∙ sym (shown_says F A (Part.Mine i) fits))
  parts_so (Part.Locked i) fits =
      let w = and_parts (nat_lt i F.names) H.has_lock fits in
      so (Part.Locked i) _ refl (name_so i w.0 (on (λ y. is_some (node_at S y).lock)) (λ n. W (Part.Locked n)) false (λ n h. shown_says F S (Part.Locked n) (and_from _ _ h w.1)) (λ new. sym (ap (λ (z : Node). is_some z.lock) new.fields)) ∙ sym (shown_says F A (Part.Locked i) fits))
  parts_so (Part.LockMine i) fits =
      let w = and_parts (nat_lt i F.names) H.has_lock fits in
      so (Part.LockMine i) _ refl (name_so i w.0 (on (λ y. has_lock S.own (node_at S y))) (λ n. W (Part.LockMine n)) false (λ n h. shown_says F S (Part.LockMine n) (and_from _ _ h w.1)) (λ new. sym (ap (has_lock S.own) new.fields)) ∙ sym (shown_says F A (Part.LockMine i) fits))
  parts_so (Part.LockOthers i) fits =
      let w = and_parts (nat_lt i F.names) H.has_lock fits in
      so (Part.LockOthers i) _ refl (name_so i w.0 (on (λ y. has_others_lock S (node_at S y))) (λ n. W (Part.LockOthers n)) false (λ n h. shown_says F S (Part.LockOthers n) (and_from _ _ h w.1)) (λ new. sym (ap (has_others_lock S) new.fields)) ∙ sym (shown_says F A (Part.LockOthers i) fits))
  parts_so (Part.PointerNull p) fits =
      so (Part.PointerNull p) _ refl (by_source p.name (fits_parts p fits).0 (on (λ y. is_none (leads S y p.pointer))) (λ n. W (Part.PointerNull (place n p.pointer))) true
      (λ n bn. shown_says F S (Part.PointerNull (place n p.pointer)) (place_at p n fits bn)) (λ new. sym (ap is_none (fresh_lead new p.pointer))) ∙ sym (shown_says F A (Part.PointerNull p) fits))
  parts_so (Part.Beyond p) fits = so (Part.Beyond p) _ refl (beyond_so p fits ∙ sym (shown_says F A (Part.Beyond p) fits))
  parts_so (Part.Leads p j) fits =
      let w = and_parts (place_fits F p) (nat_lt j F.names) fits in
      so (Part.Leads p j) _ refl (leads_so p j w.0 (ltb-true _ _ w.1) ∙ sym (shown_says F A (Part.Leads p j) fits))
  parts_so (Part.SameBeyond p q) fits =
      let w = and_parts (place_fits F p) (place_fits F q) fits in
      so (Part.SameBeyond p q) _ refl (same_beyond_so p q w.0 w.1 ∙ sym (shown_says F A (Part.SameBeyond p q) fits))
  parts_so (Part.AtMost s t) fits =
      let w = and_parts (term_fits F s) (term_fits F t) fits in
      so (Part.AtMost s t) _ refl (shown_says F S (Part.AtMost (moved_term from s) (moved_term from t)) (and_from _ _ (moved_fits s w.0) (moved_fits t w.1))
      ∙ ap (λ key. is_at_most key (key_in F S (moved_term from t))) (moved_key s w.0) ∙ ap (is_at_most (key_in F A s)) (moved_key t w.1)
      ∙ sym (shown_says F A (Part.AtMost s t) fits))
  parts_so (Part.Visits k i) fits = so (Part.Visits k i) _ refl (name_so i fits (on (walk_visits H S.heap (S.walked k))) (λ n. W (Part.Visits k n)) false (λ n h. shown_says F S (Part.Visits k n) h) (λ new. sym (new.unvisited k)) ∙ sym (shown_says F A (Part.Visits k i) fits))
  parts_so (Part.InSet k) fits = so (Part.InSet k) _ refl refl
  parts_so Part.Spent fits = so Part.Spent _ refl refl
  parts_so (Part.Chain i j) fits =
      let w = and_parts (nat_lt i F.names) (nat_lt j F.names) fits in
      so (Part.Chain i j) _ refl (by_sources i j (ltb-true _ _ w.0) (ltb-true _ _ w.1) (on_both (is_chain H S)) (λ n m. W (Part.Chain n m)) true
      (λ n m bn bm. shown_says F S (Part.Chain n m) (and_from _ _ (lt-ltb n F.names bn) (lt-ltb m F.names bm)))
      (λ r. refl) (none_on_both (is_chain H S)) (λ new. (sym (path_chain H S isS.owned x x here), λ n bn. no_chain new n bn)) ∙ sym (shown_says F A (Part.Chain i j) fits))
  parts_so (Part.Picks k i j s) fits =
      let w = and_parts (nat_lt i F.names && nat_lt j F.names) (nat_lt s (slot_count F)) fits in
      let v = and_parts (nat_lt i F.names) (nat_lt j F.names) w.0 in
      picks_so k i j s (ltb-true _ _ v.0) (ltb-true _ _ v.1) w.1
  parts_so (Part.StopFlag k zero f) fits = so (Part.StopFlag k zero f) _ refl refl
  parts_so (Part.StopFlag k (suc s) f) fits = so (Part.StopFlag k (suc s) f) _ refl refl
  parts_so (Part.StopVisited k zero) fits = so (Part.StopVisited k zero) _ refl refl
  parts_so (Part.StopVisited k (suc s)) fits = so (Part.StopVisited k (suc s)) _ refl refl

  -- other names, seen by the picture, are other names of the picture
  pub renaming_shown : IsRenaming F from W V
  renaming_shown = record { parts = parts_so }
