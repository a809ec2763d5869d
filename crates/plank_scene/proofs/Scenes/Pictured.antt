-- The picture of a scene is a picture: names, nodes, pointers and keys fit together.
use Rattle.std.proofs.Common.{subst, ◌≡◌, ℕ, ◌<◌, ◌==◌, Bool, true, false, not, length, Option, Some, None, refl, sym, ◌∙◌, ap, inl, inr}
use Rattle.std.specs.Option.{option_map_or}
use Rattle.std.specs.Prelude.{◌&&◌, ◌||◌, nat_lt, is_some, is_none}
use Rattle.std.proofs.lemmas.Bool.{false≢true, true≢false, and_parts, and_from, and_left, and_right, or_cases, or_left, or_right, cases_Bool, eqb-true, lt-ltb, not-true, false_from_ne_true}
use Rattle.std.proofs.lemmas.Option.{none-some, same_Some}
use Rattle.plank_base.specs.Keys.{is_at_most}
use Rattle.plank_base.specs.declared.keys.ThreadId.{ThreadId}
use Rattle.plank_base.proofs.KeyOrder.{total_keys, transitive_keys}
use Rattle.plank_pic.specs.declared.parts.Term.{Term}
use Rattle.plank_pic.specs.declared.parts.Place.{Place}
use Rattle.plank_pic.specs.declared.parts.Part.{Part}
use Rattle.plank_pic.specs.Frames.{Frame}
use Rattle.plank_pic.specs.Below.{some_below}
use Rattle.plank_pic.specs.Pictures.{Picture, leads_to}
use Rattle.plank_pic.specs.Lawful.{part_fits, place_fits, term_fits, names_itself, same_is_symmetric, same_is_transitive, null_is_bare, leads_somewhere, leads_once, leads_to_one, beyond_itself, beyond_is_symmetric, beyond_is_transitive, order_is_total, order_is_transitive, speaks_of, owned_once, held_once, IsPicture}
use Rattle.plank_pic.proofs.Below.{some_there, none_there}
use Rattle.plank_scene.specs.Scenes.{node_at, is_mine_in, is_shared_in, has_lock, has_others_lock, Scene, leads, leads_from, is_node, is_nameless, is_chain, key_in, picks_in, on, on_both, says, shown}
use Rattle.plank_scene.proofs.Scenes.Showing.{on_at, is_node_true, is_node_same, is_node_at, on_true, some_of, beq_same, implies, shown_says, shown_true, names_agree}

-- a place that fits is of a name
pub fits_name : (F : Frame) (x : Place) → place_fits F x ≡ true → nat_lt x.name F.names ≡ true
fits_name F x fits = (and_parts (nat_lt x.name F.names) (nat_lt x.pointer (length F.header.pointers)) fits).0

-- ---- tests of null

pub no_node : (o : Option ℕ) → is_node o None ≡ false
no_node None = refl
no_node (Some y) = refl

pub none_of : (o : Option ℕ) → is_none o ≡ true → o ≡ None
none_of None e = refl
none_of (Some x) e = absurd (false≢true e)

pub none_on_both : (test : ℕ → ℕ → Bool) (o : Option ℕ) → on_both test o None ≡ false
none_on_both test None = refl
none_on_both test (Some x) = refl

module _ (F : Frame) (S : Scene) where
  abbrev P : Picture
  P = shown F S

  -- ---- what a null name has

  module _ (i : ℕ) (null : S.named i ≡ None) where
    none_at : (j : ℕ) → (j == i) ≡ true → S.named j ≡ None
    none_at j e = ap S.named (eqb-true j i e) ∙ null

    either_none : (j k : ℕ) (test : Option ℕ → Option ℕ → Bool) → ((o : Option ℕ) → test None o ≡ false) → ((o : Option ℕ) → test o None ≡ false) → ((j == i) || (k == i)) ≡ true → test (S.named j) (S.named k) ≡ false
    either_none j k test left right e = elim (or_cases (j == i) (k == i) e) [
      | inl l ↦ ap (λ o. test o (S.named k)) (none_at j l) ∙ left (S.named k)
      | inr r ↦ ap (test (S.named j)) (none_at k r) ∙ right (S.named j)
    ]

    pub says_nothing : (part : Part) → speaks_of i part ≡ true → says F S part ≡ false
    says_nothing (Part.Null j) e = absurd (false≢true e)
    says_nothing (Part.Same j k) e = either_none j k is_node (λ o. refl) no_node e
    says_nothing (Part.Flag j f) e = ap (on _) (none_at j e)
    says_nothing (Part.Shared j) e = ap (on _) (none_at j e)
    says_nothing (Part.Mine j) e = ap (on _) (none_at j e)
    says_nothing (Part.Locked j) e = ap (on _) (none_at j e)
    says_nothing (Part.LockMine j) e = ap (on _) (none_at j e)
    says_nothing (Part.LockOthers j) e = ap (on _) (none_at j e)
    says_nothing (Part.PointerNull x) e = ap (on _) (none_at x.name e)
    says_nothing (Part.Beyond x) e = ap (λ o. is_nameless F S (leads_from S o x.pointer)) (none_at x.name e)
    says_nothing (Part.Leads x j) e = either_none x.name j (λ o r. is_node (leads_from S o x.pointer) r) (λ o. refl) (λ o. no_node (leads_from S o x.pointer)) e
    says_nothing (Part.SameBeyond x y) e = either_none x.name y.name (λ o r. is_nameless F S (leads_from S o x.pointer) && is_node (leads_from S o x.pointer) (leads_from S r y.pointer)) (λ o. refl) (λ o. and_right (is_nameless F S (leads_from S o x.pointer)) _ (no_node (leads_from S o x.pointer))) e
    says_nothing (Part.AtMost s t) e = absurd (false≢true e)
    says_nothing (Part.Visits k j) e = ap (on _) (none_at j e)
    says_nothing (Part.InSet k) e = absurd (false≢true e)
    says_nothing Part.Spent e = absurd (false≢true e)
    says_nothing (Part.Chain j k) e = either_none j k (on_both (is_chain F.header S)) (λ o. refl) (none_on_both (is_chain F.header S)) e
    says_nothing (Part.Picks k j m s) e = either_none j m (on_both (picks_in F S k s)) (λ o. refl) (none_on_both (picks_in F S k s)) e
    says_nothing (Part.StopFlag k s f) e = absurd (false≢true e)
    says_nothing (Part.StopVisited k s) e = absurd (false≢true e)

  pub null_named : (i : ℕ) → P (Part.Null i) ≡ true → S.named i ≡ None
  null_named i e = none_of (S.named i) (shown_true F S (Part.Null i) e).1

  pub bare : (i : ℕ) (part : Part) → i < F.names → part_fits F part ≡ true → speaks_of i part ≡ true → null_is_bare P i part ≡ true
  bare i part bi fits speaks =
      implies _ _ (λ e.
      let w = and_parts (P (Part.Null i)) (P part) e in
      absurd (true≢false (sym (shown_true F S part w.1).1 ∙ says_nothing i (null_named i w.0) part speaks)))

  -- ---- names and nodes

  pub itself : (i : ℕ) → i < F.names → names_itself P i ≡ true
  itself i bi =
      let fits = lt-ltb i F.names bi in
      beq_same (shown_says F S (Part.Same i i) (and_from _ _ fits fits) ∙ cases (S.named i) ∙ ap not (sym (shown_says F S (Part.Null i) fits)))
    where
      cases : (o : Option ℕ) → is_node o o ≡ not (is_none o)
      cases None = refl
      cases (Some x) = is_node_same x

  same_shown : (i j x : ℕ) → i < F.names → j < F.names → S.named i ≡ Some x → S.named j ≡ Some x → P (Part.Same i j) ≡ true
  same_shown i j x bi bj e d = shown_says F S (Part.Same i j) (and_from _ _ (lt-ltb i F.names bi) (lt-ltb j F.names bj)) ∙ is_node_at e d

  same_told : (i j : ℕ) → P (Part.Same i j) ≡ true → (x : ℕ) × (S.named i ≡ Some x) × (S.named j ≡ Some x)
  same_told i j e = is_node_true (S.named i) (S.named j) (shown_true F S (Part.Same i j) e).1

  pub symmetric : (i j : ℕ) → i < F.names → j < F.names → same_is_symmetric P i j ≡ true
  symmetric i j bi bj = implies _ _ (λ e. let w = same_told i j e in same_shown j i w.0 bj bi w.2 w.1)

  pub transitive : (i j k : ℕ) → i < F.names → j < F.names → k < F.names → same_is_transitive P i j k ≡ true
  transitive i j k bi bj bk =
      implies _ _ (λ e.
      let both = and_parts (P (Part.Same i j)) (P (Part.Same j k)) e in
      let w = same_told i j both.0 in
      let v = same_told j k both.1 in
      same_shown i k w.0 bi bk w.1 (v.2 ∙ ap Some (same_Some _ _ (sym v.1 ∙ w.2))))

  -- ---- pointers

  abbrev to : Place → Option ℕ
  to x = leads_from S (S.named x.name) x.pointer

  pub leads_told : (x : Place) (j : ℕ) → P (Part.Leads x j) ≡ true → (z : ℕ) × (to x ≡ Some z) × (S.named j ≡ Some z)
  leads_told x j e = is_node_true (to x) (S.named j) (shown_true F S (Part.Leads x j) e).1

  pub beyond_told : (x : Place) → P (Part.Beyond x) ≡ true → (z : ℕ) × (to x ≡ Some z) × ((j : ℕ) → j < F.names → S.named j ≡ Some z → ⊥)
  beyond_told x e =
      let w = and_parts (is_some (to x)) (not (some_below (λ j. is_node (to x) (S.named j)) F.names)) (shown_true F S (Part.Beyond x) e).1 in
      let z = some_of (to x) w.0 in
      (z.0, z.1, λ j bj d. true≢false (sym (some_there (λ j. is_node (to x) (S.named j)) F.names j bj (is_node_at z.1 d)) ∙ not-true _ w.1))

  null_told : (x : Place) → P (Part.PointerNull x) ≡ true → to x ≡ None
  null_told x e =
      let w = on_true (λ y. is_none (leads S y x.pointer)) (S.named x.name) (shown_true F S (Part.PointerNull x) e).1 in
      ap (λ o. leads_from S o x.pointer) w.1 ∙ none_of (leads S w.0 x.pointer) w.2

  pub somewhere : (x : Place) → place_fits F x ≡ true → leads_somewhere F P x ≡ true
  somewhere x fits = by_name (S.named x.name) refl
    where
      by_tests : (o : Option ℕ) → to x ≡ o → is_some o ≡ true → leads_somewhere F P x ≡ true
      by_tests o e there = elim (cases_Bool (some_below (leads_to P x) F.names)) [
        | inl c ↦ or_right _ _ c
        | inr c ↦ or_left _ _ (or_right _ _ (shown_says F S (Part.Beyond x) fits ∙ and_from _ _ (ap is_some e ∙ there) (ap not (none_there (λ j. is_node (to x) (S.named j)) F.names (λ j bj. false_from_ne_true _ (λ d.
            true≢false (sym (some_there (leads_to P x) F.names j bj (shown_says F S (Part.Leads x j) (and_from _ _ fits (lt-ltb j F.names bj)) ∙ d)) ∙ c)))))))
      ]

      by_lead : (y : ℕ) → S.named x.name ≡ Some y → (o : Option ℕ) → leads S y x.pointer ≡ o → leads_somewhere F P x ≡ true
      by_lead y e None d = or_left _ _ (or_left _ _ (or_right _ _ (shown_says F S (Part.PointerNull x) fits ∙ ap (on (λ y. is_none (leads S y x.pointer))) e ∙ ap is_none d)))
      by_lead y e (Some z) d = by_tests (Some z) (ap (λ o. leads_from S o x.pointer) e ∙ d) refl

      by_name : (o : Option ℕ) → S.named x.name ≡ o → leads_somewhere F P x ≡ true
      by_name None e = or_left _ _ (or_left _ _ (or_left _ _ (shown_says F S (Part.Null x.name) (fits_name F x fits) ∙ ap is_none e)))
      by_name (Some y) e = by_lead y e (leads S y x.pointer) refl

  pub once : (x : Place) (j : ℕ) → place_fits F x ≡ true → j < F.names → leads_once P x j ≡ true
  once x j fits bj = and_from _ _
      (ap not (false_from_ne_true _ (λ e. let w = and_parts (P (Part.PointerNull x)) (P (Part.Beyond x)) e in let b = beyond_told x w.1 in none-some b.0 (sym (null_told x w.0) ∙ b.1))))
      (ap not (false_from_ne_true _ (λ e.
      let w = and_parts (P (Part.Leads x j)) (P (Part.PointerNull x) || P (Part.Beyond x)) e in
      let l = leads_told x j w.0 in
      elim (or_cases (P (Part.PointerNull x)) (P (Part.Beyond x)) w.1) [
        | inl n ↦ none-some l.0 (sym (null_told x n) ∙ l.1)
        | inr o ↦ let b = beyond_told x o in b.2 j bj (l.2 ∙ sym l.1 ∙ b.1)
      ])))

  pub one_target : (x : Place) (j k : ℕ) → place_fits F x ≡ true → j < F.names → k < F.names → leads_to_one P x j k ≡ true
  one_target x j k fits bj bk =
      implies _ _ (λ e.
      let w = and_parts (P (Part.Leads x j)) (P (Part.Leads x k)) e in
      let a = leads_told x j w.0 in
      let b = leads_told x k w.1 in
      same_shown j k a.0 bj bk a.2 (b.2 ∙ sym b.1 ∙ a.1))

  -- ---- pointers to nodes without names

  pub beyond_is : (x : Place) → place_fits F x ≡ true → beyond_itself P x ≡ true
  beyond_is x fits = beq_same (shown_says F S (Part.SameBeyond x x) (and_from _ _ fits fits) ∙ cases (to x) ∙ sym (shown_says F S (Part.Beyond x) fits))
    where
      cases : (o : Option ℕ) → (is_nameless F S o && is_node o o) ≡ is_nameless F S o
      cases None = refl
      cases (Some y) = elim (cases_Bool (is_nameless F S (Some y))) [
        | inl c ↦ and_from _ _ c (is_node_same y) ∙ sym c
        | inr c ↦ and_left _ _ c ∙ sym c
      ]

  meet_told : (x y : Place) → P (Part.SameBeyond x y) ≡ true → (z : ℕ) × (to x ≡ Some z) × (to y ≡ Some z) × (is_nameless F S (Some z) ≡ true)
  meet_told x y e =
      let w = and_parts (is_nameless F S (to x)) (is_node (to x) (to y)) (shown_true F S (Part.SameBeyond x y) e).1 in
      let v = is_node_true (to x) (to y) w.1 in
      (v.0, v.1, v.2, ap (is_nameless F S) (sym v.1) ∙ w.0)

  meet_shown : (x y : Place) (z : ℕ) → place_fits F x ≡ true → place_fits F y ≡ true → to x ≡ Some z → to y ≡ Some z → is_nameless F S (Some z) ≡ true → P (Part.SameBeyond x y) ≡ true
  meet_shown x y z fx fy e d n = shown_says F S (Part.SameBeyond x y) (and_from _ _ fx fy) ∙ and_from _ _ (ap (is_nameless F S) e ∙ n) (is_node_at e d)

  pub beyond_back : (x y : Place) → place_fits F x ≡ true → place_fits F y ≡ true → beyond_is_symmetric P x y ≡ true
  beyond_back x y fx fy = implies _ _ (λ e. let w = meet_told x y e in meet_shown y x w.0 fy fx w.2 w.1 w.3)

  pub beyond_on : (x y z : Place) → place_fits F x ≡ true → place_fits F y ≡ true → place_fits F z ≡ true → beyond_is_transitive P x y z ≡ true
  beyond_on x y z fx fy fz =
      implies _ _ (λ e.
      let both = and_parts (P (Part.SameBeyond x y)) (P (Part.SameBeyond y z)) e in
      let w = meet_told x y both.0 in
      let v = meet_told y z both.1 in
      meet_shown x z w.0 fx fz w.1 (v.2 ∙ sym v.1 ∙ w.2) w.3)

  -- ---- owners and locks

  owned : (i : ℕ) → i < F.names → owned_once P i ≡ true
  owned i bi = ap not (false_from_ne_true _ (λ e.
      let w = and_parts (P (Part.Shared i)) (P (Part.Mine i)) e in
      let a = on_true (is_shared_in S) (S.named i) (shown_true F S (Part.Shared i) w.0).1 in
      let b = on_true (is_mine_in S) (S.named i) (shown_true F S (Part.Mine i) w.1).1 in
      let same : a.0 ≡ b.0 = same_Some _ _ (sym a.1 ∙ b.1) in
      true≢false (sym (subst (λ y. is_shared_in S y ≡ true) same a.2) ∙ not-true _ (and_parts (S.mine b.0) (not (is_shared_in S b.0)) b.2).1)))

  some_held : (o : Option ThreadId) (who : Option ℕ) → option_map_or (λ holder. is_node (Some holder.0) who) o false ≡ true → is_some o ≡ true
  some_held None who e = absurd (false≢true e)
  some_held (Some t) who e = refl

  held : (i : ℕ) → i < F.names → held_once P i ≡ true
  held i bi = and_from _ _
      (implies _ _ (λ e.
      let s = shown_true F S (Part.LockMine i) e in
      let w = on_true (λ y. has_lock S.own (node_at S y)) (S.named i) s.1 in
      shown_says F S (Part.Locked i) s.0 ∙ on_at (λ y. is_some (node_at S y).lock) w.1 ∙ some_held (node_at S w.0).lock S.own w.2))
      (implies _ _ (λ e.
      let s = shown_true F S (Part.LockOthers i) e in
      let w = on_true (λ y. has_others_lock S (node_at S y)) (S.named i) s.1 in
      let v = and_parts (has_lock S.other (node_at S w.0)) (not (has_lock S.own (node_at S w.0))) w.2 in
      and_from _ _ (shown_says F S (Part.Locked i) s.0 ∙ on_at (λ y. is_some (node_at S y).lock) w.1 ∙ some_held (node_at S w.0).lock S.other v.0)
      (ap not (shown_says F S (Part.LockMine i) s.0 ∙ on_at (λ y. has_lock S.own (node_at S y)) w.1) ∙ v.1)))

  -- ---- keys

  pub order_shown : (s t : Term) → term_fits F s ≡ true → term_fits F t ≡ true → P (Part.AtMost s t) ≡ is_at_most (key_in F S s) (key_in F S t)
  order_shown s t fs ft = shown_says F S (Part.AtMost s t) (and_from _ _ fs ft)

  pub total : (s t : Term) → term_fits F s ≡ true → term_fits F t ≡ true → order_is_total P s t ≡ true
  total s t fs ft = elim (total_keys (key_in F S s) (key_in F S t)) [
    | inl e ↦ or_left _ _ (order_shown s t fs ft ∙ e)
    | inr e ↦ or_right _ _ (order_shown t s ft fs ∙ e)
  ]

  pub in_order : (s t u : Term) → term_fits F s ≡ true → term_fits F t ≡ true → term_fits F u ≡ true → order_is_transitive P s t u ≡ true
  in_order s t u fs ft fu =
      implies _ _ (λ e.
      let w = and_parts (P (Part.AtMost s t)) (P (Part.AtMost t u)) e in
      order_shown s u fs fu ∙ transitive_keys (key_in F S s) (key_in F S t) (key_in F S u) (sym (order_shown s t fs ft) ∙ w.0) (sym (order_shown t u ft fu) ∙ w.1))

  pub shows_picture : IsPicture F P
  shows_picture = record {
    fits = λ part e. and_left (part_fits F part) (says F S part) e;
    itself = itself;
    symmetric = symmetric;
    transitive = transitive;
    one_node = λ i j part bi bj fits. names_agree F S i j part bi fits;
    bare = bare;
    owned = owned;
    held = held;
    somewhere = somewhere;
    once = once;
    one_target = one_target;
    beyond = beyond_is;
    beyond_back = beyond_back;
    beyond_on = beyond_on;
    total = total;
    in_order = in_order;
  }
