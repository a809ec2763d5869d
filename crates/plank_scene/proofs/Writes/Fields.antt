-- The fields of the mixed picture are those of the world after the write.
use Rattle.std.proofs.Common.{◌≡◌, ℕ, ◌<◌, Bool, true, false, not, List, length, Option, Some, None, refl, sym, ◌∙◌, ap, subst, inl, inr}
use Rattle.std.specs.Prelude.{◌&&◌, nat_lt, slice_get, is_some, is_none, option_map, if◌then◌else◌}
use Rattle.std.specs.Option.{option_flatten}
use Rattle.std.proofs.lemmas.Bool.{false≢true, true≢false, and_parts, and_from, and_left, and_right, cases_Bool, eq-eqb, lt-ltb, ltb-true, cond-true, cond-false, false_from_ne_true, cases_eq, ne_eqb}
use Rattle.plank_base.specs.declared.keys.NodeId.{NodeId}
use Rattle.plank_base.specs.Keys.{is_at_most}
use Rattle.plank_prog.specs.Views.{is_bit_set}
use Rattle.plank_heap.specs.declared.nodes.Node.{Node}
use Rattle.plank_heap.specs.declared.heaps.Heap.{Heap}
use Rattle.plank_pic.specs.declared.parts.KeyName.{KeyName}
use Rattle.plank_pic.specs.declared.parts.Place.{Place}
use Rattle.plank_pic.specs.declared.parts.Part.{Part}
use Rattle.plank_pic.specs.Frames.{Frame}
use Rattle.plank_pic.specs.Pictures.{Picture, place, term_at}
use Rattle.plank_pic.specs.Lawful.{part_fits, place_fits}
use Rattle.plank_pic.specs.declared.parts.Term.{Term}
use Rattle.plank_pic.specs.Steps.{Change, mixed, if_written, or_else, leads_there, is_null_value, is_beyond_still}
use Rattle.plank_pic.proofs.Below.{some_there}
use Rattle.plank_scene.specs.Scenes.{has_others_lock, Scene, node_at, leads, leads_from, is_node, is_nameless, on, shown, key_in, has_lock}
use Rattle.plank_scene.specs.Worlds.{IsScene}
use Rattle.plank_scene.specs.Writes.{new_lead, IsWritten, with_heap}
use Rattle.plank_scene.proofs.Scenes.Showing.{on_at, is_node_at, is_node_true, shown_says}
use Rattle.plank_scene.proofs.Scenes.Views.{name_view}
use Rattle.plank_scene.proofs.Writes.Reading.{Reads, keys_stay}
use Rattle.plank_scene.proofs.Scenes.Chains.{stop_view_is}

-- a write changes no key
pub key_stays : (F : Frame) (S : Scene) (heap : Heap) (owners : List (Option ℕ)) (spent : Bool) (c : Change) (x : ℕ) → IsWritten F S heap owners spent c x → (y : ℕ) → (node_at (with_heap S heap owners spent) y).key ≡ (node_at S y).key
key_stays F S heap owners spent c x is y = elim (cases_eq y x) [
  | inl same ↦ ap (λ b. (node_at (with_heap S heap owners spent) b).key) same ∙ is.key ∙ ap (λ b. (node_at S b).key) (sym same)
  | inr other ↦ ap (λ (z : Node). z.key) (is.elsewhere y other)
]

module _ (F : Frame) (S : Scene) (heap : Heap) (owners : List (Option ℕ)) (spent : Bool) (c : Change) (x : ℕ) (is : IsWritten F S heap owners spent c x) where
  abbrev T : Scene
  T = with_heap S heap owners spent

  abbrev B : Picture
  B = shown F S

  abbrev W : Picture
  W = shown F T

  abbrev M : Picture
  M = mixed B c

  -- ---- whether a name is of the written node

  same_at : (i : ℕ) (o : Option ℕ) → i < F.names → S.named i ≡ o → B (Part.Same i c.at) ≡ is_node o (Some x)
  same_at i o h e =
      shown_says F S (Part.Same i c.at) (and_from _ _ (lt-ltb i F.names h) (lt-ltb c.at F.names is.below))
      ∙ ap (λ r. is_node r (S.named c.at)) e ∙ ap (is_node o) is.named

  if_null : (i : ℕ) (new old : Bool) → i < F.names → S.named i ≡ None → if_written B c i new old ≡ old
  if_null i new old h e = cond-false (B (Part.Same i c.at)) new old (same_at i None h e)

  if_there : (i y : ℕ) (new old : Bool) → i < F.names → S.named i ≡ Some y → y ≡ x → if_written B c i new old ≡ new
  if_there i y new old h e same = cond-true (B (Part.Same i c.at)) new old (same_at i (Some y) h e ∙ eq-eqb y x same)

  if_other : (i y : ℕ) (new old : Bool) → i < F.names → S.named i ≡ Some y → (y ≡ x → ⊥) → if_written B c i new old ≡ old
  if_other i y new old h e other = cond-false (B (Part.Same i c.at)) new old (same_at i (Some y) h e ∙ ne_eqb y x other)

  -- a part of a node, by its test before and after
  by_node : (i : ℕ) → i < F.names → (tS tT : ℕ → Bool) (new : Bool → Bool) → tT x ≡ new (tS x) → ((y : ℕ) → (y ≡ x → ⊥) → tT y ≡ tS y) → if_written B c i (new (on tS (S.named i))) (on tS (S.named i)) ≡ on tT (S.named i)
  by_node i h tS tT new at_x elsewhere = cases (S.named i) refl
    where
      cases : (o : Option ℕ) → S.named i ≡ o → if_written B c i (new (on tS (S.named i))) (on tS (S.named i)) ≡ on tT (S.named i)
      cases None e = if_null i _ _ h e ∙ ap (on tS) e ∙ sym (ap (on tT) e)
      cases (Some y) e = elim (cases_eq y x) [
        | inl same ↦ if_there i y _ _ h e same ∙ ap (λ o. new (on tS o)) e ∙ ap (λ b. new (tS b)) same ∙ sym at_x ∙ ap tT (sym same) ∙ sym (ap (on tT) e)
        | inr other ↦ if_other i y _ _ h e other ∙ ap (on tS) e ∙ sym (elsewhere y other) ∙ sym (ap (on tT) e)
      ]

  lead_other : (y f : ℕ) → (y ≡ x → ⊥) → leads T y f ≡ leads S y f
  lead_other y f other = ap (λ (z : Node). option_map (λ (to : NodeId). to.0) (option_flatten (slice_get z.pointers f))) (is.elsewhere y other)

  null_new : (o : Option (Option ℕ)) (old : Option ℕ) → ((v : ℕ) → o ≡ Some (Some v) → v < F.names) → is_none (new_lead S o old) ≡ or_else (is_null_value B) o (is_none old)
  null_new None old h = refl
  null_new (Some None) old h = refl
  null_new (Some (Some v)) old h = sym (shown_says F S (Part.Null v) (lt-ltb v F.names (h v refl)))

  leads_new : (j : ℕ) → j < F.names → (o : Option (Option ℕ)) (old : Option ℕ) → ((v : ℕ) → o ≡ Some (Some v) → v < F.names) → is_node (new_lead S o old) (S.named j) ≡ or_else (λ to. leads_there B to j) o (is_node old (S.named j))
  leads_new j bj None old h = refl
  leads_new j bj (Some None) old h = refl
  leads_new j bj (Some (Some v)) old h = sym (shown_says F S (Part.Same v j) (and_from _ _ (lt-ltb v F.names (h v refl)) (lt-ltb j F.names bj)))

  named_is_named : (v : ℕ) → v < F.names → is_nameless F S (S.named v) ≡ false
  named_is_named v h = cases (S.named v) refl
    where
      cases : (o : Option ℕ) → S.named v ≡ o → is_nameless F S o ≡ false
      cases None e = refl
      cases (Some u) e = ap not (some_there (λ j. is_node (Some u) (S.named j)) F.names v h (is_node_at refl e))

  beyond_new : (o : Option (Option ℕ)) (old : Option ℕ) → ((v : ℕ) → o ≡ Some (Some v) → v < F.names) → is_nameless F S (new_lead S o old) ≡ (is_none o && is_nameless F S old)
  beyond_new None old h = refl
  beyond_new (Some None) old h = refl
  beyond_new (Some (Some v)) old h = named_is_named v (h v refl)

  -- ---- the field parts

  pub fits_place : (p : Place) → place_fits F p ≡ true → (p.name < F.names) × (p.pointer < length F.header.pointers)
  fits_place p e = let w = and_parts (nat_lt p.name F.names) (nat_lt p.pointer (length F.header.pointers)) e in (ltb-true _ _ w.0, ltb-true _ _ w.1)

  pub null_after : (p : Place) → place_fits F p ≡ true → M (Part.PointerNull p) ≡ W (Part.PointerNull p)
  null_after p fits =
      let w = fits_place p fits in
      ap (λ b. if_written B c p.name (or_else (is_null_value B) (c.pointer p.pointer) b) b) (shown_says F S (Part.PointerNull p) fits)
      ∙ by_null p w.0 w.1 (S.named p.name) refl ∙ sym (shown_says F T (Part.PointerNull p) fits)
    where
      by_null : (p : Place) → p.name < F.names → p.pointer < length F.header.pointers → (o : Option ℕ) → S.named p.name ≡ o
          → if_written B c p.name (or_else (is_null_value B) (c.pointer p.pointer) (on (λ y. is_none (leads S y p.pointer)) (S.named p.name))) (on (λ y. is_none (leads S y p.pointer)) (S.named p.name)) ≡ on (λ y. is_none (leads T y p.pointer)) (S.named p.name)
      by_null p h few None e = if_null p.name _ _ h e ∙ ap (on (λ y. is_none (leads S y p.pointer))) e ∙ sym (ap (on (λ y. is_none (leads T y p.pointer))) e)
      by_null p h few (Some y) e = elim (cases_eq y x) [
        | inl same ↦ if_there p.name y _ _ h e same
            ∙ ap (λ o. or_else (is_null_value B) (c.pointer p.pointer) (on (λ y. is_none (leads S y p.pointer)) o)) e
            ∙ ap (λ b. or_else (is_null_value B) (c.pointer p.pointer) (is_none (leads S b p.pointer))) same
            ∙ sym (null_new (c.pointer p.pointer) (leads S x p.pointer) (λ v d. is.values p.pointer v d))
            ∙ ap is_none (sym (is.pointer p.pointer few)) ∙ ap (λ b. is_none (leads T b p.pointer)) (sym same)
            ∙ sym (ap (on (λ y. is_none (leads T y p.pointer))) e)
        | inr other ↦ if_other p.name y _ _ h e other ∙ ap (on (λ y. is_none (leads S y p.pointer))) e ∙ ap is_none (sym (lead_other y p.pointer other)) ∙ sym (ap (on (λ y. is_none (leads T y p.pointer))) e)
      ]

  -- a test of where a pointer leads
  by_lead : (p : Place) → place_fits F p ≡ true → (t : Option ℕ → Bool) → t None ≡ false → (new : Bool → Bool)
      → ((old : Option ℕ) → t (new_lead S (c.pointer p.pointer) old) ≡ new (t old))
      → if_written B c p.name (new (t (leads_from S (S.named p.name) p.pointer))) (t (leads_from S (S.named p.name) p.pointer)) ≡ t (leads_from T (S.named p.name) p.pointer)
  by_lead p fits t none new written = let w = fits_place p fits in cases w.0 w.1 (S.named p.name) refl
    where
      cases : p.name < F.names → p.pointer < length F.header.pointers → (o : Option ℕ) → S.named p.name ≡ o → if_written B c p.name (new (t (leads_from S (S.named p.name) p.pointer))) (t (leads_from S (S.named p.name) p.pointer)) ≡ t (leads_from T (S.named p.name) p.pointer)
      cases h few None e = if_null p.name _ _ h e ∙ ap (λ o. t (leads_from S o p.pointer)) e ∙ sym (ap (λ o. t (leads_from T o p.pointer)) e)
      cases h few (Some y) e = elim (cases_eq y x) [
        | inl same ↦ if_there p.name y _ _ h e same ∙ ap (λ o. new (t (leads_from S o p.pointer))) e ∙ ap (λ b. new (t (leads S b p.pointer))) same
            ∙ sym (written (leads S x p.pointer)) ∙ ap t (sym (is.pointer p.pointer few)) ∙ ap (λ b. t (leads T b p.pointer)) (sym same) ∙ sym (ap (λ o. t (leads_from T o p.pointer)) e)
        | inr other ↦ if_other p.name y _ _ h e other ∙ ap (λ o. t (leads_from S o p.pointer)) e ∙ ap t (sym (lead_other y p.pointer other)) ∙ sym (ap (λ o. t (leads_from T o p.pointer)) e)
      ]

  pub leads_after : (p : Place) (j : ℕ) → place_fits F p ≡ true → j < F.names → M (Part.Leads p j) ≡ W (Part.Leads p j)
  leads_after p j fits bj =
      let both : part_fits F (Part.Leads p j) ≡ true = and_from _ _ fits (lt-ltb j F.names bj) in
      ap (λ b. if_written B c p.name (or_else (λ to. leads_there B to j) (c.pointer p.pointer) b) b) (shown_says F S (Part.Leads p j) both)
      ∙ by_lead p fits (λ o. is_node o (S.named j)) refl (or_else (λ to. leads_there B to j) (c.pointer p.pointer)) (λ old. leads_new j bj (c.pointer p.pointer) old (λ v d. is.values p.pointer v d))
      ∙ sym (shown_says F T (Part.Leads p j) both)

  and_if : (i : ℕ) (a b : Bool) → (if_written B c i a true && b) ≡ if_written B c i (a && b) b
  and_if i a b = either (B (Part.Same i c.at))
    where
      either : (s : Bool) → ((if s then a else true) && b) ≡ (if s then (a && b) else b)
      either true = refl
      either false = refl

  pub beyond_after : (p : Place) → place_fits F p ≡ true → M (Part.Beyond p) ≡ W (Part.Beyond p)
  beyond_after p fits =
      ap (λ b. is_beyond_still B c p && b) (shown_says F S (Part.Beyond p) fits)
      ∙ and_if p.name (is_none (c.pointer p.pointer)) (is_nameless F S (leads_from S (S.named p.name) p.pointer))
      ∙ by_lead p fits (is_nameless F S) refl (λ b. is_none (c.pointer p.pointer) && b) (λ old. beyond_new (c.pointer p.pointer) old (λ v d. is.values p.pointer v d))
      ∙ sym (shown_says F T (Part.Beyond p) fits)

  pub flag_after : (i f : ℕ) → i < F.names → f < length F.header.flags → M (Part.Flag i f) ≡ W (Part.Flag i f)
  flag_after i f h few =
      let fits : part_fits F (Part.Flag i f) ≡ true = and_from _ _ (lt-ltb i F.names h) (lt-ltb f (length F.header.flags) few) in
      ap (λ b. if_written B c i (or_else (λ v. v) (c.flag f) b) b) (shown_says F S (Part.Flag i f) fits)
      ∙ by_node i h (λ y. is_bit_set (node_at S y).flags f) (λ y. is_bit_set (node_at T y).flags f) (or_else (λ v. v) (c.flag f)) (is.flag f few)
      (λ y other. ap (λ (z : Node). is_bit_set z.flags f) (is.elsewhere y other))
      ∙ sym (shown_says F T (Part.Flag i f) fits)

  pub locked_after : (i : ℕ) → part_fits F (Part.Locked i) ≡ true → M (Part.Locked i) ≡ W (Part.Locked i)
  locked_after i fits =
      let h : i < F.names = ltb-true i F.names (and_parts (nat_lt i F.names) F.header.has_lock fits).0 in
      ap (λ b. if_written B c i (or_else (λ taken. taken) c.lock b) b) (shown_says F S (Part.Locked i) fits)
      ∙ by_node i h (λ y. is_some (node_at S y).lock) (λ y. is_some (node_at T y).lock) (or_else (λ taken. taken) c.lock) is.locked
      (λ y other. ap (λ (z : Node). is_some z.lock) (is.elsewhere y other))
      ∙ sym (shown_says F T (Part.Locked i) fits)

  pub mine_after : (i : ℕ) → part_fits F (Part.LockMine i) ≡ true → M (Part.LockMine i) ≡ W (Part.LockMine i)
  mine_after i fits =
      let h : i < F.names = ltb-true i F.names (and_parts (nat_lt i F.names) F.header.has_lock fits).0 in
      ap (λ b. if_written B c i (or_else (λ taken. taken && c.own) c.lock b) b) (shown_says F S (Part.LockMine i) fits)
      ∙ by_node i h (λ y. has_lock S.own (node_at S y)) (λ y. has_lock S.own (node_at T y)) (or_else (λ taken. taken && c.own) c.lock) is.lock_mine
      (λ y other. ap (has_lock S.own) (is.elsewhere y other))
      ∙ sym (shown_says F T (Part.LockMine i) fits)

  pub others_after : (i : ℕ) → part_fits F (Part.LockOthers i) ≡ true → M (Part.LockOthers i) ≡ W (Part.LockOthers i)
  others_after i fits =
      let h : i < F.names = ltb-true i F.names (and_parts (nat_lt i F.names) F.header.has_lock fits).0 in
      ap (λ b. if_written B c i (or_else (λ taken. taken && not c.own) c.lock b) b) (shown_says F S (Part.LockOthers i) fits)
      ∙ by_node i h (λ y. has_others_lock S (node_at S y)) (λ y. has_others_lock S (node_at T y)) (or_else (λ taken. taken && not c.own) c.lock) is.lock_others
      (λ y other. ap (has_others_lock S) (is.elsewhere y other))
      ∙ sym (shown_says F T (Part.LockOthers i) fits)

  -- ---- keys stay

  pub order_after : (s t : Term) → M (Part.AtMost s t) ≡ W (Part.AtMost s t)
  order_after s t =
      ap (λ key. part_fits F (Part.AtMost s t) && is_at_most key (key_in F S t)) (sym (keys_stay F S heap owners spent (key_stays F S heap owners spent c x is) s))
      ∙ ap (λ key. part_fits F (Part.AtMost s t) && is_at_most (key_in F T s) key) (sym (keys_stay F S heap owners spent (key_stays F S heap owners spent c x is) t))

  -- ---- two pointers to one outside node

  none_lead : (o : Option (Option ℕ)) (old : Option ℕ) → is_none o ≡ true → new_lead S o old ≡ old
  none_lead None old e = refl
  none_lead (Some to) old e = absurd (false≢true e)

  still_leads : (p : Place) → place_fits F p ≡ true → is_beyond_still B c p ≡ true → leads_from T (S.named p.name) p.pointer ≡ leads_from S (S.named p.name) p.pointer
  still_leads p fits still = let w = fits_place p fits in cases w.0 w.1 (S.named p.name) refl
    where
      cases : p.name < F.names → p.pointer < length F.header.pointers → (o : Option ℕ) → S.named p.name ≡ o → leads_from T (S.named p.name) p.pointer ≡ leads_from S (S.named p.name) p.pointer
      cases h few None e = ap (λ o. leads_from T o p.pointer) e ∙ sym (ap (λ o. leads_from S o p.pointer) e)
      cases h few (Some y) e =
          ap (λ o. leads_from T o p.pointer) e
          ∙ elim (cases_eq y x) [
            | inl same ↦
                let none : is_none (c.pointer p.pointer) ≡ true = sym (if_there p.name y _ true h e same) ∙ still in
                ap (λ b. leads T b p.pointer) same ∙ is.pointer p.pointer few ∙ none_lead (c.pointer p.pointer) (leads S x p.pointer) none ∙ ap (λ b. leads S b p.pointer) (sym same)
            | inr other ↦ lead_other y p.pointer other
          ]
          ∙ sym (ap (λ o. leads_from S o p.pointer) e)

  not_still : (p : Place) → place_fits F p ≡ true → is_beyond_still B c p ≡ false → is_nameless F T (leads_from T (S.named p.name) p.pointer) ≡ false
  not_still p fits e = sym (shown_says F T (Part.Beyond p) fits) ∙ sym (beyond_after p fits) ∙ and_left (is_beyond_still B c p) (B (Part.Beyond p)) e

  pub meet_after : (p q : Place) → place_fits F p ≡ true → place_fits F q ≡ true → M (Part.SameBeyond p q) ≡ W (Part.SameBeyond p q)
  meet_after p q fp fq =
      let both : part_fits F (Part.SameBeyond p q) ≡ true = and_from _ _ fp fq in
      elim (cases_Bool (is_beyond_still B c p)) [
        | inr gone ↦
            and_left _ _ (and_left (is_beyond_still B c p) (is_beyond_still B c q) gone)
            ∙ sym (shown_says F T (Part.SameBeyond p q) both ∙ and_left _ _ (not_still p fp gone))
        | inl p_still ↦ elim (cases_Bool (is_beyond_still B c q)) [
          | inr gone ↦
              and_left _ _ (and_right (is_beyond_still B c p) (is_beyond_still B c q) gone)
              ∙ sym (shown_says F T (Part.SameBeyond p q) both ∙ false_from_ne_true _ (λ e.
              let w = and_parts (is_nameless F T (leads_from T (S.named p.name) p.pointer)) (is_node (leads_from T (S.named p.name) p.pointer) (leads_from T (S.named q.name) q.pointer)) e in
              let u = is_node_true (leads_from T (S.named p.name) p.pointer) (leads_from T (S.named q.name) q.pointer) w.1 in
              true≢false (sym (subst (λ o. is_nameless F T o ≡ true) (u.1 ∙ sym u.2) w.0) ∙ not_still q fq gone)))
          | inl q_still ↦
              ap (λ b. b && B (Part.SameBeyond p q)) (and_from _ _ p_still q_still) ∙ shown_says F S (Part.SameBeyond p q) both
              ∙ ap (λ o. is_nameless F S o && is_node o (leads_from S (S.named q.name) q.pointer)) (sym (still_leads p fp p_still))
              ∙ ap (λ o. is_nameless F S (leads_from T (S.named p.name) p.pointer) && is_node (leads_from T (S.named p.name) p.pointer) o) (sym (still_leads q fq q_still))
              ∙ sym (shown_says F T (Part.SameBeyond p q) both)
        ]
      ]

  -- ---- so the mixed picture tells the fields after, and the chains before

  module _ (isS : IsScene F S) (k : KeyName) where
    flags_of : (i y : ℕ) → i < F.names → S.named i ≡ Some y → (f : ℕ) → f < length F.header.flags → M (Part.Flag i f) ≡ is_bit_set (node_at T y).flags f
    flags_of i y h e f few = flag_after i f h few ∙ (name_view F T i y h e k).flag f few

    pub mixed_reads : Reads F M S T k
    mixed_reads = record {
      same_names = refl;
      null = λ i y f h e few. let fits : place_fits F (place i f) ≡ true = and_from _ _ (lt-ltb i F.names h) (lt-ltb f (length F.header.pointers) few) in
          null_after (place i f) fits ∙ shown_says F T (Part.PointerNull (place i f)) fits ∙ on_at (λ y. is_none (leads T y f)) e;
      view = λ i y h e. record {
        keys = λ a b. order_after (term_at (Term.Node i) k a) (term_at (Term.Node i) k b) ∙ (name_view F T i y h e k).keys a b;
        flag = λ f below. flags_of i y h e f below;
      };
      leads_to = λ i y f j h e few bj. let fits : place_fits F (place i f) ≡ true = and_from _ _ (lt-ltb i F.names h) (lt-ltb f (length F.header.pointers) few) in
          leads_after (place i f) j fits bj ∙ shown_says F T (Part.Leads (place i f) j) (and_from _ _ fits (lt-ltb j F.names bj)) ∙ ap (λ o. is_node (leads_from T o f) (S.named j)) e;
      same = λ i j. refl;
      chain = λ i j. refl;
      picks = λ i j s. refl;
      stop = λ s z few e. stop_view_is F S isS k s z few e;
    }

-- and a scene's own picture tells its own
pub shown_reads : (F : Frame) (S : Scene) → IsScene F S → (k : KeyName) → Reads F (shown F S) S S k
shown_reads F S isS k = record {
  same_names = refl;
  null = λ i y f h e few. let fits : place_fits F (place i f) ≡ true = and_from _ _ (lt-ltb i F.names h) (lt-ltb f (length F.header.pointers) few) in
      shown_says F S (Part.PointerNull (place i f)) fits ∙ on_at (λ y. is_none (leads S y f)) e;
  view = λ i y h e. name_view F S i y h e k;
  leads_to = λ i y f j h e few bj. let fits : place_fits F (place i f) ≡ true = and_from _ _ (lt-ltb i F.names h) (lt-ltb f (length F.header.pointers) few) in
      shown_says F S (Part.Leads (place i f) j) (and_from _ _ fits (lt-ltb j F.names bj)) ∙ ap (λ o. is_node (leads_from S o f) (S.named j)) e;
  same = λ i j. refl;
  chain = λ i j. refl;
  picks = λ i j s. refl;
  stop = λ s z few e. stop_view_is F S isS k s z few e;
}
