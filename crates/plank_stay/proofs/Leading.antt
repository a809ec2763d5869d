-- Where edges lead: the same from each name of a node; before and after a write the same but from the written node; and
-- so how the two walks from the written node meet.
use Rattle.std.proofs.Common.{◌≡◌, ◌≢◌, ◌⊎◌, ℕ, ◌<◌, ◌==◌, Bool, true, false, not, length, Option, Some, None, refl, sym, ◌∙◌, ap, subst, inl, inr}
use Rattle.std.specs.Prelude.{◌&&◌, ◌||◌, nat_lt, if◌then◌else◌}
use Rattle.std.specs.Option.{option_map_or}
use Rattle.std.proofs.lemmas.Bool.{true≢false, and_parts, and_from, or_cases, ltb-true, lt-ltb, eq-eqb, or_left, false_from_ne_true, cond-false}
use Rattle.plank_prog.specs.declared.conditions.KeyTerm.{KeyTerm}
use Rattle.plank_prog.specs.Conditions.{View}
use Rattle.plank_pic.specs.declared.parts.KeyName.{KeyName}
use Rattle.plank_pic.specs.declared.parts.Term.{Term}
use Rattle.plank_pic.specs.declared.parts.Target.{Target}
use Rattle.plank_pic.specs.declared.parts.Place.{Place}
use Rattle.plank_pic.specs.declared.parts.Part.{Part}
use Rattle.plank_pic.specs.Frames.{Frame}
use Rattle.plank_pic.specs.Below.{least_below}
use Rattle.plank_pic.specs.Pictures.{Picture, place, term_at, node_view, view_admits, edge, leads_to, target, pointer_target, outer_target}
use Rattle.plank_pic.specs.Outcomes.{is_same, first_name}
use Rattle.plank_pic.specs.Renaming.{rename_part, rename_term, instead}
use Rattle.plank_pic.specs.Lawful.{part_fits, term_fits, IsPicture}
use Rattle.plank_pic.specs.Steps.{Change, mixed, or_else, is_null_value, leads_there}
use Rattle.plank_pic.proofs.EachName.{told, visits_alike}
use Rattle.plank_lawful.proofs.OneNode.{only, only_or_none}
use Rattle.plank_lawful.proofs.Tests.{no_of}
use Rattle.plank_scene.proofs.Walks.Passing.{move_of, move}
use Rattle.plank_stay.specs.declared.ways.Way.{Way}
use Rattle.plank_stay.specs.Stays.{leads_on, meets_by, meets_at, meets_again}
use Rattle.plank_stay.proofs.TwoWalks.{Meet, at_once, put_in, cut_out}
use Rattle.plank_stay.proofs.Firsts.{IsFirst, least_is, fits_so, same_below, turned, joined, node_there, first_of, one_first, leads_alike, leads_from}

module _ (F : Frame) (p : Picture) (is : IsPicture F p) (k : KeyName) where
  -- ---- names of one node

  module _ (i j : ℕ) (e : p (Part.Same i j) ≡ true) where
    bi : i < F.names
    bi = (same_below F p is i j e).0

    bj : j < F.names
    bj = (same_below F p is i j e).1

    flags : (f : ℕ) → p (Part.Flag i f) ≡ p (Part.Flag j f)
    flags f = only_or_none F p is i j bi bj e (λ n. Part.Flag n f) (λ n. refl) (ap (λ b. b && nat_lt f (length F.header.flags)) (lt-ltb i F.names bi ∙ sym (lt-ltb j F.names bj)))

    nulls : (f : ℕ) → p (Part.PointerNull (place i f)) ≡ p (Part.PointerNull (place j f))
    nulls f = only_or_none F p is i j bi bj e (λ n. Part.PointerNull (place n f)) (λ n. refl) (ap (λ b. b && nat_lt f (length F.header.pointers)) (lt-ltb i F.names bi ∙ sym (lt-ltb j F.names bj)))

    visits : p (Part.Visits k i) ≡ p (Part.Visits k j)
    visits = visits_alike F p is k i j bi bj e

    term : (r : ℕ → ℕ) (n : ℕ) (s : KeyTerm) → rename_term r (term_at (Term.Node n) k s) ≡ term_at (Term.Node (r n)) k s
    term r n KeyTerm.Node = refl
    term r n KeyTerm.Walked = refl
    term r n KeyTerm.Min = refl
    term r n KeyTerm.Max = refl

    term_there : (s : KeyTerm) → term_fits F (term_at (Term.Node j) k s) ≡ true
    term_there KeyTerm.Node = lt-ltb j F.names bj
    term_there KeyTerm.Walked = refl
    term_there KeyTerm.Min = refl
    term_there KeyTerm.Max = refl

    order : (s t : KeyTerm) → p (Part.AtMost (term_at (Term.Node i) k s) (term_at (Term.Node i) k t)) ≡ p (Part.AtMost (term_at (Term.Node j) k s) (term_at (Term.Node j) k t))
    order s t =
        only F p is i j bi bj e (λ n. Part.AtMost (term_at (Term.Node n) k s) (term_at (Term.Node n) k t))
        (λ n z. Part.AtMost (term (instead i j) n s z) (term (instead i j) n t z))
        (and_from _ _ (term_there s) (term_there t))

    pub edges_alike : edge F.header p k i ≡ edge F.header p k j
    edges_alike z = least_below (λ f. not (nulls f z) && view_admits F.header (view z) f) (length F.header.pointers)
      where
        view : node_view p k i ≡ node_view p k j
        view z = record { at_most = λ s t. order s t z; flag = λ f. flags f z; null = λ f. nulls f z; visited = visits z }

    -- after a write of one node too
    pub edges_alike_after : (c : Change) → edge F.header (mixed p c) k i ≡ edge F.header (mixed p c) k j
    edges_alike_after c z = least_below (λ f. not (null f z) && view_admits F.header (view z) f) (length F.header.pointers)
      where
        written : p (Part.Same i c.at) ≡ p (Part.Same j c.at)
        written = by_bit (p (Part.Same j c.at)) refl
          where
            by_bit : (b : Bool) → p (Part.Same j c.at) ≡ b → p (Part.Same i c.at) ≡ p (Part.Same j c.at)
            by_bit true d = joined F p is i j c.at e d ∙ sym d
            by_bit false d = false_from_ne_true (p (Part.Same i c.at)) (λ h. true≢false (sym (joined F p is j i c.at (turned F p is i j e) h) ∙ d)) ∙ sym d

        flag : (f : ℕ) → mixed p c (Part.Flag i f) ≡ mixed p c (Part.Flag j f)
        flag f z = if written z then or_else (λ b. b) (c.flag f) (flags f z) else flags f z

        null : (f : ℕ) → mixed p c (Part.PointerNull (place i f)) ≡ mixed p c (Part.PointerNull (place j f))
        null f z = if written z then or_else (is_null_value p) (c.pointer f) (nulls f z) else nulls f z

        view : node_view (mixed p c) k i ≡ node_view (mixed p c) k j
        view z = record { at_most = λ s t. order s t z; flag = λ f. flag f z; null = λ f. null f z; visited = visits z }

  -- ---- other nodes than the written one

  module _ (c : Change) (x : ℕ) (other : p (Part.Same x c.at) ≡ false) where
    as_before : (new old : Bool) → (if p (Part.Same x c.at) then new else old) ≡ old
    as_before new old = cond-false (p (Part.Same x c.at)) new old other

    pub others_alike : target F (mixed p c) k x ≡ target F p k x
    others_alike z =
        elim (edges z) [
          | Some f ↦ elim (least_below (λ j. leads f j z) F.names) [ Some j ↦ Target.To j | None ↦ outer_target F p k x f ]
          | None ↦ Target.Ends
        ]
      where
        flag : (f : ℕ) → mixed p c (Part.Flag x f) ≡ p (Part.Flag x f)
        flag f = as_before (or_else (λ b. b) (c.flag f) (p (Part.Flag x f))) (p (Part.Flag x f))

        null : (f : ℕ) → mixed p c (Part.PointerNull (place x f)) ≡ p (Part.PointerNull (place x f))
        null f = as_before (or_else (is_null_value p) (c.pointer f) (p (Part.PointerNull (place x f)))) (p (Part.PointerNull (place x f)))

        leads : (f j : ℕ) → mixed p c (Part.Leads (place x f) j) ≡ p (Part.Leads (place x f) j)
        leads f j = as_before (or_else (λ to. leads_there p to j) (c.pointer f) (p (Part.Leads (place x f) j))) (p (Part.Leads (place x f) j))

        view : node_view (mixed p c) k x ≡ node_view p k x
        view z = record { at_most = λ s t. p (Part.AtMost (term_at (Term.Node x) k s) (term_at (Term.Node x) k t)); flag = λ f. flag f z; null = λ f. null f z; visited = p (Part.Visits k x) }

        edges : edge F.header (mixed p c) k x ≡ edge F.header p k x
        edges z = least_below (λ f. not (null f z) && view_admits F.header (view z) f) (length F.header.pointers)

  -- ---- an edge that leads on

  -- the names of what a part of a place speaks of
  led_names : (i f j : ℕ) → p (Part.Leads (place i f) j) ≡ true → ((i < F.names) × (p (Part.Null i) ≡ false)) × ((j < F.names) × (p (Part.Null j) ≡ false))
  led_names i f j e =
      let parts = and_parts _ _ (fits_so F p is (Part.Leads (place i f) j) e) in
      let b : i < F.names = ltb-true i F.names (and_parts _ _ parts.0).0 in
      let d : j < F.names = ltb-true j F.names parts.1 in (
        (b, node_there F p is i (Part.Leads (place i f) j) b (or_left (i == i) (j == i) (eq-eqb i i refl)) e),
        (d, node_there F p is j (Part.Leads (place i f) j) d (by_right (i == j) (j == j) (eq-eqb j j refl)) e),
      )
    where
      by_right : (a b : Bool) → b ≡ true → (a || b) ≡ true
      by_right true b h = refl
      by_right false b h = h

  -- a pointer that leads to j leads first to its first name
  pub leads_first : (i f j : ℕ) → p (Part.Leads (place i f) j) ≡ true → least_below (leads_to p (place i f)) F.names ≡ Some (first_name F p j)
  leads_first i f j e =
      let node = (led_names i f j e).1 in
      let w = first_of F p is j node.0 node.1 in
      let there : p (Part.Leads (place i f) (first_name F p j)) ≡ true = leads_alike F p is i f (first_name F p j) j (turned F p is j (first_name F p j) w.1.1) e in
      least_is (leads_to p (place i f)) F.names (first_name F p j) w.1.0.below there (λ n h. false_from_ne_true (p (Part.Leads (place i f) n)) (λ d.
      let parts = and_parts _ _ (fits_so F p is (Part.Leads (place i f) n) d) in
      let same = told _ _ (is.one_target (place i f) n (first_name F p j) parts.0 (ltb-true n F.names parts.1) w.1.0.below) (and_from _ _ d there) in
      true≢false (sym same ∙ w.1.0.least n h)))

  -- the names, and the first move
  pub record LeadsOn (i j : ℕ) : Type 0 where
    pub from : (i < F.names) × (p (Part.Null i) ≡ false)
    pub to : (j < F.names) × (p (Part.Null j) ≡ false)
    pub moves : move (target F p k) (first_name F p i) ≡ Some (first_name F p j)

  pub leads_moves : (i j : ℕ) → leads_on F p k i j ≡ true → LeadsOn i j
  leads_moves i j = by_edge (edge F.header p k i) refl
    where
      by_edge : (o : Option ℕ) → edge F.header p k i ≡ o → option_map_or (λ f. p (Part.Leads (place i f) j)) o false ≡ true → LeadsOn i j
      by_edge None o e = absurd (true≢false (sym e))
      by_edge (Some f) o e =
          let names = led_names i f j e in
          let w = first_of F p is i names.0.0 names.0.1 in
          let back = turned F p is i (first_name F p i) w.1.1 in
          let at_first = edges_alike (first_name F p i) i back ∙ o in
          let there = leads_first (first_name F p i) f j (leads_from F p is (first_name F p i) i f j back e) in
          record {
            from = names.0;
            to = names.1;
            moves =
                ap (λ e'. move_of (elim e' [ Some f ↦ pointer_target F p k (first_name F p i) f | None ↦ Target.Ends ])) at_first
                ∙ ap (λ l. move_of (elim l [ Some j ↦ Target.To j | None ↦ outer_target F p k (first_name F p i) f ])) there;
          }

  -- ---- the written node after the write

  module _ (c : Change) (below : c.at < F.names) (node : p (Part.Null c.at) ≡ false) where
    abbrev a : ℕ
    a = first_name F p c.at

    pub a_is : p (Part.Same a c.at) ≡ true
    a_is = turned F p is c.at a (first_of F p is c.at below node).1.1

    pub put_moves : (f : ℕ) (l : Option ℕ) → edge F.header (mixed p c) k c.at ≡ Some f
        → least_below (λ j. or_else (λ to. leads_there p to j) (c.pointer f) (p (Part.Leads (place a f) j))) F.names ≡ l
        → (j : ℕ) → l ≡ Some j → move (target F (mixed p c) k) a ≡ Some j
    put_moves f l at least j e =
        ap (λ e'. move_of (elim e' [ Some f ↦ pointer_target F (mixed p c) k a f | None ↦ Target.Ends ])) (edges_alike_after a c.at a_is c ∙ at)
        ∙ ap (λ b. move_of (elim (least_below (λ j. if b then or_else (λ to. leads_there p to j) (c.pointer f) (p (Part.Leads (place a f) j)) else p (Part.Leads (place a f) j)) F.names) [ Some j ↦ Target.To j | None ↦ outer_target F p k a f ])) a_is
        ∙ ap (λ l. move_of (elim l [ Some j ↦ Target.To j | None ↦ outer_target F p k a f ])) (least ∙ e)

-- ---- how the two walks meet

module _ (F : Frame) (B : Picture) (is : IsPicture F B) (c : Change) (w : Way) (below : c.at < F.names) (node : B (Part.Null c.at) ≡ false) where
  abbrev pub start : ℕ
  start = first_name F B c.at

  abbrev pub first_out : ℕ
  first_out = first_name F B w.out

  abbrev pub first_walk : ℕ → Option ℕ
  first_walk = move (target F B w.key)

  abbrev pub second_walk : ℕ → Option ℕ
  second_walk = move (target F (mixed B c) w.key)

  abbrev pub Cut : Type 0
  Cut = B (Part.Same w.out w.name) ≡ false

  abbrev pub Meets : Type 0
  Meets = Meet first_walk second_walk (IsFirst F B) Cut start first_out

  pub start_first : IsFirst F B start
  start_first = (first_of F B is c.at below node).1.0

  pub start_is : B (Part.Same start c.at) ≡ true
  start_is = a_is F B is w.key c below node

  pub other_node : (x : ℕ) → IsFirst F B x → x ≢ start → B (Part.Same x c.at) ≡ false
  other_node x first other = false_from_ne_true (B (Part.Same x c.at)) (λ e. other (one_first F B is x start first start_first (joined F B is x c.at start e (turned F B is start c.at start_is))))

  pub targets_alike : (x : ℕ) → IsFirst F B x → x ≢ start → target F (mixed B c) w.key x ≡ target F B w.key x
  targets_alike x first other = others_alike F B is w.key c x (other_node x first other)

  first_alike : (i j : ℕ) → B (Part.Same i j) ≡ true → first_name F B i ≡ first_name F B j
  first_alike i j e =
      let b = same_below F B is i j e in
      let x = first_of F B is i b.0 (node_there F B is i (Part.Same i j) b.0 (or_left (i == i) (j == i) (eq-eqb i i refl)) e) in
      let d = turned F B is i j e in
      let y = first_of F B is j b.1 (node_there F B is j (Part.Same j i) b.1 (or_left (j == j) (i == j) (eq-eqb j j refl)) d) in
      one_first F B is (first_name F B i) (first_name F B j) x.1.0 y.1.0
      (joined F B is (first_name F B i) i (first_name F B j) (turned F B is i (first_name F B i) x.1.1) (joined F B is i j (first_name F B j) e y.1.1))

  -- after a write of the edge's pointer
  module _ (f v : ℕ) (at : edge F.header (mixed B c) w.key c.at ≡ Some f) (put : c.pointer f ≡ Some (Some v)) where
    moves_to : v < F.names → B (Part.Null v) ≡ false → second_walk start ≡ Some (first_name F B v)
    moves_to b n =
        put_moves F B is w.key c below node f (Some (first_name F B v)) at
        (ap (λ o. least_below (λ j. or_else (λ to. leads_there B to j) o (B (Part.Leads (place start f) j))) F.names) put ∙ (first_of F B is v b n).0)
        (first_name F B v) refl

    met_itself : B (Part.Same v w.out) ≡ true → Meets
    met_itself e =
        let b = (same_below F B is v w.out e).0 in
        at_once (moves_to b (node_there F B is v (Part.Same v w.out) b (or_left (v == v) (w.out == v) (eq-eqb v v refl)) e) ∙ ap Some (first_alike v w.out e))

    met_behind : B (Part.Same v c.at) ≡ false → leads_on F B w.key v w.out ≡ true → Meets
    met_behind other e =
        let on = leads_moves F B is w.key v w.out e in
        let x = first_of F B is v on.from.0 on.from.1 in
        put_in (first_name F B v) x.1.0
        (λ same. true≢false (sym (joined F B is v (first_name F B v) c.at x.1.1 (subst (λ u. B (Part.Same u c.at) ≡ true) (sym same) start_is)) ∙ other))
        (moves_to on.from.0 on.from.1) on.moves

    met_before : leads_on F B w.key w.out v ≡ true → Cut → Meets
    met_before e cut =
        let on = leads_moves F B is w.key w.out v e in
        cut_out (first_name F B v) cut (first_of F B is v on.to.0 on.to.1).1.0 (moves_to on.to.0 on.to.1) on.moves

    met_by : meets_by F B c.at w v ≡ true → Meets
    met_by e = elim (or_cases (B (Part.Same v w.out)) _ e) [
      | inl same ↦ met_itself same
      | inr rest ↦ elim (or_cases (not (B (Part.Same v c.at)) && leads_on F B w.key v w.out) _ rest) [
        | inl on ↦ let both = and_parts _ _ on in met_behind (no_of _ both.0) both.1
        | inr on ↦ let both = and_parts _ _ on in met_before both.0 (no_of _ both.1)
      ]
    ]

  -- or where that pointer is as before
  met_still : (f : ℕ) → edge F.header (mixed B c) w.key c.at ≡ Some f → c.pointer f ≡ None → B (Part.Leads (place c.at f) w.out) ≡ true → Meets
  met_still f at still e =
      at_once (put_moves F B is w.key c below node f (Some first_out) at
      (ap (λ o. least_below (λ j. or_else (λ to. leads_there B to j) o (B (Part.Leads (place start f) j))) F.names) still
      ∙ leads_first F B is w.key start f w.out (leads_from F B is start c.at f w.out start_is e)) first_out refl)

  met_at : (f : ℕ) → edge F.header (mixed B c) w.key c.at ≡ Some f → meets_at F B c c.at w f ≡ true → Meets
  met_at f at = by_put (c.pointer f) refl
    where
      by_put : (o : Option (Option ℕ)) → c.pointer f ≡ o → option_map_or (λ to. option_map_or (meets_by F B c.at w) to false) o (B (Part.Leads (place c.at f) w.out)) ≡ true → Meets
      by_put None put e = met_still f at put e
      by_put (Some None) put e = absurd (true≢false (sym e))
      by_put (Some (Some v)) put e = met_by f v at put e

  met_after : (o : Option ℕ) → edge F.header (mixed B c) w.key c.at ≡ o → option_map_or (meets_at F B c c.at w) o false ≡ true → Meets
  met_after None at e = absurd (true≢false (sym e))
  met_after (Some f) at e = met_at f at e

  pub first_move : meets_again F B c c.at w ≡ true → first_walk start ≡ Some first_out
  first_move e = (leads_moves F B is w.key c.at w.out (and_parts _ _ e).0).moves

  pub meets : meets_again F B c c.at w ≡ true → Meets
  meets e = met_after (edge F.header (mixed B c) w.key c.at) refl (and_parts _ _ e).1

  -- the edge before led to a name's node
  pub out_is : meets_again F B c c.at w ≡ true → B (Part.Same w.out first_out) ≡ true
  out_is e = let on = leads_moves F B is w.key c.at w.out (and_parts _ _ e).0 in (first_of F B is w.out on.to.0 on.to.1).1.1
