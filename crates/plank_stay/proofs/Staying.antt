-- Where the two walks meet again, the key comes to one outcome, and what it passes before it passes after: so what is
-- visited stays visited.
use Rattle.std.proofs.Common.{◌≡◌, ◌≢◌, ◌⊎◌, ℕ, ◌<◌, ◌==◌, Bool, true, false, not, length, Option, Some, None, refl, sym, ◌∙◌, ap, subst, inl, inr}
use Rattle.std.specs.Prelude.{◌&&◌, ◌||◌, if◌then◌else◌}
use Rattle.std.specs.Bool.{beq}
use Rattle.std.specs.Option.{option_map_or}
use Rattle.std.proofs.lemmas.Bool.{true≢false, and_parts, and_from, lt-ltb, ltb-true, eq-eqb, or_left, cond-true, cond-false, false_from_ne_true}
use Rattle.std.proofs.lemmas.Option.{none-some, same_Some}
use Rattle.plank_base.specs.Paths.{Path, NeverEnds, after}
use Rattle.plank_base.proofs.Paths.{end_or_successor, one_end}
use Rattle.plank_pic.specs.declared.parts.KeyName.{KeyName}
use Rattle.plank_pic.specs.declared.parts.Target.{Target}
use Rattle.plank_pic.specs.declared.parts.Outcome.{Outcome}
use Rattle.plank_pic.specs.declared.parts.Place.{Place}
use Rattle.plank_pic.specs.declared.parts.Part.{Part}
use Rattle.plank_pic.specs.declared.moves.Moved.{Moved}
use Rattle.plank_pic.specs.Frames.{Frame}
use Rattle.plank_pic.specs.Below.{some_below, least_below}
use Rattle.plank_pic.specs.Pictures.{Picture, place, edge, goes, leads_to, chains_on, target, pointer_target, outer_target, chain_target, is_fast}
use Rattle.plank_pic.specs.Outcomes.{first_name, outcome, passes}
use Rattle.plank_pic.specs.Lawful.{◌⇒◌, part_fits, place_fits, IsPicture}
use Rattle.plank_pic.specs.Steps.{Change, mixed, movement, by_outcomes, visit_moved, visit_after, enters_either, written, agrees_with}
use Rattle.plank_pic.proofs.Below.{least_some, least_none, none_there}
use Rattle.plank_pic.proofs.EachName.{same_bits}
use Rattle.plank_lawful.proofs.Tests.{implied, no_of}
use Rattle.plank_scene.proofs.Walks.Passing.{move_of, final, move, Comes, comes, passed_path, path_passes, cycle_never_ends}
use Rattle.plank_scene.proofs.Writes.Sides.{target_stays}
use Rattle.plank_stay.specs.declared.ways.Way.{Way}
use Rattle.plank_stay.specs.Stays.{meets_again, is_met, stays, WritesLeaveSo}
use Rattle.plank_stay.proofs.TwoWalks.{crosses, crosses_back, goes_on, first_on}
use Rattle.plank_stay.proofs.Firsts.{IsFirst, fits_so, joined, turned, first_of, node_there, moves_first}
use Rattle.plank_stay.proofs.Leading.{start, first_out, start_first, targets_alike, Meets, meets, first_move, out_is}

-- nothing leads on from where a walk comes to an outcome
ends_there : (o : Outcome) (m : ℕ) (t : Target) → final m t ≡ Some o → move_of t ≡ None
ends_there o m Target.Ends e = refl
ends_there o m (Target.To j) e = absurd (none-some o e)
ends_there o m (Target.Out x) e = refl
ends_there o m (Target.Stops y q s) e = refl
ends_there o m (Target.Jumps q) e = absurd (none-some o e)

-- ---- a pointer that leads outside leads to the node to which it leads

abbrev place_of : Outcome → Option Place
place_of (Outcome.EndsAt i) = None
place_of (Outcome.Leaves x) = Some x
place_of (Outcome.StopsIn y q s) = None
place_of Outcome.Cycles = None

abbrev left_at : Option Outcome → Option Place
left_at None = None
left_at (Some o) = place_of o

abbrev out_of : Target → Option Place
out_of Target.Ends = None
out_of (Target.To j) = None
out_of (Target.Out x) = Some x
out_of (Target.Stops y q s) = None
out_of (Target.Jumps q) = None

final_leaves : (m : ℕ) (t : Target) → left_at (final m t) ≡ out_of t
final_leaves m Target.Ends = refl
final_leaves m (Target.To j) = refl
final_leaves m (Target.Out x) = refl
final_leaves m (Target.Stops y q s) = refl
final_leaves m (Target.Jumps q) = refl

third_of : (a b c d : Bool) → (a || b || c || d) ≡ true → a ≡ false → b ≡ false → d ≡ false → c ≡ true
third_of true b c d e x y z = absurd (true≢false x)
third_of false true c d e x y z = absurd (true≢false y)
third_of false false true d e x y z = refl
third_of false false false d e x y z = absurd (true≢false (sym e ∙ z))

never : (b : Bool) → (b && false) ≡ false
never true = refl
never false = refl

first_node : (F : Frame) (p : Picture) → IsPicture F p → (m : ℕ) → IsFirst F p m → p (Part.Null m) ≡ false
first_node F p is m first = node_there F p is m (Part.Same m m) first.below (or_left (m == m) (m == m) (eq-eqb m m refl)) first.there

module _ (F : Frame) (p : Picture) (is : IsPicture F p) (k : KeyName) (m : ℕ) (below : m < F.names) (node : p (Part.Null m) ≡ false) (x : Place) where
  leaves_at : (f : ℕ) → f < length F.header.pointers → p (Part.PointerNull (place m f)) ≡ false → ((j : ℕ) → j < F.names → p (Part.Leads (place m f) j) ≡ false) → place m f ≡ x → p (Part.SameBeyond x x) ≡ true
  leaves_at f few there none same =
      let fits : place_fits F (place m f) ≡ true = and_from _ _ (lt-ltb m F.names below) (lt-ltb f (length F.header.pointers) few) in
      let beyond = third_of (p (Part.Null m)) (p (Part.PointerNull (place m f))) (p (Part.Beyond (place m f))) (some_below (leads_to p (place m f)) F.names) (is.somewhere (place m f) fits) node there
      (none_there (leads_to p (place m f)) F.names none) in
      subst (λ v. p (Part.SameBeyond v v) ≡ true) same (same_bits _ _ (is.beyond (place m f) fits) ∙ beyond)

  chained_out : (q : ℕ) (o r : Bool) → out_of (if o then Target.Stops m q 0 else if r then Target.Stops m q 1 else Target.Jumps q) ≡ None
  chained_out q true r = refl
  chained_out q false true = refl
  chained_out q false false = refl

  by_chain : (f : ℕ) (o : Option ℕ) → (place m f ≡ x → p (Part.SameBeyond x x) ≡ true) → out_of (elim o [ Some q ↦ chain_target p k m q | None ↦ Target.Out (place m f) ]) ≡ Some x → p (Part.SameBeyond x x) ≡ true
  by_chain f None so e = so (same_Some (place m f) x e)
  by_chain f (Some q) so e = absurd (none-some x (sym (chained_out q (p (Part.Picks k m q 0)) (p (Part.Picks k m q 1))) ∙ e))

  by_lead : (f : ℕ) → f < length F.header.pointers → p (Part.PointerNull (place m f)) ≡ false → (o : Option ℕ) → least_below (leads_to p (place m f)) F.names ≡ o
      → out_of (elim o [ Some j ↦ Target.To j | None ↦ outer_target F p k m f ]) ≡ Some x → p (Part.SameBeyond x x) ≡ true
  by_lead f few there None l e = by_chain f (least_below (chains_on p m) F.names) (leaves_at f few there (least_none (leads_to p (place m f)) F.names l)) e
  by_lead f few there (Some j) l e = absurd (none-some x e)

  by_edge : (o : Option ℕ) → edge F.header p k m ≡ o → out_of (elim o [ Some f ↦ pointer_target F p k m f | None ↦ Target.Ends ]) ≡ Some x → p (Part.SameBeyond x x) ≡ true
  by_edge None l e = absurd (none-some x e)
  by_edge (Some f) l e =
      let found = least_some (goes F.header p k m) (length F.header.pointers) f l in
      by_lead f found.0 (no_of _ (and_parts _ _ found.1).0) (least_below (leads_to p (place m f)) F.names) refl e

  leaves_one : out_of (target F p k m) ≡ Some x → p (Part.SameBeyond x x) ≡ true
  leaves_one e = by_edge (edge F.header p k m) refl e

-- ---- where the walks meet again

module _ (F : Frame) (B : Picture) (is : IsPicture F B) (c : Change) (w : Way) (below : c.at < F.names) (node : B (Part.Null c.at) ≡ false) (again : meets_again F B c c.at w ≡ true) where
  abbrev M : Picture
  M = mixed B c

  abbrev k : KeyName
  k = w.key

  abbrev a : ℕ
  a = start F B is c w below node

  abbrev out : ℕ
  out = first_out F B is c w below node

  abbrev f : ℕ → Option ℕ
  f = move (target F B k)

  abbrev g : ℕ → Option ℕ
  g = move (target F M k)

  abbrev Lost : Type 0
  Lost = B (Part.Same w.out w.name) ≡ false

  is_first : IsFirst F B a
  is_first = start_first F B is c w below node

  led : f a ≡ Some out
  led = first_move F B is c w below node again

  moves : (x m : ℕ) → f x ≡ Some m → IsFirst F B m
  moves = moves_first F B is k

  targets : (x : ℕ) → IsFirst F B x → x ≢ a → target F M k x ≡ target F B k x
  targets = targets_alike F B is c w below node

  agree : (x : ℕ) → IsFirst F B x → x ≢ a → f x ≡ g x
  agree x first other = ap move_of (sym (targets x first other))

  meet : Meets F B is c w below node
  meet = meets F B is c w below node again

  -- an end is not the written node
  not_start : (m : ℕ) → f m ≡ None → m ≢ a
  not_start m none e = end_or_successor (subst (λ v. f v ≡ None) e none) led

  on_path : (m : ℕ) → Path f a m → IsFirst F B m
  on_path m p = first_on f g (IsFirst F B) Lost a out moves agree led is_first p

  end_alike : (m : ℕ) → Path f a m → f m ≡ None → target F M k m ≡ target F B k m
  end_alike m p none = targets m (on_path m p) (not_start m none)

  end_crosses : (m : ℕ) → Path f a m → f m ≡ None → Path g a m
  end_crosses m p none = elim (crosses f g (IsFirst F B) Lost a out moves agree led meet m p) [
    | inl q ↦ q
    | inr cut ↦ absurd (end_or_successor (subst (λ v. f v ≡ None) cut.0 none) cut.2.1)
  ]

  end_back : (m : ℕ) → Path g a m → g m ≡ None → Path f a m × (f m ≡ None)
  end_back m p none =
      let q = crosses_back f g (IsFirst F B) Lost a out moves agree led meet m none p in
      let on = goes_on f g (IsFirst F B) Lost a out moves agree led meet in
      (q, agree m (on_path m q) (λ e. end_or_successor (subst (λ v. g v ≡ None) e none) on.1) ∙ none)

  -- ---- one outcome

  abbrev Came : Picture → Outcome → Type 0
  Came p o = Comes (target F p k) F.names a o

  endless : (p : Picture) (n : ℕ) → after (move (target F p k)) F.names a ≡ Some n → NeverEnds (move (target F p k)) a
  endless p n e = cycle_never_ends (target F p k) F.names (target_stays F p k) a is_first.below n e

  one_outcome : (o r : Outcome) → Came B o → Came M r → o ≡ r
  one_outcome o r (inl x) came =
      let none = ends_there o x.0 (target F B k x.0) x.2 in
      let there = end_crosses x.0 x.1 none in
      let alike : final x.0 (target F M k x.0) ≡ Some o = ap (final x.0) (end_alike x.0 x.1 none) ∙ x.2 in
      let ends = ends_there o x.0 (target F M k x.0) alike in
      elim came [
        | inl y ↦
            let same = one_end there ends y.1 (ends_there r y.0 (target F M k y.0) y.2) in
            same_Some o r (sym alike ∙ subst (λ v. final v (target F M k v) ≡ Some r) (sym same) y.2)
        | inr y ↦ absurd (endless M y.1.0 y.1.1 x.0 there ends)
      ]
  one_outcome o r (inr x) came = elim came [
    | inl y ↦
        let back = end_back y.0 y.1 (ends_there r y.0 (target F M k y.0) y.2) in
        absurd (endless B x.1.0 x.1.1 y.0 back.0 back.1)
    | inr y ↦ x.0 ∙ sym y.0
  ]

  -- ---- where it leaves, it leaves to one node

  leaves_alike : (o : Outcome) → Came B o → (x : Place) → o ≡ Outcome.Leaves x → B (Part.SameBeyond x x) ≡ true
  leaves_alike o (inl y) x e =
      leaves_one F B is k y.0 (on_path y.0 y.1).below (first_node F B is y.0 (on_path y.0 y.1)) x
      (sym (final_leaves y.0 (target F B k y.0)) ∙ ap left_at (y.2 ∙ ap Some e))
  leaves_alike o (inr y) x e = absurd (none-some x (ap place_of (sym y.0 ∙ e)))

  -- ---- what is passed

  passes_on : passes F B k c.at w.name ≡ true → passes F M k c.at w.name ≡ true
  passes_on e =
      let passed = passed_path (target F B k) (λ m. B (Part.Same m w.name)) F.names a e in
      elim (crosses f g (IsFirst F B) Lost a out moves agree led meet passed.0 passed.1) [
        | inl q ↦ path_passes (target F M k) F.names (target_stays F M k) a is_first.below (λ m. B (Part.Same m w.name)) passed.0 q passed.2
        | inr cut ↦
            let there : B (Part.Same out w.name) ≡ true = subst (λ u. B (Part.Same u w.name) ≡ true) cut.0 passed.2 in
            absurd (true≢false (sym (joined F B is w.out out w.name (out_is F B is c w below node again) there) ∙ cut.1))
      ]

  -- ---- what is left of the visit

  module _ (visited : B (Part.Visits k c.at) ≡ true) (slow : is_fast F.header B c.at ≡ false) (slow_name : is_fast F.header B w.name ≡ false) (was : B (Part.Visits k w.name) ≡ true) where
    abbrev o : Outcome
    o = outcome F B k c.at

    moved : movement F B M k c.at ≡ by_outcomes F.header B M k o o
    moved =
        ap (λ v. if not v then Moved.Untouched else if is_fast F.header B c.at && enters_either F B M k c.at then Moved.Apart else by_outcomes F.header B M k o (outcome F M k c.at)) visited
        ∙ ap (λ b. if b && enters_either F B M k c.at then Moved.Apart else by_outcomes F.header B M k o (outcome F M k c.at)) slow
        ∙ ap (λ r. by_outcomes F.header B M k o r) (sym (one_outcome o (outcome F M k c.at) (comes (target F B k) F.names a) (comes (target F M k) F.names a)))

    after_one : (o : Outcome) → ((x : Place) → o ≡ Outcome.Leaves x → B (Part.SameBeyond x x) ≡ true) → visit_after F B M k c.at w.name (by_outcomes F.header B M k o o) ≡ visit_moved F B M k c.at w.name
    after_one (Outcome.EndsAt i) h = refl
    after_one (Outcome.StopsIn y q s) h = refl
    after_one (Outcome.Leaves x) h = ap (λ b. visit_after F B M k c.at w.name (if b then Moved.Same else Moved.Apart)) (h x refl)
    after_one Outcome.Cycles h = refl

    stays_visited : visit_moved F B M k c.at w.name ≡ Some true
    stays_visited = by_bit (passes F M k c.at w.name) refl
      where
        by_bit : (b : Bool) → passes F M k c.at w.name ≡ b → visit_moved F B M k c.at w.name ≡ Some true
        by_bit true e = cond-true (passes F M k c.at w.name) (Some true) _ e
        by_bit false e =
            let not_passed : passes F B k c.at w.name ≡ false = false_from_ne_true (passes F B k c.at w.name) (λ h. true≢false (sym (passes_on h) ∙ e)) in
            cond-false (passes F M k c.at w.name) (Some true) _ e
            ∙ cond-false (passes F B k c.at w.name || (enters_either F B M k c.at && is_fast F.header B w.name)) None (Some (B (Part.Visits k w.name)))
            (ap (λ b. b || (enters_either F B M k c.at && is_fast F.header B w.name)) not_passed ∙ ap (λ b. enters_either F B M k c.at && b) slow_name ∙ never (enters_either F B M k c.at))
            ∙ ap Some was

    pub left_visited : written F B c (Part.Visits k w.name) ≡ Some true
    left_visited =
        ap (visit_after F B M k c.at w.name) moved
        ∙ after_one o (leaves_alike o (comes (target F B k) F.names a))
        ∙ stays_visited

-- ---- the law

pub stays_so : (F : Frame) (B A : Picture) (c : Change) → WritesLeaveSo F B A c
stays_so F B A c is w small left = by_visit (B (Part.Visits w.key c.at)) refl
  where
    by_visit : (b : Bool) → B (Part.Visits w.key c.at) ≡ b → stays F B A c w ≡ true
    by_visit false e =
        cond-false (B (Part.Visits w.key c.at)) (is_met F B c c.at w ⇒ A (Part.Visits w.key w.name)) (beq (A (Part.Visits w.key w.name)) (B (Part.Visits w.key w.name))) e
        ∙ sym (ap (λ m. agrees_with (visit_after F B (mixed B c) w.key c.at w.name m) (A (Part.Visits w.key w.name))) (untouched e)) ∙ left
      where
        untouched : B (Part.Visits w.key c.at) ≡ false → movement F B (mixed B c) w.key c.at ≡ Moved.Untouched
        untouched d = cond-true (not (B (Part.Visits w.key c.at))) Moved.Untouched _ (ap not d)
    by_visit true e =
        cond-true (B (Part.Visits w.key c.at)) (is_met F B c c.at w ⇒ A (Part.Visits w.key w.name)) (beq (A (Part.Visits w.key w.name)) (B (Part.Visits w.key w.name))) e
        ∙ implied (is_met F B c c.at w) (A (Part.Visits w.key w.name)) met
      where
        met : is_met F B c c.at w ≡ true → A (Part.Visits w.key w.name) ≡ true
        met m =
            let one = and_parts _ _ m in
            let two = and_parts _ _ one.1 in
            let three = and_parts _ _ two.1 in
            let below : c.at < F.names = ltb-true c.at F.names (fits_so F B is (Part.Visits w.key c.at) e) in
            let node = node_there F B is c.at (Part.Visits w.key c.at) below (eq-eqb c.at c.at refl) e in
            same_bits (A (Part.Visits w.key w.name)) true
            (subst (λ l. agrees_with l (A (Part.Visits w.key w.name)) ≡ true) (left_visited F B is c w below node three.1 e (no_of _ two.0) (no_of _ three.0) one.0) left)
