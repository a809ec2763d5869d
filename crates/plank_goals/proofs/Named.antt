-- The goals of named nodes hold just where a named node breaks a keep, or a pointer leads against its order.
use Rattle.std.specs.Prelude.{◌≡◌, ℕ, ◌<◌, Bool, true, false, not, ◌&&◌, ◌||◌, nat_lt, List, length, slice_get, Option, Some, None}
use Rattle.std.specs.Option.{option_map_or}
use Rattle.std.proofs.Common.{refl, sym, ◌∙◌, ap, subst}
use Rattle.std.proofs.lemmas.Bool.{true≢false, and_parts, and_from, ltb-true}
use Rattle.std.proofs.lemmas.Option.{slice_get_within}
use Rattle.plank_prog.specs.declared.headers.Header.{Header}
use Rattle.plank_prog.specs.declared.headers.Keep.{Keep}
use Rattle.plank_prog.specs.Conditions.{View, value}
use Rattle.plank_pic.specs.declared.parts.KeyName.{KeyName}
use Rattle.plank_pic.specs.declared.parts.Part.{Part}
use Rattle.plank_pic.specs.Frames.{Frame}
use Rattle.plank_pic.specs.Pictures.{Picture, place, node_view}
use Rattle.plank_pic.specs.Lawful.{part_fits, keep_holds, node_keeps, edge_is_ordered, IsPossible}
use Rattle.plank_pic.specs.Steps.{Change}
use Rattle.plank_fact.specs.Writes.{becomes_shared, BreaksOrder}
use Rattle.plank_query.specs.declared.situations.Situation.{Situation}
use Rattle.plank_query.specs.declared.goals.Goal.{Goal}
use Rattle.plank_query.specs.Situations.{change, frame, names}
use Rattle.plank_query.specs.Goals.{goal_holds, writes_so, leads_against}
use Rattle.plank_goals.specs.Lists.{gathered}
use Rattle.plank_goals.specs.Named.{keep_goal, keeps_of, order_goal, orders_of}
use Rattle.plank_goals.specs.Wrongs.{HoldsOne}
use Rattle.plank_goals.proofs.Basics.{implies_false, from_not, there}
use Rattle.plank_goals.proofs.Gathered.{in_gathered, gathered_in, in_rows, rows_in}

-- a keep that does not hold is there
keep_within : (h : Header) (v : View) (c : ℕ) → keep_holds h v c ≡ false → c < length h.keeps
keep_within h v c e = by_keep (slice_get h.keeps c) refl e
  where
    by_keep : (o : Option Keep) → slice_get h.keeps c ≡ o → option_map_or (λ k. value v k.condition) o true ≡ false → c < length h.keeps
    by_keep None at f = absurd (true≢false f)
    by_keep (Some k) at f = slice_get_within h.keeps c k at

-- what is written
pub written_so : (S : Situation) (c : Change) (test : Change → Bool) → change S ≡ Some c → writes_so S test ≡ test c
written_so S c test writes = ap (λ o. option_map_or test o false) writes

module _ (h : Header) (S : Situation) (c : Change) (B A : Picture) (writes : change S ≡ Some c) (possible : IsPossible (frame h S) A) where
  abbrev F : Frame
  F = frame h S

  fits : (part : Part) → A part ≡ true → part_fits F part ≡ true
  fits = there F A possible.picture.fits

  -- ---- keeps

  abbrev pub NamedBreaks : Type 0
  NamedBreaks = (i : ℕ) × (n : ℕ) × (node_keeps F A KeyName.Any i n ≡ false)

  abbrev pub named_goals : List Goal
  named_goals = gathered (keeps_of (length h.keeps)) (names S)

  pub named_holds : HoldsOne h S B A named_goals → NamedBreaks
  named_holds w =
      let v = in_rows keep_goal (names S) (length h.keeps) w.goal w.asked in
      (v.0, v.1, from_not (node_keeps F A KeyName.Any v.0 v.1) (subst (λ g. goal_holds h S B A g ≡ true) (sym v.2) w.holds))

  pub holds_named : NamedBreaks → HoldsOne h S B A named_goals
  holds_named w =
      let i = w.0 in
      let n = w.1 in
      let parts = implies_false (A (Part.Shared i)) (keep_holds h (node_view A KeyName.Any i) n) w.2 in
      let within = ltb-true i (names S) (fits (Part.Shared i) parts.0) in
      record {
        goal = keep_goal i n;
        asked = rows_in keep_goal (names S) (length h.keeps) i n within (keep_within h (node_view A KeyName.Any i) n parts.1);
        holds = ap not w.2;
      }

  -- ---- orders

  abbrev pub named_orders : List Goal
  named_orders = gathered (orders_of (names S) (length h.pointers)) (names S)

  pub orders_hold : HoldsOne h S B A named_orders → BreaksOrder F c B A
  orders_hold w =
      let v = in_gathered (orders_of (names S) (length h.pointers)) (names S) w.goal w.asked in
      let i = v.0 in
      let u = in_rows (order_goal i) (length h.pointers) (names S) w.goal v.2 in
      let f = u.0 in
      let j = u.1 in
      let so : leads_against F B A i f j c ≡ true = sym (written_so S c (leads_against F B A i f j) writes) ∙ subst (λ g. goal_holds h S B A g ≡ true) (sym u.2) w.holds in
      let parts = and_parts (B (Part.Same i c.at) || becomes_shared B A i) (not (edge_is_ordered F A (place i f) j)) so in
      record { node = i; pointer = f; to = j; touched = parts.0; against = from_not (edge_is_ordered F A (place i f) j) parts.1 }

  pub hold_orders : BreaksOrder F c B A → HoldsOne h S B A named_orders
  hold_orders w =
      let i = w.node in
      let f = w.pointer in
      let j = w.to in
      let parts = implies_false (A (Part.Leads (place i f) j)) _ w.against in
      let fit = fits (Part.Leads (place i f) j) parts.0 in
      let ends = and_parts (nat_lt i (names S) && nat_lt f (length h.pointers)) (nat_lt j (names S)) fit in
      let begins = and_parts (nat_lt i (names S)) (nat_lt f (length h.pointers)) ends.0 in
      record {
        goal = order_goal i f j;
        asked = gathered_in (orders_of (names S) (length h.pointers)) (names S) i (order_goal i f j) (ltb-true i (names S) begins.0)
            (rows_in (order_goal i) (length h.pointers) (names S) f j (ltb-true f (length h.pointers) begins.1) (ltb-true j (names S) ends.1));
        holds = written_so S c (leads_against F B A i f j) writes
            ∙ and_from (B (Part.Same i c.at) || becomes_shared B A i) (not (edge_is_ordered F A (place i f) j)) w.touched (ap not w.against);
      }
