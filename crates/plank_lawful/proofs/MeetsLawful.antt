-- A picture that meets the rules of possible pictures says nothing of names that are null, and is possible; one that
-- meets all rules is lawful.
use Rattle.std.proofs.Common.{◌≡◌, ◌⊎◌, ℕ, zero, suc, ◌*◌, ◌<◌, ◌==◌, Bool, true, false, not, length, refl, sym, ◌∙◌, ap, subst, inl, inr, arith}
use Rattle.std.specs.Prelude.{◌&&◌, ◌||◌, nat_lt, if◌then◌else◌, slice_get, List, [], ◌∷◌, Option, Some, None}
use Rattle.std.proofs.lemmas.Bool.{and_parts, and_from, or_cases, or_right, true≢false, false_from_ne_true, lt-ltb, ltb-true, eqb-true}
use Rattle.plank_prog.specs.Conditions.{value, View}
use Rattle.plank_pic.specs.declared.parts.KeyName.{KeyName}
use Rattle.plank_pic.specs.declared.parts.Term.{Term}
use Rattle.plank_pic.specs.declared.parts.Place.{Place}
use Rattle.plank_pic.specs.declared.parts.Part.{Part}
use Rattle.plank_pic.specs.Frames.{Frame}
use Rattle.plank_pic.specs.Pictures.{Picture, place, is_fast, is_frozen_view, node_view, chains_on, edge, goes, target, outer_target, pointer_target, leads_to, stop_view, is_picked}
use Rattle.plank_pic.specs.Lawful as lawful
use Rattle.plank_pic.specs.Lawful.{◌⇒◌, part_fits, place_fits, term_fits, lock_fits, slot_count, speaks_of, chains_are_there, IsPicture, IsPossible, IsLawful}
use Rattle.plank_pic.proofs.EachName.{told, visits_go_on_alike}
use Rattle.plank_lawful.specs.declared.asking.Asked.{Asked}
use Rattle.plank_lawful.specs.declared.families.NameRule.{NameRule}
use Rattle.plank_lawful.specs.declared.families.KeyRule.{KeyRule}
use Rattle.plank_lawful.specs.declared.families.WalkRule.{WalkRule}
use Rattle.plank_lawful.specs.declared.families.ChainRule.{ChainRule}
use Rattle.plank_lawful.specs.declared.families.Family.{Family}
use Rattle.plank_lawful.specs.Indexes.{key_at, place_at}
use Rattle.plank_lawful.specs.Asked.{passes}
use Rattle.plank_lawful.specs.Rules
use Rattle.plank_lawful.specs.Families.{count, shape_of, is_possible}
use Rattle.plank_lawful.specs.Laws.{SaysNoOutside, MeetsPossible, MeetsRules}
use Rattle.plank_lawful.proofs.Asked.{each_passes}
use Rattle.plank_lawful.proofs.Tests.{implied, implied_by, bare_to, no_of, not_both, bare_of, one}
use Rattle.std.specs.Option.{option_map_or}
use Rattle.std.specs.List.{list_all}
use Rattle.plank_prog.specs.declared.headers.Keep.{Keep}
use Rattle.plank_pic.specs.declared.parts.Target.{Target}
use Rattle.plank_pic.specs.Below.{least_below}
use Rattle.plank_pic.specs.EachName.{leads_unvisited, arrives_by, visit_goes_on_each}
use Rattle.plank_pic.proofs.Below.{none_there, least_some}
use Rattle.plank_lawful.specs.declared.families.KeptRule.{KeptRule}
use Rattle.plank_lawful.proofs.Meeting as so
use Rattle.plank_lawful.proofs.Alike.{one_node}

-- a test of all keeps, at each
pub each_keep : (v : View) (keeps : List Keep) → list_all (λ (q : Keep). value v q.condition) keeps ≡ true
    → (c : ℕ) → c < length keeps → option_map_or (λ k. value v k.condition) (slice_get keeps c) true ≡ true
each_keep v [] all c h = absurd (omega arith)
each_keep v (k ∷ keeps) all zero h = (and_parts _ _ all).0
each_keep v (k ∷ keeps) all (suc c) h = each_keep v keeps (and_parts _ _ all).1 c (omega arith)

module _ (F : Frame) (p : Picture) (says : SaysNoOutside F p) (meets : MeetsPossible F p) where
  at : (family : Family) (a b c : ℕ) → is_possible family ≡ true → a < count F (shape_of family).first 0 → b < count F (shape_of family).second a → c < count F (shape_of family).third a
      → Rules.family_holds F p family a b c ≡ true
  at family a b c poss ha hb hc = meets (record { family = family; first = a; second = b; third = c }) poss (record { first = ha; second = hb; third = hc })

  in_chains : slot_count F ≡ 2 → (i : ℕ) → i < F.names → i < (if slot_count F == 0 then 0 else F.names)
  in_chains two i bi = subst (λ s. i < (if s == 0 then 0 else F.names)) (sym two) bi

  unvisited : (k : KeyName) (i : ℕ) → i < F.names → lawful.own_is_unvisited p k i ≡ true
  unvisited k i bi = so.of_key F p says meets (λ v. lawful.own_is_unvisited p v i) (λ n h. at (Family.Walks WalkRule.Unvisited) n i 0 refl h bi one) k

  unreached : (x : Place) (j : ℕ) → place_fits F x ≡ true → j < F.names → lawful.own_is_unreached p x j ≡ true
  unreached x j fits bj = so.of_place F p says meets (λ y. lawful.own_is_unreached p y j) (λ n h. at (Family.Walks WalkRule.Unreached) n j 0 refl h bj one) x fits

  -- the rules of stop nodes and chains, where there are slots
  picks_right : slot_count F ≡ 2 → (k : KeyName) (i j : ℕ) → i < F.names → j < F.names → Rules.picks_are_right F p k i j ≡ true
  picks_right two k i j bi bj = so.of_key F p says meets (λ v. Rules.picks_are_right F p v i j) (λ n h. at (Family.Chains ChainRule.Picks) n i j refl h (in_chains two i bi) bj) k

  pick : (k : KeyName) (i j s : ℕ) → i < F.names → j < F.names → s < slot_count F → lawful.pick_is_right F p k i j s ≡ true
  pick k i j s bi bj hs =
      elim (so.slots_or_none F p says meets) [
        | inl two ↦ (let w = and_parts (lawful.pick_is_right F p k i j 0) (lawful.pick_is_right F p k i j 1)
            (and_parts (lawful.pick_is_right F p k i j 0 && lawful.pick_is_right F p k i j 1) (lawful.picks_once p k i j) (picks_right two k i j bi bj)).0 in
            by_slot s (subst (λ v. s < v) two hs) w.0 w.1)
        | inr none ↦ (let never : s < 0 = subst (λ v. s < v) none hs in absurd (omega arith))
      ]
    where
      by_slot : (s : ℕ) → s < 2 → lawful.pick_is_right F p k i j 0 ≡ true → lawful.pick_is_right F p k i j 1 ≡ true → lawful.pick_is_right F p k i j s ≡ true
      by_slot zero h a b = a
      by_slot (suc zero) h a b = b
      by_slot (suc (suc n)) h a b = absurd (omega arith)

  pick_once : (k : KeyName) (i j : ℕ) → i < F.names → j < F.names → lawful.picks_once p k i j ≡ true
  pick_once k i j bi bj =
      elim (so.slots_or_none F p says meets) [
        | inl two ↦ (and_parts (lawful.pick_is_right F p k i j 0 && lawful.pick_is_right F p k i j 1) (lawful.picks_once p k i j) (picks_right two k i j bi bj)).1
        | inr none ↦ ap (λ b. not (b && p (Part.Picks k i j 1))) (says (Part.Picks k i j 0) (ap (λ s. nat_lt i F.names && nat_lt j F.names && nat_lt 0 s) none ∙ and_no (nat_lt i F.names && nat_lt j F.names)))
      ]
    where
      and_no : (a : Bool) → (a && false) ≡ false
      and_no true = refl
      and_no false = refl

  -- ---- names that are null
  module _ (i : ℕ) (bi : i < F.names) (null : p (Part.Null i) ≡ true) where
    alone : (j : ℕ) → j < F.names → p (Part.Same i j) ≡ false
    alone j bj = false_from_ne_true (p (Part.Same i j)) (λ e. true≢false (sym null ∙ so.not_null F p says meets i j bi bj e))

    alone_too : (j : ℕ) → j < F.names → p (Part.Same j i) ≡ false
    alone_too j bj = false_from_ne_true (p (Part.Same j i)) (λ e. true≢false (sym (so.back F p says meets j i bj bi e) ∙ alone j bj))

    bare_node : (not (p (Part.Shared i)) && not (p (Part.Mine i)) && not (p (Part.Locked i)) && Rules.each_name F p (Asked.NoChainTo i)) ≡ true
    bare_node = told (p (Part.Null i)) (not (p (Part.Shared i)) && not (p (Part.Mine i)) && not (p (Part.Locked i)) && Rules.each_name F p (Asked.NoChainTo i))
        (at (Family.Names NameRule.NullNode) i 0 0 refl bi one one) null

    no_owner : (not (p (Part.Shared i)) && not (p (Part.Mine i)) && not (p (Part.Locked i))) ≡ true
    no_owner = (and_parts (not (p (Part.Shared i)) && not (p (Part.Mine i)) && not (p (Part.Locked i))) (Rules.each_name F p (Asked.NoChainTo i)) bare_node).0

    not_shared : p (Part.Shared i) ≡ false
    not_shared = no_of (p (Part.Shared i)) (and_parts (not (p (Part.Shared i))) (not (p (Part.Mine i))) (and_parts (not (p (Part.Shared i)) && not (p (Part.Mine i))) (not (p (Part.Locked i))) no_owner).0).0

    not_mine : p (Part.Mine i) ≡ false
    not_mine = no_of (p (Part.Mine i)) (and_parts (not (p (Part.Shared i))) (not (p (Part.Mine i))) (and_parts (not (p (Part.Shared i)) && not (p (Part.Mine i))) (not (p (Part.Locked i))) no_owner).0).1

    not_locked : p (Part.Locked i) ≡ false
    not_locked = no_of (p (Part.Locked i)) (and_parts (not (p (Part.Shared i)) && not (p (Part.Mine i))) (not (p (Part.Locked i))) no_owner).1

    chain_to : (n : ℕ) → n < F.names → p (Part.Chain n i) ≡ false
    chain_to n bn = no_of (p (Part.Chain n i)) (each_passes (passes p (Asked.NoChainTo i)) F.names
        (and_parts (not (p (Part.Shared i)) && not (p (Part.Mine i)) && not (p (Part.Locked i))) (Rules.each_name F p (Asked.NoChainTo i)) bare_node).1 n bn)

    -- a chain from it would begin at a shared node
    chain_from : (n : ℕ) → n < F.names → p (Part.Chain i n) ≡ false
    chain_from n bn = false_from_ne_true (p (Part.Chain i n)) (λ e.
        let begins = told (chains_on p i n) (chains_are_there F && is_fast F.header p i && not (p (Part.PointerNull (place i 0)))) (so.chain_first F p says meets i n bi bn) (and_from _ _ e (ap not (alone n bn))) in
        let fast = (and_parts (chains_are_there F) (is_fast F.header p i) (and_parts (chains_are_there F && is_fast F.header p i) (not (p (Part.PointerNull (place i 0)))) begins).0).1 in
        true≢false (sym (and_parts (p (Part.Shared i)) (is_frozen_view F.header (node_view p KeyName.Own i)) fast).0 ∙ not_shared))

    module _ (x : Place) (fits : place_fits F x ≡ true) (own : x.name ≡ i) where
      no_pointer : (not (p (Part.PointerNull x)) && not (p (Part.Beyond x)) && Rules.each_name F p (Asked.LeadsNowhere x)) ≡ true
      no_pointer = told (p (Part.Null x.name)) (not (p (Part.PointerNull x)) && not (p (Part.Beyond x)) && Rules.each_name F p (Asked.LeadsNowhere x))
          (so.of_place F p says meets (Rules.null_has_no_pointer F p) (λ n h. at (Family.Names NameRule.NullPointer) n 0 0 refl h one one) x fits)
          (ap (λ v. p (Part.Null v)) own ∙ null)

      pointer_null : p (Part.PointerNull x) ≡ false
      pointer_null = no_of (p (Part.PointerNull x)) (and_parts (not (p (Part.PointerNull x))) (not (p (Part.Beyond x)))
          (and_parts (not (p (Part.PointerNull x)) && not (p (Part.Beyond x))) (Rules.each_name F p (Asked.LeadsNowhere x)) no_pointer).0).0

      not_beyond : p (Part.Beyond x) ≡ false
      not_beyond = no_of (p (Part.Beyond x)) (and_parts (not (p (Part.PointerNull x))) (not (p (Part.Beyond x)))
          (and_parts (not (p (Part.PointerNull x)) && not (p (Part.Beyond x))) (Rules.each_name F p (Asked.LeadsNowhere x)) no_pointer).0).1

      leads_nowhere : (n : ℕ) → n < F.names → p (Part.Leads x n) ≡ false
      leads_nowhere n bn = no_of (p (Part.Leads x n)) (each_passes (passes p (Asked.LeadsNowhere x)) F.names
          (and_parts (not (p (Part.PointerNull x)) && not (p (Part.Beyond x))) (Rules.each_name F p (Asked.LeadsNowhere x)) no_pointer).1 n bn)

      same_nowhere : (y : Place) → place_fits F y ≡ true → p (Part.SameBeyond x y) ≡ false
      same_nowhere y fy = false_from_ne_true (p (Part.SameBeyond x y)) (λ e. true≢false (sym (so.is_beyond F p says meets x y fits fy e) ∙ not_beyond))

      same_nowhere_too : (y : Place) → place_fits F y ≡ true → p (Part.SameBeyond y x) ≡ false
      same_nowhere_too y fy = false_from_ne_true (p (Part.SameBeyond y x)) (λ e.
          true≢false (sym (told (p (Part.SameBeyond y x)) (p (Part.SameBeyond x y)) (so.beyond_back F p says meets y x fy fits) e) ∙ same_nowhere y fy))

    -- no node that is not shared is reached but from itself
    not_led : (x : Place) → place_fits F x ≡ true → p (Part.Leads x i) ≡ false
    not_led x fits = false_from_ne_true (p (Part.Leads x i)) (λ e. neither (p (Part.Shared i)) (p (Part.Same x.name i)) not_shared
        (alone_too x.name (ltb-true x.name F.names (and_parts (nat_lt x.name F.names) (nat_lt x.pointer (length F.header.pointers)) fits).0))
        (told (p (Part.Leads x i)) (p (Part.Shared i) || p (Part.Same x.name i)) (unreached x i fits bi) e))
      where
        neither : (a b : Bool) → a ≡ false → b ≡ false → (a || b) ≡ true → ⊥
        neither true b e h u = true≢false e
        neither false b e h u = true≢false (sym u ∙ h)

    not_visited : (k : KeyName) → p (Part.Visits k i) ≡ false
    not_visited k = false_from_ne_true (p (Part.Visits k i)) (λ e. true≢false (sym (told (p (Part.Visits k i)) (p (Part.Shared i)) (unvisited k i bi) e) ∙ not_shared))

    not_flagged : (f : ℕ) → f < length F.header.flags → p (Part.Flag i f) ≡ false
    not_flagged f bf = bare_to (p (Part.Null i)) (p (Part.Flag i f)) (at (Family.Names NameRule.NullFlag) i f 0 refl bi bf one) null

    lock_not_mine : p (Part.LockMine i) ≡ false
    lock_not_mine = false_from_ne_true (p (Part.LockMine i)) (λ e. true≢false (sym (told (p (Part.LockMine i)) (p (Part.Locked i))
        (and_parts (p (Part.LockMine i) ⇒ p (Part.Locked i)) (p (Part.LockOthers i) ⇒ (p (Part.Locked i) && not (p (Part.LockMine i)))) (so.held F p says meets i bi)).0 e) ∙ not_locked))

    lock_not_others : p (Part.LockOthers i) ≡ false
    lock_not_others = false_from_ne_true (p (Part.LockOthers i)) (λ e. true≢false (sym (and_parts (p (Part.Locked i)) (not (p (Part.LockMine i))) (told (p (Part.LockOthers i)) (p (Part.Locked i) && not (p (Part.LockMine i)))
        (and_parts (p (Part.LockMine i) ⇒ p (Part.Locked i)) (p (Part.LockOthers i) ⇒ (p (Part.Locked i) && not (p (Part.LockMine i)))) (so.held F p says meets i bi)).1 e)).0 ∙ not_locked))

    nothing_of : (part : Part) → part_fits F part ≡ true → speaks_of i part ≡ true → p part ≡ false
    nothing_of (Part.Null j) fits speaks = absurd (true≢false (sym speaks))
    nothing_of (Part.Same j k) fits speaks =
        let w = and_parts (nat_lt j F.names) (nat_lt k F.names) fits in
        elim (or_cases (j == i) (k == i) speaks) [
          | inl e ↦ ap (λ v. p (Part.Same v k)) (eqb-true j i e) ∙ alone k (ltb-true k F.names w.1)
          | inr e ↦ ap (λ v. p (Part.Same j v)) (eqb-true k i e) ∙ alone_too j (ltb-true j F.names w.0)
        ]
    nothing_of (Part.Flag j f) fits speaks =
        ap (λ v. p (Part.Flag v f)) (eqb-true j i speaks) ∙ not_flagged f (ltb-true f (length F.header.flags) (and_parts (nat_lt j F.names) (nat_lt f (length F.header.flags)) fits).1)
    nothing_of (Part.Shared j) fits speaks = ap (λ v. p (Part.Shared v)) (eqb-true j i speaks) ∙ not_shared
    nothing_of (Part.Mine j) fits speaks = ap (λ v. p (Part.Mine v)) (eqb-true j i speaks) ∙ not_mine
    nothing_of (Part.Locked j) fits speaks = ap (λ v. p (Part.Locked v)) (eqb-true j i speaks) ∙ not_locked
    nothing_of (Part.LockMine j) fits speaks = ap (λ v. p (Part.LockMine v)) (eqb-true j i speaks) ∙ lock_not_mine
    nothing_of (Part.LockOthers j) fits speaks = ap (λ v. p (Part.LockOthers v)) (eqb-true j i speaks) ∙ lock_not_others
    nothing_of (Part.PointerNull x) fits speaks = pointer_null x fits (eqb-true x.name i speaks)
    nothing_of (Part.Beyond x) fits speaks = not_beyond x fits (eqb-true x.name i speaks)
    nothing_of (Part.Leads x j) fits speaks =
        let w = and_parts (place_fits F x) (nat_lt j F.names) fits in
        elim (or_cases (x.name == i) (j == i) speaks) [
          | inl e ↦ leads_nowhere x w.0 (eqb-true x.name i e) j (ltb-true j F.names w.1)
          | inr e ↦ ap (λ v. p (Part.Leads x v)) (eqb-true j i e) ∙ not_led x w.0
        ]
    nothing_of (Part.SameBeyond x y) fits speaks =
        let w = and_parts (place_fits F x) (place_fits F y) fits in
        elim (or_cases (x.name == i) (y.name == i) speaks) [
          | inl e ↦ same_nowhere x w.0 (eqb-true x.name i e) y w.1
          | inr e ↦ same_nowhere_too y w.1 (eqb-true y.name i e) x w.0
        ]
    nothing_of (Part.AtMost s t) fits speaks = absurd (true≢false (sym speaks))
    nothing_of (Part.Visits k j) fits speaks = ap (λ v. p (Part.Visits k v)) (eqb-true j i speaks) ∙ not_visited k
    nothing_of (Part.InSet k) fits speaks = absurd (true≢false (sym speaks))
    nothing_of Part.Spent fits speaks = absurd (true≢false (sym speaks))
    nothing_of (Part.Chain j k) fits speaks =
        let w = and_parts (nat_lt j F.names) (nat_lt k F.names) fits in
        elim (or_cases (j == i) (k == i) speaks) [
          | inl e ↦ ap (λ v. p (Part.Chain v k)) (eqb-true j i e) ∙ chain_from k (ltb-true k F.names w.1)
          | inr e ↦ ap (λ v. p (Part.Chain j v)) (eqb-true k i e) ∙ chain_to j (ltb-true j F.names w.0)
        ]
    nothing_of (Part.Picks k j m s) fits speaks =
        let w = and_parts (nat_lt j F.names && nat_lt m F.names) (nat_lt s (slot_count F)) fits in
        let u = and_parts (nat_lt j F.names) (nat_lt m F.names) w.0 in
        let bj = ltb-true j F.names u.0 in let bm = ltb-true m F.names u.1 in
        false_from_ne_true (p (Part.Picks k j m s)) (λ e.
        let right = told (p (Part.Picks k j m s)) (p (Part.Chain j m) && not (p (Part.Same j m)) && p (Part.Beyond (place j 0))) (pick k j m s bj bm (ltb-true s (slot_count F) w.1)) e in
        let chain = (and_parts (p (Part.Chain j m)) (not (p (Part.Same j m))) (and_parts (p (Part.Chain j m) && not (p (Part.Same j m))) (p (Part.Beyond (place j 0))) right).0).0 in
        true≢false (sym chain ∙ elim (or_cases (j == i) (m == i) speaks) [
          | inl e ↦ ap (λ v. p (Part.Chain v m)) (eqb-true j i e) ∙ chain_from m bm
          | inr e ↦ ap (λ v. p (Part.Chain j v)) (eqb-true m i e) ∙ chain_to j bj
        ]))
    nothing_of (Part.StopFlag k s f) fits speaks = absurd (true≢false (sym speaks))
    nothing_of (Part.StopVisited k s) fits speaks = absurd (true≢false (sym speaks))

  picture : IsPicture F p
  picture = record {
    fits = says;
    itself = so.itself_so F p says meets;
    symmetric = so.symmetric F p says meets;
    transitive = so.transitive F p says meets;
    one_node = one_node F p says meets;
    bare = λ i part bi fits speaks. bare_of (p (Part.Null i)) (p part) (λ null. nothing_of i bi null part fits speaks);
    owned = so.owned F p says meets;
    held = so.held F p says meets;
    somewhere = so.somewhere F p says meets;
    once = so.once F p says meets;
    one_target = so.one_target F p says meets;
    beyond = so.beyond F p says meets;
    beyond_back = so.beyond_back F p says meets;
    beyond_on = so.beyond_on F p says meets;
    total = so.total F p says meets;
    in_order = so.in_order F p says meets;
  }

  -- where the edge leads outside, the walk goes on to what is there
  goes_on_each : (k : KeyName) (i : ℕ) → i < F.names → visit_goes_on_each F p k i ≡ true
  goes_on_each k i bi = implied (p (Part.Visits k i)) (arrives_by F p k i (edge F.header p k i)) (λ visited.
      by_edge (edge F.header p k i) refl (told (p (Part.Visits k i)) (Rules.sends_by F p k i (edge F.header p k i))
      (so.of_key F p says meets (λ v. Rules.visit_sends_on F p v i) (λ n h. at (Family.Walks WalkRule.GoesOn) n i 0 refl h bi one) k) visited))
    where
      by_lead : (f : ℕ) (o : Option ℕ) → least_below (leads_to p (place i f)) F.names ≡ o → place_fits F (place i f) ≡ true → p (Part.Beyond (place i f)) ≡ true
          → lawful.arrives F p k i (elim o [ Some j ↦ Target.To j | None ↦ outer_target F p k i f ]) ≡ true → lawful.arrives F p k i (outer_target F p k i f) ≡ true
      by_lead f None e fits beyond arrives = arrives
      by_lead f (Some j) e fits beyond arrives =
          let w = least_some (leads_to p (place i f)) F.names j e in
          let once = and_parts (not (p (Part.PointerNull (place i f)) && p (Part.Beyond (place i f)))) (not (p (Part.Leads (place i f) j) && (p (Part.PointerNull (place i f)) || p (Part.Beyond (place i f))))) (so.once F p says meets (place i f) j fits w.0) in
          absurd (true≢false (sym (or_right (p (Part.PointerNull (place i f))) (p (Part.Beyond (place i f))) beyond) ∙ not_both (p (Part.Leads (place i f) j)) (p (Part.PointerNull (place i f)) || p (Part.Beyond (place i f))) once.1 w.1))

      by_edge : (o : Option ℕ) → edge F.header p k i ≡ o → Rules.sends_by F p k i (edge F.header p k i) ≡ true → arrives_by F p k i (edge F.header p k i) ≡ true
      by_edge None e sends = ap (arrives_by F p k i) e ∙ sym (ap (Rules.sends_by F p k i) e) ∙ sends
      by_edge (Some f) e sends =
          let few = (least_some (goes F.header p k i) (length F.header.pointers) f e).0 in
          let fits : place_fits F (place i f) ≡ true = and_from _ _ (lt-ltb i F.names bi) (lt-ltb f (length F.header.pointers) few) in
          let both = and_parts (Rules.each_name F p (Asked.VisitedFrom k (place i f))) (p (Part.Beyond (place i f)) ⇒ lawful.arrives F p k i (target F p k i)) (sym (ap (Rules.sends_by F p k i) e) ∙ sends) in
          ap (arrives_by F p k i) e
          ∙ and_from _ _
          (ap not (none_there (leads_unvisited p k (place i f)) F.names (λ n bn. false_from_ne_true (leads_unvisited p k (place i f) n) (λ u.
          let w = and_parts (p (Part.Leads (place i f) n)) (not (p (Part.Visits k n))) u in
          true≢false (sym (told (p (Part.Leads (place i f) n)) (p (Part.Visits k n)) (each_passes (passes p (Asked.VisitedFrom k (place i f))) F.names both.0 n bn) w.0) ∙ no_of (p (Part.Visits k n)) w.1)))))
          (implied (p (Part.Beyond (place i f))) (lawful.arrives F p k i (outer_target F p k i f)) (λ beyond.
          by_lead f (least_below (leads_to p (place i f)) F.names) refl fits beyond
          (sym (ap (λ o. lawful.arrives F p k i (elim o [ Some g ↦ pointer_target F p k i g | None ↦ Target.Ends ])) e) ∙ told (p (Part.Beyond (place i f))) (lawful.arrives F p k i (target F p k i)) both.1 beyond)))

  -- without slots no chain leads to another node
  no_chain : slot_count F ≡ 0 → (i j : ℕ) → i < F.names → j < F.names → chains_on p i j ≡ true → ⊥
  no_chain none i j bi bj on =
      let begins = told (chains_on p i j) (chains_are_there F && is_fast F.header p i && not (p (Part.PointerNull (place i 0)))) (so.chain_first F p says meets i j bi bj) on in
      let w = and_parts (chains_are_there F) (is_fast F.header p i) (and_parts (chains_are_there F && is_fast F.header p i) (not (p (Part.PointerNull (place i 0)))) begins).0 in
      so.none_fast F p says meets none i w.0 w.1

  chain_on : (i j y : ℕ) → i < F.names → j < F.names → y < F.names → lawful.chain_goes_on p i j y ≡ true
  chain_on i j y bi bj by = implied_by (chains_on p i j) (p (Part.Leads (place i 0) y)) (p (Part.Chain y j)) (λ on led. by_slots on led (so.slots_or_none F p says meets))
    where
      by_slots : chains_on p i j ≡ true → p (Part.Leads (place i 0) y) ≡ true → (slot_count F ≡ 2) ⊎ (slot_count F ≡ 0) → p (Part.Chain y j) ≡ true
      by_slots on led (inl two) =
          told (p (Part.Leads (place i 0) y)) (p (Part.Chain y j)) (each_passes (passes p (Asked.ChainGoesOn i j)) F.names
          (told (chains_on p i j) (Rules.each_name F p (Asked.ChainGoesOn i j)) (at (Family.Chains ChainRule.GoesOn) i j 0 refl (in_chains two i bi) bj one) on) y by) led
      by_slots on led (inr none) = absurd (no_chain none i j bi bj on)

  chain_end : (i j r : ℕ) → i < F.names → j < F.names → r < F.names → lawful.chain_grows F p i j r ≡ true
  chain_end i j r bi bj br =
      implied_by (chains_are_there F && p (Part.Chain i j) && is_fast F.header p j) (p (Part.Leads (place j 0) r)) (p (Part.Chain i r)) (λ on led.
      let w = and_parts (chains_are_there F && p (Part.Chain i j)) (is_fast F.header p j) on in let u = and_parts (chains_are_there F) (p (Part.Chain i j)) w.0 in
      by_slots u.0 u.1 w.1 led (so.slots_or_none F p says meets))
    where
      by_slots : chains_are_there F ≡ true → p (Part.Chain i j) ≡ true → is_fast F.header p j ≡ true → p (Part.Leads (place j 0) r) ≡ true → (slot_count F ≡ 2) ⊎ (slot_count F ≡ 0) → p (Part.Chain i r) ≡ true
      by_slots there chain fast led (inl two) =
          told (p (Part.Leads (place j 0) r)) (p (Part.Chain i r)) (each_passes (passes p (Asked.ChainGrows i j)) F.names
          (told (p (Part.Chain i j) && is_fast F.header p j) (Rules.each_name F p (Asked.ChainGrows i j)) (at (Family.Chains ChainRule.Grows) i j 0 refl (in_chains two i bi) bj one) (and_from _ _ chain fast)) r br) led
      by_slots there chain fast led (inr none) = absurd (so.none_fast F p says meets none j there fast)

  possible : IsPossible F p
  possible = record {
    picture = picture;
    ends = so.of_term F p says meets (lawful.lies_between_ends p) (λ n h. at (Family.Keys KeyRule.Ends) n 0 0 refl h one one);
    ordinary = so.of_key F p says meets (lawful.is_ordinary_key p) (λ n h. at (Family.Keys KeyRule.Ordinary) n 0 0 refl h one one);
    root = λ i bi. at (Family.Walks WalkRule.Root) i 0 0 refl bi one one;
    root_visited = λ k i bi. so.of_key F p says meets (λ v. lawful.root_is_visited F p v i) (λ n h. at (Family.Walks WalkRule.RootVisited) n i 0 refl h bi one) k;
    unvisited = unvisited;
    unreached = unreached;
    goes_on = λ k i bi. visits_go_on_alike F p picture k i bi ∙ goes_on_each k i bi;
    stops = λ k s hs. so.of_key F p says meets (λ v. lawful.stop_is_right F p v s) (λ n h. at (Family.Walks WalkRule.Stops) n s 0 refl h hs one) k;
    chain_itself = so.chain_itself F p says meets;
    chain_first = so.chain_first F p says meets;
    chain_on = chain_on;
    chain_end = chain_end;
    pick = pick;
    pick_once = pick_once;
  }

pub meets_possible : (F : Frame) (p : Picture) → SaysNoOutside F p → MeetsPossible F p → IsPossible F p
meets_possible F p says meets = possible F p says meets

module _ (F : Frame) (p : Picture) (says : SaysNoOutside F p) (all : MeetsRules F p) where
  fewer : MeetsPossible F p
  fewer r poss within = all r within

  rule_at : (family : Family) (a b c : ℕ) → a < count F (shape_of family).first 0 → b < count F (shape_of family).second a → c < count F (shape_of family).third a → Rules.family_holds F p family a b c ≡ true
  rule_at family a b c ha hb hc = all (record { family = family; first = a; second = b; third = c }) (record { first = ha; second = hb; third = hc })

  of_key : (test : KeyName → Bool) → ((n : ℕ) → n < 3 → test (key_at n) ≡ true) → (k : KeyName) → test k ≡ true
  of_key = so.of_key F p says fewer

  of_place : (test : Place → Bool) → ((n : ℕ) → n < length F.header.pointers * F.names → test (place_at F n) ≡ true) → (x : Place) → place_fits F x ≡ true → test x ≡ true
  of_place = so.of_place F p says fewer

  chain_order : (i j : ℕ) → i < F.names → j < F.names → lawful.chain_is_ordered F p i j ≡ true
  chain_order i j bi bj =
      elim (so.slots_or_none F p says fewer) [
        | inl two ↦ rule_at (Family.Kept KeptRule.Chains) i j 0 (in_chains F p says fewer two i bi) bj one
        | inr none ↦ implied (chains_on p i j) (lawful.keys_ordered (lawful.order_of F 0) p (Term.Node i) (Term.Node j)) (λ on. absurd (no_chain F p says fewer none i j bi bj on))
      ]

  pick_order : (k : KeyName) (i j s : ℕ) → i < F.names → j < F.names → s < slot_count F → lawful.pick_is_ordered F p k i j s ≡ true
  pick_order k i j s bi bj hs =
      elim (so.slots_or_none F p says fewer) [
        | inl two ↦ (let w = and_parts (lawful.pick_is_ordered F p k i j 0) (lawful.pick_is_ordered F p k i j 1)
            (of_key (λ v. Rules.picks_are_ordered F p v i j) (λ n h. rule_at (Family.Kept KeptRule.Picks) n i j h (in_chains F p says fewer two i bi) bj) k) in
            by_slot s (subst (λ v. s < v) two hs) w.0 w.1)
        | inr none ↦ (let never : s < 0 = subst (λ v. s < v) none hs in absurd (omega arith))
      ]
    where
      by_slot : (s : ℕ) → s < 2 → lawful.pick_is_ordered F p k i j 0 ≡ true → lawful.pick_is_ordered F p k i j 1 ≡ true → lawful.pick_is_ordered F p k i j s ≡ true
      by_slot zero h a b = a
      by_slot (suc zero) h a b = b
      by_slot (suc (suc n)) h a b = absurd (omega arith)

  pub meets_lawful : IsLawful F p
  meets_lawful = record {
    possible = possible F p says fewer;
    published = λ x j fits bj. of_place (λ y. lawful.leads_to_shared p y j) (λ n h. rule_at (Family.Kept KeptRule.Published) n j 0 h bj one) x fits;
    keeps = λ k i c bi h. implied (p (Part.Shared i)) (lawful.keep_holds F.header (node_view p k i) c) (λ shared. each_keep (node_view p k i) F.header.keeps
        (told (p (Part.Shared i)) (lawful.keeps_hold F.header (node_view p k i)) (of_key (λ v. Rules.node_keeps F p v i) (λ n b. rule_at (Family.Kept KeptRule.Keeps) n i 0 b bi one) k) shared) c h);
    stop_kept = λ k s c hs h. implied (is_picked F p k s) (lawful.keep_holds F.header (stop_view p k s) c) (λ picked. each_keep (stop_view p k s) F.header.keeps
        (told (is_picked F p k s) (lawful.keeps_hold F.header (stop_view p k s)) (of_key (λ v. Rules.stop_keeps F p v s) (λ n b. rule_at (Family.Kept KeptRule.StopKeeps) n s 0 b hs one) k) picked) c h);
    stop_kept_on = λ k j s hs. of_key (λ v. lawful.stop_keeps_on F p v s j) (λ n b. of_key (λ u. lawful.stop_keeps_on F p (key_at n) s u) (λ m c. rule_at (Family.Kept KeptRule.StopKeepsOn) n s m b hs c) j) k;
    edges = λ x j fits bj. of_place (λ y. lawful.edge_is_ordered F p y j) (λ n h. rule_at (Family.Kept KeptRule.Edges) n j 0 h bj one) x fits;
    room = of_place (lawful.beyond_has_room F p) (λ n h. rule_at (Family.Kept KeptRule.Room) n 0 0 h one one);
    chain_order = chain_order;
    pick_order = pick_order;
  }
