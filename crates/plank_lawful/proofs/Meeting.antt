-- A picture that meets the rules of possible pictures: what follows of its names, nodes and pointers.
use Rattle.std.proofs.Common.{◌≡◌, ◌⊎◌, ℕ, ◌+◌, ◌*◌, ◌<◌, ◌==◌, Bool, true, false, not, length, refl, sym, ◌∙◌, ap, subst, inl, inr, arith}
use Rattle.std.specs.Prelude.{◌&&◌, ◌||◌, nat_lt, is_some, if◌then◌else◌}
use Rattle.std.proofs.lemmas.Bool.{and_parts, and_from, true≢false, cases_lt, ltb-true, cond-true, cond-false}
use Rattle.plank_prog.specs.Conditions.{value}
use Rattle.plank_pic.specs.declared.parts.KeyName.{KeyName}
use Rattle.plank_pic.specs.declared.parts.Term.{Term}
use Rattle.plank_pic.specs.declared.parts.Place.{Place}
use Rattle.plank_pic.specs.declared.parts.Part.{Part}
use Rattle.plank_pic.specs.Frames.{Frame}
use Rattle.plank_pic.specs.Pictures.{Picture, is_fast, is_frozen_view, node_view}
use Rattle.plank_pic.specs.Lawful as lawful
use Rattle.plank_pic.specs.Lawful.{◌⇒◌, part_fits, place_fits, term_fits, lock_fits, slot_count, speaks_of, chains_are_there}
use Rattle.plank_pic.proofs.EachName.{told, same_bits}
use Rattle.plank_lawful.specs.declared.asking.Asked.{Asked}
use Rattle.plank_lawful.specs.declared.families.NameRule.{NameRule}
use Rattle.plank_lawful.specs.declared.families.PointerRule.{PointerRule}
use Rattle.plank_lawful.specs.declared.families.KeyRule.{KeyRule}
use Rattle.plank_lawful.specs.declared.families.ChainRule.{ChainRule}
use Rattle.plank_lawful.specs.declared.families.Family.{Family}
use Rattle.plank_lawful.specs.Indexes.{key_at, place_at, term_at, fixed_term, fixed_count}
use Rattle.plank_lawful.specs.Asked.{all_below, passes}
use Rattle.plank_lawful.specs.Rules
use Rattle.plank_lawful.specs.Families.{count, shape_of, is_possible}
use Rattle.plank_lawful.specs.Laws.{SaysNoOutside, MeetsPossible}
use Rattle.plank_lawful.proofs.Asked.{each_passes}
use Rattle.plank_lawful.proofs.Tests.{implied, implied_by, itself, no_of, or_turned, tri, one, given_if}
use Rattle.plank_lawful.proofs.Places.{key_number, key_small, key_back, place_number, place_back, place_small, term_number, term_back, term_small, fixed_at}

module _ (F : Frame) (p : Picture) (says : SaysNoOutside F p) (meets : MeetsPossible F p) where
  at : (family : Family) (a b c : ℕ) → is_possible family ≡ true → a < count F (shape_of family).first 0 → b < count F (shape_of family).second a → c < count F (shape_of family).third a
      → Rules.family_holds F p family a b c ≡ true
  at family a b c poss ha hb hc = meets (record { family = family; first = a; second = b; third = c }) poss (record { first = ha; second = hb; third = hc })

  -- a test of keys, of places and of terms, from a test of their numbers
  pub of_key : (test : KeyName → Bool) → ((n : ℕ) → n < 3 → test (key_at n) ≡ true) → (k : KeyName) → test k ≡ true
  of_key test each k = subst (λ v. test v ≡ true) (key_back k) (each (key_number k) (key_small k))

  pub of_place : (test : Place → Bool) → ((n : ℕ) → n < length F.header.pointers * F.names → test (place_at F n) ≡ true) → (x : Place) → place_fits F x ≡ true → test x ≡ true
  of_place test each x fits = subst (λ y. test y ≡ true) (place_back F x fits) (each (place_number F x) (place_small F x fits))

  pub of_term : (test : Term → Bool) → ((n : ℕ) → n < F.names + fixed_count F → test (term_at F n) ≡ true) → (t : Term) → term_fits F t ≡ true → test t ≡ true
  of_term test each t fits = subst (λ u. test u ≡ true) (term_back F t fits) (each (term_number F t) (term_small F t fits))

  -- ---- names of one node

  pub symmetric : (i j : ℕ) → i < F.names → j < F.names → lawful.same_is_symmetric p i j ≡ true
  symmetric i j bi bj =
      elim (tri i j) [
        | inl below ↦ (and_parts (lawful.same_is_symmetric p i j) (lawful.same_is_symmetric p j i) (at (Family.Names NameRule.BothWays) i j 0 refl bi below one)).0
        | inr more ↦ elim more [
          | inl same ↦ subst (λ v. lawful.same_is_symmetric p i v ≡ true) same (itself (p (Part.Same i i)))
          | inr above ↦ (and_parts (lawful.same_is_symmetric p j i) (lawful.same_is_symmetric p i j) (at (Family.Names NameRule.BothWays) j i 0 refl bj above one)).1
        ]
      ]

  pub back : (i j : ℕ) → i < F.names → j < F.names → p (Part.Same i j) ≡ true → p (Part.Same j i) ≡ true
  back i j bi bj same = told (p (Part.Same i j)) (p (Part.Same j i)) (symmetric i j bi bj) same

  -- what is the same for the greater and the lesser of two names is the same for both
  pub spread : (f : ℕ → Bool) → ((a b : ℕ) → b < a → a < F.names → p (Part.Same a b) ≡ true → f a ≡ f b)
      → (i j : ℕ) → i < F.names → j < F.names → p (Part.Same i j) ≡ true → f i ≡ f j
  spread f lower i j bi bj same =
      elim (tri i j) [
        | inl below ↦ lower i j below bi same
        | inr more ↦ elim more [
          | inl equal ↦ ap f equal
          | inr above ↦ sym (lower j i above bj (back i j bi bj same))
        ]
      ]

  pub together : (n : ℕ) → n < F.names → (i j : ℕ) → i < F.names → j < F.names → p (Part.Same i j) ≡ true → p (Part.Same i n) ≡ p (Part.Same j n)
  together n bn = spread (λ m. p (Part.Same m n)) (λ a b h ba same. same_bits (p (Part.Same a n)) (p (Part.Same b n)) (each_passes (passes p (Asked.SameAs a b)) F.names (told (p (Part.Same a b)) (Rules.each_name F p (Asked.SameAs a b)) (at (Family.Names NameRule.Together) a b 0 refl ba h one) same) n bn))

  pub transitive : (i j k : ℕ) → i < F.names → j < F.names → k < F.names → lawful.same_is_transitive p i j k ≡ true
  transitive i j k bi bj bk = implied_by (p (Part.Same i j)) (p (Part.Same j k)) (p (Part.Same i k)) (λ same more. together k bk i j bi bj same ∙ more)

  pub itself_so : (i : ℕ) → i < F.names → lawful.names_itself p i ≡ true
  itself_so i bi = at (Family.Names NameRule.Itself) i 0 0 refl bi one one

  pub not_null : (i j : ℕ) → i < F.names → j < F.names → p (Part.Same i j) ≡ true → p (Part.Null i) ≡ false
  not_null i j bi bj same =
      let whole = together i bi i j bi bj same ∙ back i j bi bj same in
      no_of (p (Part.Null i)) (sym (same_bits (p (Part.Same i i)) (not (p (Part.Null i))) (itself_so i bi)) ∙ whole)

  -- ---- pointers

  pub somewhere : (x : Place) → place_fits F x ≡ true → lawful.leads_somewhere F p x ≡ true
  somewhere = of_place (lawful.leads_somewhere F p) (λ n h. at (Family.Pointers PointerRule.Somewhere) n 0 0 refl h one one)

  once_so : (x : Place) → place_fits F x ≡ true → Rules.leads_once F p x ≡ true
  once_so = of_place (Rules.leads_once F p) (λ n h. at (Family.Pointers PointerRule.Once) n 0 0 refl h one one)

  pub once : (x : Place) (j : ℕ) → place_fits F x ≡ true → j < F.names → lawful.leads_once p x j ≡ true
  once x j fits bj =
      let w = and_parts (not (p (Part.PointerNull x) && p (Part.Beyond x))) ((p (Part.PointerNull x) || p (Part.Beyond x)) ⇒ Rules.each_name F p (Asked.LeadsNowhere x)) (once_so x fits) in
      and_from _ _ w.0 (never (p (Part.Leads x j)) (p (Part.PointerNull x) || p (Part.Beyond x)) (λ other. no_of (p (Part.Leads x j)) (each_passes (passes p (Asked.LeadsNowhere x)) F.names (told (p (Part.PointerNull x) || p (Part.Beyond x)) (Rules.each_name F p (Asked.LeadsNowhere x)) w.1 other) j bj)))
    where
      never : (a b : Bool) → (b ≡ true → a ≡ false) → not (a && b) ≡ true
      never true true h = absurd (true≢false (h refl))
      never true false h = refl
      never false b h = refl

  pub one_target : (x : Place) (j k : ℕ) → place_fits F x ≡ true → j < F.names → k < F.names → lawful.leads_to_one p x j k ≡ true
  one_target x j k fits bj bk = implied_by (p (Part.Leads x j)) (p (Part.Leads x k)) (p (Part.Same j k)) (λ led too.
      let each = of_place (λ y. Rules.leads_to_one F p y j) (λ n h. at (Family.Pointers PointerRule.OneTarget) n j 0 refl h bj one) x fits in
      told (p (Part.Leads x k)) (p (Part.Same j k)) (each_passes (passes p (Asked.LeadsTo x j)) F.names (told (p (Part.Leads x j)) (Rules.each_name F p (Asked.LeadsTo x j)) each led) k bk) too)

  pub beyond : (x : Place) → place_fits F x ≡ true → lawful.beyond_itself p x ≡ true
  beyond = of_place (lawful.beyond_itself p) (λ n h. at (Family.Pointers PointerRule.BeyondItself) n 0 0 refl h one one)

  -- of two numbers of places either is below the other, or they are equal
  both_beyond : (a b : ℕ) → a < length F.header.pointers * F.names → b < length F.header.pointers * F.names → lawful.beyond_is_symmetric p (place_at F a) (place_at F b) ≡ true
  both_beyond a b ha hb =
      elim (tri a b) [
        | inl below ↦ (and_parts (lawful.beyond_is_symmetric p (place_at F a) (place_at F b)) (lawful.beyond_is_symmetric p (place_at F b) (place_at F a)) (at (Family.Pointers PointerRule.BeyondBothWays) a b 0 refl ha below one)).0
        | inr more ↦ elim more [
          | inl same ↦ subst (λ v. lawful.beyond_is_symmetric p (place_at F a) (place_at F v) ≡ true) same (itself (p (Part.SameBeyond (place_at F a) (place_at F a))))
          | inr above ↦ (and_parts (lawful.beyond_is_symmetric p (place_at F b) (place_at F a)) (lawful.beyond_is_symmetric p (place_at F a) (place_at F b)) (at (Family.Pointers PointerRule.BeyondBothWays) b a 0 refl hb above one)).1
        ]
      ]

  pub beyond_back : (x y : Place) → place_fits F x ≡ true → place_fits F y ≡ true → lawful.beyond_is_symmetric p x y ≡ true
  beyond_back x y fx fy = of_place (λ v. lawful.beyond_is_symmetric p v y) (λ a ha. of_place (λ w. lawful.beyond_is_symmetric p (place_at F a) w) (λ b hb. both_beyond a b ha hb) y fy) x fx

  beyond_turned : (x y : Place) → place_fits F x ≡ true → place_fits F y ≡ true → p (Part.SameBeyond x y) ≡ true → p (Part.SameBeyond y x) ≡ true
  beyond_turned x y fx fy same = told (p (Part.SameBeyond x y)) (p (Part.SameBeyond y x)) (beyond_back x y fx fy) same

  -- pointers to one outside node are the same for each third
  lower_beyond : (a b : ℕ) → b < a → a < length F.header.pointers * F.names → (z : Place) → place_fits F z ≡ true → p (Part.SameBeyond (place_at F a) (place_at F b)) ≡ true
      → p (Part.SameBeyond (place_at F a) z) ≡ p (Part.SameBeyond (place_at F b) z)
  lower_beyond a b h ha z fz same =
      let w = and_parts (nat_lt z.name F.names) (nat_lt z.pointer (length F.header.pointers)) fz in
      same_bits (p (Part.SameBeyond (place_at F a) z)) (p (Part.SameBeyond (place_at F b) z)) (each_passes (passes p (Asked.BeyondAs (place_at F a) (place_at F b) z.pointer)) F.names
      (told (p (Part.SameBeyond (place_at F a) (place_at F b))) (Rules.each_name F p (Asked.BeyondAs (place_at F a) (place_at F b) z.pointer)) (at (Family.Pointers PointerRule.BeyondTogether) a b z.pointer refl ha h (ltb-true _ _ w.1)) same) z.name (ltb-true _ _ w.0))

  numbers_together : (a b : ℕ) → a < length F.header.pointers * F.names → b < length F.header.pointers * F.names → place_fits F (place_at F a) ≡ true → place_fits F (place_at F b) ≡ true
      → (z : Place) → place_fits F z ≡ true → p (Part.SameBeyond (place_at F a) (place_at F b)) ≡ true → p (Part.SameBeyond (place_at F a) z) ≡ p (Part.SameBeyond (place_at F b) z)
  numbers_together a b ha hb fa fb z fz same =
      elim (tri a b) [
        | inl below ↦ lower_beyond a b below ha z fz same
        | inr more ↦ elim more [
          | inl equal ↦ ap (λ v. p (Part.SameBeyond (place_at F v) z)) equal
          | inr above ↦ sym (lower_beyond b a above hb z fz (beyond_turned (place_at F a) (place_at F b) fa fb same))
        ]
      ]

  pub beyond_together : (x y z : Place) → place_fits F x ≡ true → place_fits F y ≡ true → place_fits F z ≡ true → p (Part.SameBeyond x y) ≡ true → p (Part.SameBeyond x z) ≡ p (Part.SameBeyond y z)
  beyond_together x y z fx fy fz same =
      let ex = place_back F x fx in let ey = place_back F y fy in
      sym (ap (λ v. p (Part.SameBeyond v z)) ex)
      ∙ numbers_together (place_number F x) (place_number F y) (place_small F x fx) (place_small F y fy) (ap (place_fits F) ex ∙ fx) (ap (place_fits F) ey ∙ fy) z fz
      (ap (λ v. p (Part.SameBeyond v (place_at F (place_number F y)))) ex ∙ ap (λ v. p (Part.SameBeyond x v)) ey ∙ same)
      ∙ ap (λ v. p (Part.SameBeyond v z)) ey

  pub beyond_on : (x y z : Place) → place_fits F x ≡ true → place_fits F y ≡ true → place_fits F z ≡ true → lawful.beyond_is_transitive p x y z ≡ true
  beyond_on x y z fx fy fz = implied_by (p (Part.SameBeyond x y)) (p (Part.SameBeyond y z)) (p (Part.SameBeyond x z)) (λ same more. beyond_together x y z fx fy fz same ∙ more)

  -- a pointer that leads where another leads outside leads outside
  pub is_beyond : (x y : Place) → place_fits F x ≡ true → place_fits F y ≡ true → p (Part.SameBeyond x y) ≡ true → p (Part.Beyond x) ≡ true
  is_beyond x y fx fy same =
      sym (same_bits (p (Part.SameBeyond x x)) (p (Part.Beyond x)) (beyond x fx)) ∙ beyond_together x y x fx fy fx same ∙ beyond_turned x y fx fy same

  -- ---- keys

  pub total : (s t : Term) → term_fits F s ≡ true → term_fits F t ≡ true → lawful.order_is_total p s t ≡ true
  total s t fs ft = of_term (λ u. lawful.order_is_total p u t) (λ a ha. of_term (λ u. lawful.order_is_total p (term_at F a) u) (λ b hb. by_order a b ha hb) t ft) s fs
    where
      by_order : (a b : ℕ) → a < F.names + fixed_count F → b < F.names + fixed_count F → lawful.order_is_total p (term_at F a) (term_at F b) ≡ true
      by_order a b ha hb =
          elim (cases_lt b (a + 1)) [
            | inl below ↦ at (Family.Keys KeyRule.Total) a b 0 refl ha below one
            | inr above ↦ or_turned (p (Part.AtMost (term_at F b) (term_at F a))) (p (Part.AtMost (term_at F a) (term_at F b))) (at (Family.Keys KeyRule.Total) b a 0 refl hb (omega arith) one)
          ]

  order_so : (s t : Term) → term_fits F s ≡ true → term_fits F t ≡ true → Rules.order_goes_on F p s t ≡ true
  order_so s t fs ft = of_term (λ u. Rules.order_goes_on F p u t) (λ a ha. of_term (λ u. Rules.order_goes_on F p (term_at F a) u) (λ b hb. at (Family.Keys KeyRule.InOrder) a b 0 refl ha hb one) t ft) s fs

  pub in_order : (s t u : Term) → term_fits F s ≡ true → term_fits F t ≡ true → term_fits F u ≡ true → lawful.order_is_transitive p s t u ≡ true
  in_order s t u fs ft fu = implied_by (p (Part.AtMost s t)) (p (Part.AtMost t u)) (p (Part.AtMost s u)) (λ below more.
      let each = and_parts (Rules.each_name F p (Asked.NodeFollows s t)) (all_below (passes p (Asked.TermFollows s t)) (fixed_count F))
      (told (p (Part.AtMost s t)) (Rules.each_name F p (Asked.NodeFollows s t) && all_below (passes p (Asked.TermFollows s t)) (fixed_count F)) (order_so s t fs ft) below) in
      by_term u (fixed_at F u fu) each.0 each.1 more)
    where
      by_term : (u : Term) → ((i : ℕ) × (i < F.names) × (u ≡ Term.Node i)) ⊎ ((m : ℕ) × (m < fixed_count F) × (fixed_term m ≡ u)) → Rules.each_name F p (Asked.NodeFollows s t) ≡ true
          → all_below (passes p (Asked.TermFollows s t)) (fixed_count F) ≡ true → p (Part.AtMost t u) ≡ true → p (Part.AtMost s u) ≡ true
      by_term u (inl w) names others e =
          ap (λ v. p (Part.AtMost s v)) w.2 ∙ told (p (Part.AtMost t (Term.Node w.0))) (p (Part.AtMost s (Term.Node w.0))) (each_passes (passes p (Asked.NodeFollows s t)) F.names names w.0 w.1) (sym (ap (λ v. p (Part.AtMost t v)) w.2) ∙ e)
      by_term u (inr w) names others e =
          sym (ap (λ v. p (Part.AtMost s v)) w.2) ∙ told (p (Part.AtMost t (fixed_term w.0))) (p (Part.AtMost s (fixed_term w.0))) (each_passes (passes p (Asked.TermFollows s t)) (fixed_count F) others w.0 w.1) (ap (λ v. p (Part.AtMost t v)) w.2 ∙ e)

  -- ---- owners, locks and chains

  pub owned : (i : ℕ) → i < F.names → lawful.owned_once p i ≡ true
  owned i bi = at (Family.Names NameRule.Owned) i 0 0 refl bi one one

  pub held : (i : ℕ) → i < F.names → lawful.held_once p i ≡ true
  held i bi = by_lock F.header.has_lock refl
    where
      no_lock : F.header.has_lock ≡ false → lock_fits F i ≡ false
      no_lock e = ap (λ b. nat_lt i F.names && b) e ∙ and_no (nat_lt i F.names)
        where
          and_no : (a : Bool) → (a && false) ≡ false
          and_no true = refl
          and_no false = refl

      by_lock : (b : Bool) → F.header.has_lock ≡ b → lawful.held_once p i ≡ true
      by_lock true e = at (Family.Names NameRule.Held) i 0 0 refl (subst (λ v. i < (if v then F.names else 0)) (sym e) bi) one one
      by_lock false e = and_from _ _
          (implied (p (Part.LockMine i)) (p (Part.Locked i)) (λ h. absurd (true≢false (sym h ∙ says (Part.LockMine i) (no_lock e)))))
          (implied (p (Part.LockOthers i)) (p (Part.Locked i) && not (p (Part.LockMine i))) (λ h. absurd (true≢false (sym h ∙ says (Part.LockOthers i) (no_lock e)))))

  pub chain_first : (i j : ℕ) → i < F.names → j < F.names → lawful.chain_begins F p i j ≡ true
  chain_first i j bi bj = at (Family.Chains ChainRule.Begins) i j 0 refl bi bj one

  pub chain_itself : (i j : ℕ) → i < F.names → j < F.names → lawful.chain_of_itself p i j ≡ true
  chain_itself i j bi bj = at (Family.Chains ChainRule.Itself) i j 0 refl bi bj one

  -- where there are no slots, nothing is frozen in a structure with one pointer field
  pub none_fast : slot_count F ≡ 0 → (i : ℕ) → chains_are_there F ≡ true → is_fast F.header p i ≡ true → ⊥
  none_fast none i there fast =
      let given : is_some F.header.freeze ≡ true = given_if F.header.freeze (value (node_view p KeyName.Own i)) (and_parts (p (Part.Shared i)) (is_frozen_view F.header (node_view p KeyName.Own i)) fast).1 in
      let two : slot_count F ≡ 2 = cond-true (is_some F.header.freeze && (length F.header.pointers == 1)) 2 0 (and_from _ _ given there) in
      let never : 2 ≡ 0 = sym two ∙ none in
      omega arith

  pub slots_or_none : (slot_count F ≡ 2) ⊎ (slot_count F ≡ 0)
  slots_or_none = by_bit (is_some F.header.freeze && (length F.header.pointers == 1)) refl
    where
      by_bit : (b : Bool) → (is_some F.header.freeze && (length F.header.pointers == 1)) ≡ b → (slot_count F ≡ 2) ⊎ (slot_count F ≡ 0)
      by_bit true e = inl (cond-true (is_some F.header.freeze && (length F.header.pointers == 1)) 2 0 e)
      by_bit false e = inr (cond-false (is_some F.header.freeze && (length F.header.pointers == 1)) 2 0 e)
