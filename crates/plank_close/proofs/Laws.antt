-- The clauses of pictures: order, names of one node, pointers, and names that are null.
use Rattle.std.proofs.Common.{◌≡◌, ℕ, ◌<◌, Bool, true, false, length, refl, sym, ◌∙◌, ap}
use Rattle.std.specs.Prelude.{not, ◌&&◌, ◌||◌, nat_lt}
use Rattle.std.specs.Bool.{beq}
use Rattle.std.proofs.lemmas.Bool.{and_parts, and_from, ltb-true, true≢false}
use Rattle.plank_pic.specs.declared.parts.Part.{Part}
use Rattle.plank_pic.specs.declared.parts.Place.{Place}
use Rattle.plank_pic.specs.declared.parts.Term.{Term}
use Rattle.plank_pic.specs.Frames.{Frame}
use Rattle.plank_pic.specs.Pictures.{Picture}
use Rattle.plank_pic.specs.Renaming.{rename_part, instead}
use Rattle.plank_pic.specs.Lawful.{part_fits, place_fits, term_fits, speaks_of, IsPicture}
use Rattle.plank_pic.proofs.EachName.{told}
use Rattle.plank_close.specs.Clauses.{Implies, IsClause, said}

not_true : (b : Bool) → (b ≡ true → ⊥) → b ≡ false
not_true true h = absurd (h refl)
not_true false h = refl

alike : (a b : Bool) → beq a b ≡ true → a ≡ b
alike true true h = refl
alike true false h = cc
alike false true h = cc
alike false false h = refl

not_not : (b : Bool) → not (not b) ≡ b
not_not true = refl
not_not false = refl

or_second : (a b : Bool) → (a || b) ≡ true → a ≡ false → b ≡ true
or_second true b h e = absurd (true≢false e)
or_second false b h e = h

not_both : (a b : Bool) → not (a && b) ≡ true → a ≡ true → b ≡ false
not_both true true h e = absurd (true≢false (sym h))
not_both true false h e = refl
not_both false b h e = absurd (true≢false (sym e))

or_none : (a b : Bool) → (a || b) ≡ false → (a ≡ false) × (b ≡ false)
or_none true b h = absurd (true≢false h)
or_none false b h = (refl, h)

module _ (F : Frame) where
  -- a part of which a picture says yes is one of the frame's
  fits_of : (p : Picture) → IsPicture F p → (part : Part) → p part ≡ true → part_fits F part ≡ true
  fits_of p is part h = by_fit (part_fits F part) refl
    where
      by_fit : (b : Bool) → part_fits F part ≡ b → part_fits F part ≡ true
      by_fit true e = e
      by_fit false e = absurd (true≢false (sym h ∙ is.fits part e))

  names_of : (i j : ℕ) → (nat_lt i F.names && nat_lt j F.names) ≡ true → (i < F.names) × (j < F.names)
  names_of i j h = let both = and_parts (nat_lt i F.names) (nat_lt j F.names) h in (ltb-true i F.names both.0, ltb-true j F.names both.1)

  -- ---- the order of keys

  pub in_order_law : (s t u : Term) → IsClause F (said (Part.AtMost s t) false) (said (Part.AtMost t u) false) (said (Part.AtMost s u) true)
  in_order_law s t u = λ p is first second.
      let one = and_parts (term_fits F s) (term_fits F t) (fits_of p is (Part.AtMost s t) first) in
      let two = and_parts (term_fits F t) (term_fits F u) (fits_of p is (Part.AtMost t u) second) in
      told (p (Part.AtMost s t) && p (Part.AtMost t u)) (p (Part.AtMost s u)) (is.in_order s t u one.0 one.1 two.1) (and_from _ _ first second)

  pub total_law : (s t : Term) → part_fits F (Part.AtMost s t) ≡ true → Implies F (said (Part.AtMost s t) false) (said (Part.AtMost t s) true)
  total_law s t fits = λ p is first.
      let both = and_parts (term_fits F s) (term_fits F t) fits in
      or_second (p (Part.AtMost s t)) (p (Part.AtMost t s)) (is.total s t both.0 both.1) first

  -- ---- names of one node

  same_turned : (p : Picture) → IsPicture F p → (i j : ℕ) → p (Part.Same i j) ≡ true → p (Part.Same j i) ≡ true
  same_turned p is i j h =
      let names = names_of i j (fits_of p is (Part.Same i j) h) in
      told (p (Part.Same i j)) (p (Part.Same j i)) (is.symmetric i j names.0 names.1) h

  pub same_back_law : (i j : ℕ) (value : Bool) → Implies F (said (Part.Same i j) value) (said (Part.Same j i) value)
  same_back_law i j true = λ p is h. same_turned p is i j h
  same_back_law i j false = λ p is h. not_true (p (Part.Same j i)) (λ e. true≢false (sym (same_turned p is j i e) ∙ h))

  pub same_on_law : (i j k : ℕ) → IsClause F (said (Part.Same i j) false) (said (Part.Same j k) false) (said (Part.Same i k) true)
  same_on_law i j k = λ p is first second.
      let one = names_of i j (fits_of p is (Part.Same i j) first) in
      let two = names_of j k (fits_of p is (Part.Same j k) second) in
      told (p (Part.Same i j) && p (Part.Same j k)) (p (Part.Same i k)) (is.transitive i j k one.0 one.1 two.1) (and_from _ _ first second)

  pub alike_law : (part renamed : Part) (i j : ℕ) (value : Bool) → part_fits F part ≡ true → renamed ≡ rename_part (instead i j) part →
      IsClause F (said (Part.Same i j) false) (said part (not value)) (said renamed value)
  alike_law part renamed i j value fits renamed_is = λ p is first second.
      let names = names_of i j (fits_of p is (Part.Same i j) first) in
      ap p renamed_is
      ∙ alike (p (rename_part (instead i j) part)) (p part)
      (told (p (Part.Same i j)) (beq (p (rename_part (instead i j) part)) (p part)) (is.one_node i j part names.0 names.1 fits) first)
      ∙ second ∙ not_not value

  -- ---- names that are null

  pub bare_law : (i : ℕ) (part : Part) → speaks_of i part ≡ true → Implies F (said (Part.Null i) true) (said part false)
  bare_law i part speaks = λ p is h. not_true (p part) (λ e.
      true≢false (sym (told (p (Part.Null i) && p part) false (is.bare i part (ltb-true i F.names (fits_of p is (Part.Null i) h)) (fits_of p is part e) speaks) (and_from _ _ h e))))

  pub itself_law : (i : ℕ) → part_fits F (Part.Null i) ≡ true → Implies F (said (Part.Null i) false) (said (Part.Same i i) true)
  itself_law i fits = λ p is h. alike (p (Part.Same i i)) (not (p (Part.Null i))) (is.itself i (ltb-true i F.names fits)) ∙ ap not h

  -- ---- pointers

  place_of : (p : Picture) → IsPicture F p → (x : Place) (j : ℕ) → p (Part.Leads x j) ≡ true → (place_fits F x ≡ true) × (j < F.names)
  place_of p is x j h =
      let both = and_parts (place_fits F x) (nat_lt j F.names) (fits_of p is (Part.Leads x j) h) in
      (both.0, ltb-true j F.names both.1)

  pub one_target_law : (x : Place) (j k : ℕ) → IsClause F (said (Part.Leads x j) false) (said (Part.Leads x k) false) (said (Part.Same j k) true)
  one_target_law x j k = λ p is first second.
      let one = place_of p is x j first in
      let two = place_of p is x k second in
      told (p (Part.Leads x j) && p (Part.Leads x k)) (p (Part.Same j k)) (is.one_target x j k one.0 one.1 two.1) (and_from _ _ first second)

  led : (p : Picture) → IsPicture F p → (x : Place) (j : ℕ) → p (Part.Leads x j) ≡ true → (p (Part.PointerNull x) ≡ false) × (p (Part.Beyond x) ≡ false)
  led p is x j h =
      let at = place_of p is x j h in
      let both = and_parts (not (p (Part.PointerNull x) && p (Part.Beyond x))) (not (p (Part.Leads x j) && (p (Part.PointerNull x) || p (Part.Beyond x)))) (is.once x j at.0 at.1) in
      or_none (p (Part.PointerNull x)) (p (Part.Beyond x)) (not_both (p (Part.Leads x j)) (p (Part.PointerNull x) || p (Part.Beyond x)) both.1 h)

  pub led_not_null_law : (x : Place) (j : ℕ) → Implies F (said (Part.Leads x j) true) (said (Part.PointerNull x) false)
  led_not_null_law x j = λ p is h. (led p is x j h).0

  pub led_not_beyond_law : (x : Place) (j : ℕ) → Implies F (said (Part.Leads x j) true) (said (Part.Beyond x) false)
  led_not_beyond_law x j = λ p is h. (led p is x j h).1

  pub null_not_beyond_law : (x : Place) → Implies F (said (Part.PointerNull x) true) (said (Part.Beyond x) false)
  null_not_beyond_law x = λ p is h.
      let at = fits_of p is (Part.PointerNull x) h in
      let name = ltb-true x.name F.names (and_parts (nat_lt x.name F.names) (nat_lt x.pointer (length F.header.pointers)) at).0 in
      let both = and_parts (not (p (Part.PointerNull x) && p (Part.Beyond x))) (not (p (Part.Leads x x.name) && (p (Part.PointerNull x) || p (Part.Beyond x)))) (is.once x x.name at name) in
      not_both (p (Part.PointerNull x)) (p (Part.Beyond x)) both.0 h

  -- ---- pointers that lead outside

  places_of : (p : Picture) → IsPicture F p → (x y : Place) → p (Part.SameBeyond x y) ≡ true → (place_fits F x ≡ true) × (place_fits F y ≡ true)
  places_of p is x y h = and_parts (place_fits F x) (place_fits F y) (fits_of p is (Part.SameBeyond x y) h)

  beyond_turned : (p : Picture) → IsPicture F p → (x y : Place) → p (Part.SameBeyond x y) ≡ true → p (Part.SameBeyond y x) ≡ true
  beyond_turned p is x y h =
      let at = places_of p is x y h in
      told (p (Part.SameBeyond x y)) (p (Part.SameBeyond y x)) (is.beyond_back x y at.0 at.1) h

  pub beyond_back_law : (x y : Place) (value : Bool) → Implies F (said (Part.SameBeyond x y) value) (said (Part.SameBeyond y x) value)
  beyond_back_law x y true = λ p is h. beyond_turned p is x y h
  beyond_back_law x y false = λ p is h. not_true (p (Part.SameBeyond y x)) (λ e. true≢false (sym (beyond_turned p is y x e) ∙ h))

  pub beyond_on_law : (x y z : Place) → IsClause F (said (Part.SameBeyond x y) false) (said (Part.SameBeyond y z) false) (said (Part.SameBeyond x z) true)
  beyond_on_law x y z = λ p is first second.
      let one = places_of p is x y first in
      let two = places_of p is y z second in
      told (p (Part.SameBeyond x y) && p (Part.SameBeyond y z)) (p (Part.SameBeyond x z)) (is.beyond_on x y z one.0 one.1 two.1) (and_from _ _ first second)

  pub beyond_itself_law : (x : Place) (value : Bool) → part_fits F (Part.Beyond x) ≡ true → Implies F (said (Part.Beyond x) value) (said (Part.SameBeyond x x) value)
  beyond_itself_law x value fits = λ p is h. alike (p (Part.SameBeyond x x)) (p (Part.Beyond x)) (is.beyond x fits) ∙ h
