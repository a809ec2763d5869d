-- Places in the order of keys: at a term, just above it or just below it; and how a place lies to a walked key.
use Rattle.std.specs.Prelude.{◌≡◌, ℕ, Bool, true, false, not, ◌&&◌, ◌||◌, Option, Some}
use Rattle.std.proofs.Common.{refl, sym, ◌∙◌, ap, subst, inl, inr}
use Rattle.std.proofs.lemmas.Bool.{false≢true, and_parts, and_from, or_cases}
use Rattle.std.proofs.lemmas.Option.{same_Some, none-some}
use Rattle.plank_prog.specs.declared.headers.KeyOrder.{KeyOrder}
use Rattle.plank_pic.specs.declared.parts.KeyName.{KeyName}
use Rattle.plank_pic.specs.declared.parts.Term.{Term}
use Rattle.plank_pic.specs.declared.parts.Part.{Part}
use Rattle.plank_pic.specs.Frames.{Frame}
use Rattle.plank_pic.specs.Pictures.{Picture, is_below}
use Rattle.plank_pic.specs.Lawful.{term_fits, ◌⇒◌, keys_ordered, IsPossible}
use Rattle.plank_pic.specs.Keeps.{Placed, lies_between}
use Rattle.plank_goals.specs.declared.spots.Spot.{Spot}
use Rattle.plank_goals.specs.Spots.{room_between, room}
use Rattle.plank_goals.proofs.Basics.{from_not, implied, not_so}

-- ---- places

abbrev pub at_term : Picture → Term → Placed
at_term p t = record { at_most = λ s. p (Part.AtMost t s); at_least = λ s. p (Part.AtMost s t) }

abbrev pub just_above : Picture → Term → Placed
just_above p t = record { at_most = λ s. not (p (Part.AtMost s t)); at_least = λ s. p (Part.AtMost s t) }

abbrev pub just_below : Picture → Term → Placed
just_below p t = record { at_most = λ s. p (Part.AtMost t s); at_least = λ s. not (p (Part.AtMost t s)) }

-- the place has all terms on one side or on both, and lies to them as they lie to each other
pub record IsCut (F : Frame) (p : Picture) (at : Placed) : Type 0 where
  pub total : (t : Term) → term_fits F t ≡ true → (at.at_most t || at.at_least t) ≡ true
  pub up : (s t : Term) → term_fits F s ≡ true → term_fits F t ≡ true → ((at.at_most s && p (Part.AtMost s t)) ⇒ at.at_most t) ≡ true
  pub down : (s t : Term) → term_fits F s ≡ true → term_fits F t ≡ true → ((p (Part.AtMost s t) && at.at_least t) ⇒ at.at_least s) ≡ true
  pub through : (s t : Term) → term_fits F s ≡ true → term_fits F t ≡ true → ((at.at_least s && at.at_most t) ⇒ p (Part.AtMost s t)) ≡ true

either_not : (a : Bool) → (not a || a) ≡ true
either_not true = refl
either_not false = refl

or_not : (a : Bool) → (a || not a) ≡ true
or_not true = refl
or_not false = refl

above_up : (a b c : Bool) → ((b && c) ⇒ a) ≡ true → ((not a && b) ⇒ not c) ≡ true
above_up true b c r = refl
above_up false false c r = refl
above_up false true false r = refl
above_up false true true r = absurd (false≢true r)

above_through : (a b c d : Bool) → (b || d) ≡ true → ((d && a) ⇒ c) ≡ true → ((a && not c) ⇒ b) ≡ true
above_through false b c d t r = refl
above_through true b true d t r = refl
above_through true true false d t r = refl
above_through true false false true t r = absurd (false≢true r)
above_through true false false false t r = absurd (false≢true t)

below_down : (a b c : Bool) → ((a && b) ⇒ c) ≡ true → ((b && not c) ⇒ not a) ≡ true
below_down a false c r = refl
below_down a true true r = refl
below_down false true false r = refl
below_down true true false r = absurd (false≢true r)

below_through : (a b c d : Bool) → (b || d) ≡ true → ((c && d) ⇒ a) ≡ true → ((not a && c) ⇒ b) ≡ true
below_through true b c d t r = refl
below_through false b false d t r = refl
below_through false true true d t r = refl
below_through false false true true t r = absurd (false≢true r)
below_through false false true false t r = absurd (false≢true t)

-- ---- how a place lies to a walked key and to the ends

abbrev pub spot_most : Spot → Bool
spot_most Spot.AtMin = true
spot_most Spot.Lower = true
spot_most Spot.Equal = true
spot_most Spot.Higher = false
spot_most Spot.AtMax = false

abbrev pub spot_least : Spot → Bool
spot_least Spot.AtMin = false
spot_least Spot.Lower = false
spot_least Spot.Equal = true
spot_least Spot.Higher = true
spot_least Spot.AtMax = true

abbrev pub spot_min : Spot → Bool
spot_min Spot.AtMin = true
spot_min Spot.Lower = false
spot_min Spot.Equal = false
spot_min Spot.Higher = false
spot_min Spot.AtMax = false

abbrev pub spot_max : Spot → Bool
spot_max Spot.AtMin = false
spot_max Spot.Lower = false
spot_max Spot.Equal = false
spot_max Spot.Higher = false
spot_max Spot.AtMax = true

pub record LiesAt (k : KeyName) (at : Placed) (spot : Spot) : Type 0 where
  pub most : at.at_most (Term.Walked k) ≡ spot_most spot
  pub least : at.at_least (Term.Walked k) ≡ spot_least spot
  pub min : at.at_most Term.Min ≡ spot_min spot
  pub max : at.at_least Term.Max ≡ spot_max spot
  pub from_min : at.at_least Term.Min ≡ true
  pub to_max : at.at_most Term.Max ≡ true

-- the place of a spot, where the walked key lies between two terms
abbrev pub place_at : Picture → KeyName → Term → Term → Spot → Placed
place_at p k above below Spot.AtMin = at_term p Term.Min
place_at p k above below Spot.Lower = just_above p above
place_at p k above below Spot.Equal = at_term p (Term.Walked k)
place_at p k above below Spot.Higher = just_below p below
place_at p k above below Spot.AtMax = at_term p Term.Max

module _ (F : Frame) (p : Picture) (possible : IsPossible F p) where
  abbrev le : Term → Term → Bool
  le s t = p (Part.AtMost s t)

  abbrev Fits : Term → Type 0
  Fits t = term_fits F t ≡ true

  pub through_terms : (s t u : Term) → Fits s → Fits t → Fits u → le s t ≡ true → le t u ≡ true → le s u ≡ true
  through_terms s t u fs ft fu a b = implied (le s t && le t u) (le s u) (possible.picture.in_order s t u fs ft fu) (and_from (le s t) (le t u) a b)

  pub itself : (t : Term) → Fits t → le t t ≡ true
  itself t f = elim (or_cases (le t t) (le t t) (possible.picture.total t t f f)) [ inl e ↦ e | inr e ↦ e ]

  pub from_min : (t : Term) → Fits t → le Term.Min t ≡ true
  from_min t f = (and_parts (le Term.Min t) (le t Term.Max) (possible.ends t f)).0

  pub to_max : (t : Term) → Fits t → le t Term.Max ≡ true
  to_max t f = (and_parts (le Term.Min t) (le t Term.Max) (possible.ends t f)).1

  pub at_cut : (t : Term) → Fits t → IsCut F p (at_term p t)
  at_cut t f = record {
    total = λ s fs. possible.picture.total t s f fs;
    up = λ s u fs fu. possible.picture.in_order t s u f fs fu;
    down = λ s u fs fu. possible.picture.in_order s u t fs fu f;
    through = λ s u fs fu. possible.picture.in_order s t u fs f fu;
  }

  pub above_cut : (t : Term) → Fits t → IsCut F p (just_above p t)
  above_cut t f = record {
    total = λ s fs. either_not (le s t);
    up = λ s u fs fu. above_up (le s t) (le s u) (le u t) (possible.picture.in_order s u t fs fu f);
    down = λ s u fs fu. possible.picture.in_order s u t fs fu f;
    through = λ s u fs fu. above_through (le s t) (le s u) (le u t) (le u s) (possible.picture.total s u fs fu) (possible.picture.in_order u s t fu fs f);
  }

  pub below_cut : (t : Term) → Fits t → IsCut F p (just_below p t)
  below_cut t f = record {
    total = λ s fs. or_not (le t s);
    up = λ s u fs fu. possible.picture.in_order t s u f fs fu;
    down = λ s u fs fu. below_down (le t s) (le s u) (le t u) (possible.picture.in_order t s u f fs fu);
    through = λ s u fs fu. below_through (le t s) (le s u) (le t u) (le u s) (possible.picture.total s u fs fu) (possible.picture.in_order t u s f fu fs);
  }

  pub cut_at : (k : KeyName) (above below : Term) → Fits above → Fits below → (spot : Spot) → IsCut F p (place_at p k above below spot)
  cut_at k above below fa fb Spot.AtMin = at_cut Term.Min refl
  cut_at k above below fa fb Spot.Lower = above_cut above fa
  cut_at k above below fa fb Spot.Equal = at_cut (Term.Walked k) refl
  cut_at k above below fa fb Spot.Higher = below_cut below fb
  cut_at k above below fa fb Spot.AtMax = at_cut Term.Max refl

  -- ---- the walked key

  module _ (k : KeyName) where
    abbrev W : Term
    W = Term.Walked k

    pub min_below : is_below p Term.Min W ≡ true
    min_below = (and_parts (is_below p Term.Min W) (is_below p W Term.Max) (possible.ordinary k)).0

    pub below_max : is_below p W Term.Max ≡ true
    below_max = (and_parts (is_below p Term.Min W) (is_below p W Term.Max) (possible.ordinary k)).1

    pub not_min : le W Term.Min ≡ false
    not_min = from_not (le W Term.Min) (and_parts (le Term.Min W) (not (le W Term.Min)) min_below).1

    pub not_max : le Term.Max W ≡ false
    not_max = from_not (le Term.Max W) (and_parts (le W Term.Max) (not (le Term.Max W)) below_max).1

    pub ends_apart : le Term.Max Term.Min ≡ false
    ends_apart = not_so (le Term.Max Term.Min) (le W Term.Min) (λ e. through_terms W Term.Max Term.Min refl refl refl (to_max W refl) e) not_min

    pub lies_at : (above below : Term) → Fits above → Fits below → is_below p above W ≡ true → is_below p W below ≡ true → (spot : Spot) → LiesAt k (place_at p k above below spot) spot
    lies_at above below fa fb low high Spot.AtMin =
        record { most = from_min W refl; least = not_min; min = from_min Term.Min refl; max = ends_apart; from_min = from_min Term.Min refl; to_max = from_min Term.Max refl }
    lies_at above below fa fb low high Spot.Lower =
        let parts = and_parts (le above W) (not (le W above)) low in
        let not_at = from_not (le W above) parts.1 in
        let no_max = not_so (le Term.Max above) (le W above) (λ e. through_terms W Term.Max above refl refl fa (to_max W refl) e) not_at in
        record { most = parts.1; least = not_at; min = ap not (from_min above fa); max = no_max; from_min = from_min above fa; to_max = ap not no_max }
    lies_at above below fa fb low high Spot.Equal =
        record { most = itself W refl; least = itself W refl; min = not_min; max = not_max; from_min = from_min W refl; to_max = to_max W refl }
    lies_at above below fa fb low high Spot.Higher =
        let parts = and_parts (le W below) (not (le below W)) high in
        let not_at = from_not (le below W) parts.1 in
        let no_min = not_so (le below Term.Min) (le below W) (λ e. through_terms below Term.Min W fb refl refl e (from_min W refl)) not_at in
        record { most = not_at; least = parts.1; min = no_min; max = ap not (to_max below fb); from_min = ap not no_min; to_max = to_max below fb }
    lies_at above below fa fb low high Spot.AtMax =
        record { most = not_max; least = to_max W refl; min = ends_apart; max = itself Term.Max refl; from_min = from_min Term.Max refl; to_max = itself Term.Max refl }

    -- ---- between two names

    abbrev IsBetween : Placed → ℕ → ℕ → Type 0
    IsBetween at low high = (at.at_most (Term.Node low) ≡ false) × (at.at_least (Term.Node high) ≡ false)

    strictly : (low high : ℕ) → Fits (Term.Node low) → Fits (Term.Node high) → is_below p (Term.Node low) (Term.Node high) ≡ true → (spot : Spot) (r : Term × Term) → room_between low high spot ≡ Some r
        → is_below p r.0 W ≡ true → is_below p W r.1 ≡ true → IsBetween (place_at p k r.0 r.1 spot) low high
    strictly low high fl fh apart Spot.AtMin r e = absurd (none-some r e)
    strictly low high fl fh apart Spot.AtMax r e = absurd (none-some r e)
    strictly low high fl fh apart Spot.Lower r e =
        subst (λ (t : Term × Term). is_below p t.0 W ≡ true → is_below p W t.1 ≡ true → IsBetween (place_at p k t.0 t.1 Spot.Lower) low high) (same_Some (Term.Node low, Term.Max) r e)
        (λ a b. (ap not (itself (Term.Node low) fl), from_not (le (Term.Node high) (Term.Node low)) (and_parts (le (Term.Node low) (Term.Node high)) (not (le (Term.Node high) (Term.Node low))) apart).1))
    strictly low high fl fh apart Spot.Equal r e =
        subst (λ (t : Term × Term). is_below p t.0 W ≡ true → is_below p W t.1 ≡ true → IsBetween (place_at p k t.0 t.1 Spot.Equal) low high) (same_Some (Term.Node low, Term.Node high) r e)
        (λ a b. (from_not (le W (Term.Node low)) (and_parts (le (Term.Node low) W) (not (le W (Term.Node low))) a).1, from_not (le (Term.Node high) W) (and_parts (le W (Term.Node high)) (not (le (Term.Node high) W)) b).1))
    strictly low high fl fh apart Spot.Higher r e =
        subst (λ (t : Term × Term). is_below p t.0 W ≡ true → is_below p W t.1 ≡ true → IsBetween (place_at p k t.0 t.1 Spot.Higher) low high) (same_Some (Term.Min, Term.Node high) r e)
        (λ a b. (from_not (le (Term.Node high) (Term.Node low)) (and_parts (le (Term.Node low) (Term.Node high)) (not (le (Term.Node high) (Term.Node low))) apart).1, ap not (itself (Term.Node high) fh)))

    pub in_chain : (order : KeyOrder) (y q : ℕ) → Fits (Term.Node y) → Fits (Term.Node q) → keys_ordered order p (Term.Node y) (Term.Node q) ≡ true → (spot : Spot) (r : Term × Term) → room order spot y q ≡ Some r
        → is_below p r.0 W ≡ true → is_below p W r.1 ≡ true → lies_between order (place_at p k r.0 r.1 spot) y q ≡ true
    in_chain KeyOrder.Ascending y q fy fq apart spot r e a b =
        let w = strictly y q fy fq apart spot r e a b in and_from _ _ (ap not w.0) (ap not w.1)
    in_chain KeyOrder.Descending y q fy fq apart spot r e a b =
        let w = strictly q y fq fy apart spot r e a b in and_from _ _ (ap not w.1) (ap not w.0)
    in_chain KeyOrder.Free y q fy fq apart spot r e a b = refl

    -- ---- any place lies at some spot, and its room is there

    module _ (at : Placed) (cut : IsCut F p at) (ends : (at.at_least Term.Min && at.at_most Term.Max) ≡ true) where
      end_parts : (at.at_least Term.Min ≡ true) × (at.at_most Term.Max ≡ true)
      end_parts = and_parts (at.at_least Term.Min) (at.at_most Term.Max) ends

      above_min : at.at_least W ≡ true → at.at_most Term.Min ≡ false
      above_min l = not_so (at.at_most Term.Min) (le W Term.Min) (λ m. implied _ (le W Term.Min) (cut.through W Term.Min refl refl) (and_from (at.at_least W) (at.at_most Term.Min) l m)) not_min

      below_end : at.at_most W ≡ true → at.at_least Term.Max ≡ false
      below_end m = not_so (at.at_least Term.Max) (le Term.Max W) (λ l. implied _ (le Term.Max W) (cut.through Term.Max W refl refl) (and_from (at.at_least Term.Max) (at.at_most W) l m)) not_max

      spotted : (a b m x : Bool) → at.at_most W ≡ a → at.at_least W ≡ b → at.at_most Term.Min ≡ m → at.at_least Term.Max ≡ x → (spot : Spot) × LiesAt k at spot
      spotted true true m x ea eb em ex = (Spot.Equal, record { most = ea; least = eb; min = above_min eb; max = below_end ea; from_min = end_parts.0; to_max = end_parts.1 })
      spotted true false true x ea eb em ex = (Spot.AtMin, record { most = ea; least = eb; min = em; max = below_end ea; from_min = end_parts.0; to_max = end_parts.1 })
      spotted true false false x ea eb em ex = (Spot.Lower, record { most = ea; least = eb; min = em; max = below_end ea; from_min = end_parts.0; to_max = end_parts.1 })
      spotted false true m true ea eb em ex = (Spot.AtMax, record { most = ea; least = eb; min = above_min eb; max = ex; from_min = end_parts.0; to_max = end_parts.1 })
      spotted false true m false ea eb em ex = (Spot.Higher, record { most = ea; least = eb; min = above_min eb; max = ex; from_min = end_parts.0; to_max = end_parts.1 })
      spotted false false m x ea eb em ex =
          absurd (elim (or_cases (at.at_most W) (at.at_least W) (cut.total W refl)) [ inl e ↦ false≢true (sym ea ∙ e) | inr e ↦ false≢true (sym eb ∙ e) ])

      pub some_spot : (spot : Spot) × LiesAt k at spot
      some_spot = spotted (at.at_most W) (at.at_least W) (at.at_most Term.Min) (at.at_least Term.Max) refl refl refl refl

      -- the room of the place
      pub record HasRoom (room : Option (Term × Term)) : Type 0 where
        pub between : Term × Term
        pub is : room ≡ Some between
        pub above : is_below p between.0 W ≡ true
        pub below : is_below p W between.1 ≡ true

      other_side : (t : Term) → Fits t → at.at_most t ≡ false → at.at_least t ≡ true
      other_side t f m = elim (or_cases (at.at_most t) (at.at_least t) (cut.total t f)) [ inl e ↦ absurd (false≢true (sym m ∙ e)) | inr e ↦ e ]

      this_side : (t : Term) → Fits t → at.at_least t ≡ false → at.at_most t ≡ true
      this_side t f l = elim (or_cases (at.at_most t) (at.at_least t) (cut.total t f)) [ inl e ↦ e | inr e ↦ absurd (false≢true (sym l ∙ e)) ]

      -- s lies below t where the place lies between them
      passing : (s t : Term) → Fits s → Fits t → at.at_least s ≡ true → at.at_most t ≡ true → le s t ≡ true
      passing s t fs ft l m = implied _ (le s t) (cut.through s t fs ft) (and_from (at.at_least s) (at.at_most t) l m)

      not_up : (s t : Term) → Fits s → Fits t → at.at_most s ≡ true → at.at_most t ≡ false → not (le s t) ≡ true
      not_up s t fs ft m n = ap not (not_so (le s t) (at.at_most t) (λ e. implied _ (at.at_most t) (cut.up s t fs ft) (and_from (at.at_most s) (le s t) m e)) n)

      not_down : (s t : Term) → Fits s → Fits t → at.at_least t ≡ true → at.at_least s ≡ false → not (le s t) ≡ true
      not_down s t fs ft l n = ap not (not_so (le s t) (at.at_least s) (λ e. implied _ (at.at_least s) (cut.down s t fs ft) (and_from (le s t) (at.at_least t) e l)) n)

      module _ (low high : ℕ) (fl : Fits (Term.Node low)) (fh : Fits (Term.Node high)) (not_low : at.at_most (Term.Node low) ≡ false) (not_high : at.at_least (Term.Node high) ≡ false) where
        room_there : (spot : Spot) → LiesAt k at spot → HasRoom (room_between low high spot)
        room_there Spot.AtMin lies =
            absurd (false≢true (sym not_low ∙ implied _ (at.at_most (Term.Node low)) (cut.up Term.Min (Term.Node low) refl fl) (and_from _ (le Term.Min (Term.Node low)) lies.min (from_min (Term.Node low) fl))))
        room_there Spot.Lower lies = record {
          between = (Term.Node low, Term.Max);
          is = refl;
          above = and_from _ _ (passing (Term.Node low) W fl refl (other_side (Term.Node low) fl not_low) lies.most) (not_down W (Term.Node low) refl fl (other_side (Term.Node low) fl not_low) lies.least);
          below = below_max;
        }
        room_there Spot.Equal lies = record {
          between = (Term.Node low, Term.Node high);
          is = refl;
          above = and_from _ _ (passing (Term.Node low) W fl refl (other_side (Term.Node low) fl not_low) lies.most) (not_up W (Term.Node low) refl fl lies.most not_low);
          below = and_from _ _ (passing W (Term.Node high) refl fh lies.least (this_side (Term.Node high) fh not_high)) (not_down (Term.Node high) W fh refl lies.least not_high);
        }
        room_there Spot.Higher lies = record {
          between = (Term.Min, Term.Node high);
          is = refl;
          above = min_below;
          below = and_from _ _ (passing W (Term.Node high) refl fh lies.least (this_side (Term.Node high) fh not_high)) (not_up (Term.Node high) W fh refl (this_side (Term.Node high) fh not_high) lies.most);
        }
        room_there Spot.AtMax lies =
            absurd (false≢true (sym not_high ∙ implied _ (at.at_least (Term.Node high)) (cut.down (Term.Node high) Term.Max fh refl) (and_from (le (Term.Node high) Term.Max) _ (to_max (Term.Node high) fh) lies.max)))

      pub has_room : (order : KeyOrder) (y q : ℕ) → Fits (Term.Node y) → Fits (Term.Node q) → lies_between order at y q ≡ true → (spot : Spot) → LiesAt k at spot → HasRoom (room order spot y q)
      has_room KeyOrder.Ascending y q fy fq between spot lies =
          let w = and_parts (not (at.at_most (Term.Node y))) (not (at.at_least (Term.Node q))) between in
          room_there y q fy fq (from_not _ w.0) (from_not _ w.1) spot lies
      has_room KeyOrder.Descending y q fy fq between spot lies =
          let w = and_parts (not (at.at_least (Term.Node y))) (not (at.at_most (Term.Node q))) between in
          room_there q y fq fy (from_not _ w.1) (from_not _ w.0) spot lies
      has_room KeyOrder.Free y q fy fq between spot lies = record { between = (Term.Min, Term.Max); is = refl; above = min_below; below = below_max }
