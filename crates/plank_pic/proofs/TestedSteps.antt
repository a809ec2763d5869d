-- A step of pictures is one test a part of the picture after: both directions.
use Rattle.std.proofs.Common.{◌≡◌, ℕ, zero, suc, ◌<◌, ◌==◌, Bool, true, false, not, length, Option, Some, None, refl, sym, ◌∙◌, ap, subst, arith}
use Rattle.std.specs.Prelude.{◌&&◌, ◌||◌, if◌then◌else◌, nat_lt, is_some, unwrap_or}
use Rattle.std.specs.Bool.{beq}
use Rattle.std.specs.Option.{option_map_or}
use Rattle.std.proofs.lemmas.Bool.{true≢false, and_parts, and_from, or_right, cond-true, eq-eqb, eqb-true, lt-ltb, ltb-true, false_from_ne_true}
use Rattle.std.proofs.lemmas.Option.{none-some}
use Rattle.plank_pic.specs.declared.parts.KeyName.{KeyName}
use Rattle.plank_pic.specs.declared.parts.Term.{Term}
use Rattle.plank_pic.specs.declared.parts.Place.{Place}
use Rattle.plank_pic.specs.declared.parts.Part.{Part}
use Rattle.plank_pic.specs.Frames.{Frame}
use Rattle.plank_pic.specs.Below.{some_below, least_below}
use Rattle.plank_pic.specs.Pictures.{Picture, place}
use Rattle.plank_pic.specs.Renaming.{rename_part, instead}
use Rattle.plank_pic.specs.Lawful.{part_fits, place_fits, term_fits, slot_count, speaks_of, IsPicture, IsPossible}
use Rattle.plank_pic.specs.Steps.{Change, written, agrees_with, spent_after, IsWrite, Source, Of, Null, Fresh, of_name, of_both, term_of, moved_term, leads_after, beyond_after, meet_beyond, picks_after, renamed, IsRenaming, WritesOrNot, nothing, write, IsPictureStep}
use Rattle.plank_pic.specs.TestedSteps.{left_of, settled, left_of_name, left_of_both, left_of_pick, stepped, IsWritable, IsTestedStep, ComesFromNames}
use Rattle.plank_pic.proofs.Below.{least_some, least_none, some_below_alike}
use Rattle.plank_pic.proofs.EachName.{told, same_bits}

-- ---- tests

bits_same : (a b : Bool) → a ≡ b → beq a b ≡ true
bits_same true b e = subst (λ c. beq true c ≡ true) e refl
bits_same false b e = subst (λ c. beq false c ≡ true) e refl

-- a value agrees with what it fills
filled_agrees : (o : Option Bool) (x : Bool) → agrees_with o (unwrap_or o x) ≡ true
filled_agrees (Some b) x = bits_same b b refl
filled_agrees None x = refl

filled_is : (o : Option Bool) (a : Bool) → agrees_with o a ≡ true → unwrap_or o a ≡ a
filled_is (Some b) a e = sym (same_bits a b e)
filled_is None a e = refl

-- ---- parts that a write determines

abbrev is_settled : Part → Bool
is_settled (Part.Null i) = true
is_settled (Part.Same i j) = true
is_settled (Part.Flag i f) = true
is_settled (Part.Shared i) = true
is_settled (Part.Mine i) = true
is_settled (Part.Locked i) = true
is_settled (Part.LockMine i) = true
is_settled (Part.LockOthers i) = true
is_settled (Part.PointerNull x) = true
is_settled (Part.Beyond x) = true
is_settled (Part.Leads x j) = true
is_settled (Part.SameBeyond x y) = true
is_settled (Part.AtMost s t) = true
is_settled (Part.Visits k i) = false
is_settled (Part.InSet k) = false
is_settled Part.Spent = false
is_settled (Part.Chain i j) = false
is_settled (Part.Picks k i j s) = false
is_settled (Part.StopFlag k s f) = false
is_settled (Part.StopVisited k s) = false

-- what is left of such a part is a value
settled_so : (F : Frame) (B : Picture) (o : Option Change) (part : Part) → is_settled part ≡ true → left_of F B o part ≡ Some (settled F B o part)
settled_so F B None part e = refl
settled_so F B (Some c) (Part.Null i) e = refl
settled_so F B (Some c) (Part.Same i j) e = refl
settled_so F B (Some c) (Part.Flag i f) e = refl
settled_so F B (Some c) (Part.Shared i) e = refl
settled_so F B (Some c) (Part.Mine i) e = refl
settled_so F B (Some c) (Part.Locked i) e = refl
settled_so F B (Some c) (Part.LockMine i) e = refl
settled_so F B (Some c) (Part.LockOthers i) e = refl
settled_so F B (Some c) (Part.PointerNull x) e = refl
settled_so F B (Some c) (Part.Beyond x) e = refl
settled_so F B (Some c) (Part.Leads x j) e = refl
settled_so F B (Some c) (Part.SameBeyond x y) e = refl
settled_so F B (Some c) (Part.AtMost s t) e = refl
settled_so F B (Some c) (Part.Visits k i) e = absurd (true≢false (sym e))
settled_so F B (Some c) (Part.InSet k) e = absurd (true≢false (sym e))
settled_so F B (Some c) Part.Spent e = absurd (true≢false (sym e))
settled_so F B (Some c) (Part.Chain i j) e = absurd (true≢false (sym e))
settled_so F B (Some c) (Part.Picks k i j s) e = absurd (true≢false (sym e))
settled_so F B (Some c) (Part.StopFlag k s f) e = absurd (true≢false (sym e))
settled_so F B (Some c) (Part.StopVisited k s) e = absurd (true≢false (sym e))

-- ---- other names, from two pictures that agree on those parts

module _ (F : Frame) (from : ℕ → Source) (inside : ComesFromNames F from) (W V : Picture) (same : (part : Part) → part_fits F part ≡ true → is_settled part ≡ true → W part ≡ V part) where
  by_name : (test other : ℕ → Bool) (a b : Bool) (s : Source) → ((n : ℕ) → s ≡ Of n → test n ≡ other n) → of_name test a b s ≡ of_name other a b s
  by_name test other a b (Of n) h = h n refl
  by_name test other a b Null h = refl
  by_name test other a b Fresh h = refl

  by_both : (test other : ℕ → ℕ → Bool) (a : Bool) (s t : Source) → ((n m : ℕ) → s ≡ Of n → t ≡ Of m → test n m ≡ other n m) → of_both test a s t ≡ of_both other a s t
  by_both test other a (Of n) (Of m) h = h n m refl refl
  by_both test other a (Of n) Null h = refl
  by_both test other a (Of n) Fresh h = refl
  by_both test other a Null (Of m) h = refl
  by_both test other a Null Null h = refl
  by_both test other a Null Fresh h = refl
  by_both test other a Fresh (Of m) h = refl
  by_both test other a Fresh Null h = refl
  by_both test other a Fresh Fresh h = refl

  -- the name that is read is there
  there : (i n : ℕ) → nat_lt i F.names ≡ true → from i ≡ Of n → nat_lt n F.names ≡ true
  there i n fits e = lt-ltb n F.names (inside i n (ltb-true i F.names fits) e)

  place_there : (x : Place) (n : ℕ) → place_fits F x ≡ true → from x.name ≡ Of n → place_fits F (place n x.pointer) ≡ true
  place_there x n fits e = let w = and_parts _ _ fits in and_from _ _ (there x.name n w.0 e) w.1

  leads_alike : (x : Place) (j : ℕ) → place_fits F x ≡ true → nat_lt j F.names ≡ true → leads_after F from W x j ≡ leads_after F from V x j
  leads_alike x j fx fj = by_both _ _ false (from x.name) (from j) (λ n m en em. same (Part.Leads (place n x.pointer) m) (and_from _ _ (place_there x n fx en) (there j m fj em)) refl)

  beyond_alike : (x : Place) → place_fits F x ≡ true → beyond_after F from W x ≡ beyond_after F from V x
  beyond_alike x fx =
      ap (λ b. b && not (some_below (leads_after F from W x) F.names))
      (by_name _ _ false false (from x.name) (λ n e. ap (λ b. not b && not (W (Part.PointerNull (place n x.pointer)))) (same (Part.Null n) (and_parts _ _ (place_there x n fx e)).0 refl)
      ∙ ap (λ b. not (V (Part.Null n)) && not b) (same (Part.PointerNull (place n x.pointer)) (place_there x n fx e) refl)))
      ∙ ap (λ b. of_name (λ n. not (V (Part.Null n)) && not (V (Part.PointerNull (place n x.pointer)))) false false (from x.name) && not b)
      (some_below_alike (leads_after F from W x) (leads_after F from V x) F.names (λ j bj. leads_alike x j fx (lt-ltb j F.names bj)))

  meet_alike : (x y : Place) → place_fits F x ≡ true → place_fits F y ≡ true → meet_beyond F W x y ≡ meet_beyond F V x y
  meet_alike x y fx fy =
      ap (λ b. b || some_below (λ m. W (Part.Leads x m) && W (Part.Leads y m)) F.names) (same (Part.SameBeyond x y) (and_from _ _ fx fy) refl)
      ∙ ap (λ b. V (Part.SameBeyond x y) || b)
      (some_below_alike (λ m. W (Part.Leads x m) && W (Part.Leads y m)) (λ m. V (Part.Leads x m) && V (Part.Leads y m)) F.names (λ m bm.
      ap (λ b. b && W (Part.Leads y m)) (same (Part.Leads x m) (and_from _ _ fx (lt-ltb m F.names bm)) refl)
      ∙ ap (λ b. V (Part.Leads x m) && b) (same (Part.Leads y m) (and_from _ _ fy (lt-ltb m F.names bm)) refl)))

  term_there : (t : Term) → term_fits F t ≡ true → term_fits F (moved_term from t) ≡ true
  term_there (Term.Node i) fits = by_source (from i) refl
    where
      by_source : (s : Source) → from i ≡ s → term_fits F (term_of s) ≡ true
      by_source (Of n) e = there i n fits e
      by_source Null e = refl
      by_source Fresh e = refl
  term_there Term.Min fits = refl
  term_there Term.Max fits = refl
  term_there (Term.Walked k) fits = refl
  term_there (Term.Stop k s) fits = fits

  renamed_alike : (part : Part) → part_fits F part ≡ true → is_settled part ≡ true → renamed F from W part ≡ renamed F from V part
  renamed_alike (Part.Null i) fits e = ap Some (by_name _ _ true false (from i) (λ n s. same (Part.Null n) (there i n fits s) refl))
  renamed_alike (Part.Same i j) fits e = let w = and_parts _ _ fits in ap Some (by_both _ _ true (from i) (from j) (λ n m s t. same (Part.Same n m) (and_from _ _ (there i n w.0 s) (there j m w.1 t)) refl))
  renamed_alike (Part.Flag i f) fits e = let w = and_parts _ _ fits in ap Some (by_name _ _ false false (from i) (λ n s. same (Part.Flag n f) (and_from _ _ (there i n w.0 s) w.1) refl))
  renamed_alike (Part.Shared i) fits e = ap Some (by_name _ _ false false (from i) (λ n s. same (Part.Shared n) (there i n fits s) refl))
  renamed_alike (Part.Mine i) fits e = ap Some (by_name _ _ false true (from i) (λ n s. same (Part.Mine n) (there i n fits s) refl))
  renamed_alike (Part.Locked i) fits e = let w = and_parts _ _ fits in ap Some (by_name _ _ false false (from i) (λ n s. same (Part.Locked n) (and_from _ _ (there i n w.0 s) w.1) refl))
  renamed_alike (Part.LockMine i) fits e = let w = and_parts _ _ fits in ap Some (by_name _ _ false false (from i) (λ n s. same (Part.LockMine n) (and_from _ _ (there i n w.0 s) w.1) refl))
  renamed_alike (Part.LockOthers i) fits e = let w = and_parts _ _ fits in ap Some (by_name _ _ false false (from i) (λ n s. same (Part.LockOthers n) (and_from _ _ (there i n w.0 s) w.1) refl))
  renamed_alike (Part.PointerNull x) fits e = ap Some (by_name _ _ false true (from x.name) (λ n s. same (Part.PointerNull (place n x.pointer)) (place_there x n fits s) refl))
  renamed_alike (Part.Leads x j) fits e = let w = and_parts _ _ fits in ap Some (leads_alike x j w.0 w.1)
  renamed_alike (Part.Beyond x) fits e = ap Some (beyond_alike x fits)
  renamed_alike (Part.SameBeyond x y) fits e =
      let w = and_parts _ _ fits in
      ap Some (ap (λ b. b && beyond_after F from W y && of_both (λ n m. meet_beyond F W (place n x.pointer) (place m y.pointer)) false (from x.name) (from y.name)) (beyond_alike x w.0)
      ∙ ap (λ b. beyond_after F from V x && b && of_both (λ n m. meet_beyond F W (place n x.pointer) (place m y.pointer)) false (from x.name) (from y.name)) (beyond_alike y w.1)
      ∙ ap (λ b. beyond_after F from V x && beyond_after F from V y && b) (by_both _ _ false (from x.name) (from y.name) (λ n m s t. meet_alike (place n x.pointer) (place m y.pointer) (place_there x n w.0 s) (place_there y m w.1 t))))
  renamed_alike (Part.AtMost s t) fits e =
      let w = and_parts _ _ fits in
      ap Some (same (Part.AtMost (moved_term from s) (moved_term from t)) (and_from _ _ (term_there s w.0) (term_there t w.1)) refl)
  renamed_alike (Part.Visits k i) fits e = absurd (true≢false (sym e))
  renamed_alike (Part.InSet k) fits e = absurd (true≢false (sym e))
  renamed_alike Part.Spent fits e = absurd (true≢false (sym e))
  renamed_alike (Part.Chain i j) fits e = absurd (true≢false (sym e))
  renamed_alike (Part.Picks k i j s) fits e = absurd (true≢false (sym e))
  renamed_alike (Part.StopFlag k s f) fits e = absurd (true≢false (sym e))
  renamed_alike (Part.StopVisited k s) fits e = absurd (true≢false (sym e))

  -- stop nodes are there where there is one pointer field
  first_there : (i n s : ℕ) → nat_lt i F.names ≡ true → nat_lt s (slot_count F) ≡ true → from i ≡ Of n → place_fits F (place n 0) ≡ true
  first_there i n s fi fs e = and_from _ _ (there i n fi e) (lt-ltb 0 (length F.header.pointers) (one_pointer s (ltb-true s (slot_count F) fs)))
    where
      one_pointer : (s : ℕ) → s < slot_count F → 0 < length F.header.pointers
      one_pointer s less = by_count (length F.header.pointers == 1) refl
        where
          by_count : (b : Bool) → (length F.header.pointers == 1) ≡ b → 0 < length F.header.pointers
          by_count true e = let one = eqb-true (length F.header.pointers) 1 e in omega arith
          by_count false e = absurd (none_less s (subst (λ m. s < m) (no_slots e) less))
            where
              none_less : (s : ℕ) → s < 0 → ⊥
              none_less s h = omega arith

              no_slots : (length F.header.pointers == 1) ≡ false → slot_count F ≡ 0
              no_slots e = ap (λ b. (let slots : ℕ = if is_some F.header.freeze && b then 2 else 0 in slots)) e ∙ no_freeze (is_some F.header.freeze)
                where
                  no_freeze : (b : Bool) → (let slots : ℕ = if b && false then 2 else 0 in slots ≡ 0)
                  no_freeze true = refl
                  no_freeze false = refl

-- ---- from a step to its tests

module _ (F : Frame) (o : Option Change) (from : ℕ → Source) (inside : ComesFromNames F from) (B W A : Picture) (writes : WritesOrNot F o B W) (names : IsRenaming F from W A) (possible : IsPossible F A) where
  -- the picture between agrees with what is left
  as_left : (part : Part) → part_fits F part ≡ true → agrees_with (left_of F B o part) (W part) ≡ true
  as_left part fits = by_write o B W writes
    where
      by_write : (o : Option Change) (B W : Picture) → WritesOrNot F o B W → agrees_with (left_of F B o part) (W part) ≡ true
      by_write o B W nothing = bits_same (B part) (B part) refl
      by_write o B W (write is) = is.parts part fits

  same_there : (part : Part) → part_fits F part ≡ true → is_settled part ≡ true → W part ≡ settled F B o part
  same_there part fits e = same_bits (W part) (settled F B o part) (subst (λ l. agrees_with l (W part) ≡ true) (settled_so F B o part e) (as_left part fits))

  by_settled : (part : Part) → part_fits F part ≡ true → is_settled part ≡ true → agrees_with (renamed F from (settled F B o) part) (A part) ≡ true
  by_settled part fits e = subst (λ r. agrees_with r (A part) ≡ true) (renamed_alike F from inside W (settled F B o) same_there part fits e) (names.parts part fits)

  part_tested : (part : Part) → part_fits F part ≡ true → agrees_with (stepped F o from B part) (A part) ≡ true
  part_tested (Part.Null i) fits = by_settled (Part.Null i) fits refl
  part_tested (Part.Same i j) fits = by_settled (Part.Same i j) fits refl
  part_tested (Part.Flag i f) fits = by_settled (Part.Flag i f) fits refl
  part_tested (Part.Shared i) fits = by_settled (Part.Shared i) fits refl
  part_tested (Part.Mine i) fits = by_settled (Part.Mine i) fits refl
  part_tested (Part.Locked i) fits = by_settled (Part.Locked i) fits refl
  part_tested (Part.LockMine i) fits = by_settled (Part.LockMine i) fits refl
  part_tested (Part.LockOthers i) fits = by_settled (Part.LockOthers i) fits refl
  part_tested (Part.PointerNull x) fits = by_settled (Part.PointerNull x) fits refl
  part_tested (Part.Beyond x) fits = by_settled (Part.Beyond x) fits refl
  part_tested (Part.Leads x j) fits = by_settled (Part.Leads x j) fits refl
  part_tested (Part.SameBeyond x y) fits = by_settled (Part.SameBeyond x y) fits refl
  part_tested (Part.AtMost s t) fits = by_settled (Part.AtMost s t) fits refl
  part_tested (Part.Visits k i) fits = by_source (from i) refl (names.parts (Part.Visits k i) fits)
    where
      by_source : (s : Source) → from i ≡ s → beq (A (Part.Visits k i)) (of_name (λ n. W (Part.Visits k n)) false false s) ≡ true → agrees_with (left_of_name (λ n. left_of F B o (Part.Visits k n)) s) (A (Part.Visits k i)) ≡ true
      by_source (Of n) e is = subst (λ b. agrees_with (left_of F B o (Part.Visits k n)) b ≡ true) (sym (same_bits (A (Part.Visits k i)) (W (Part.Visits k n)) is)) (as_left (Part.Visits k n) (there F from inside W W (λ part fits e. refl) i n fits e))
      by_source Null e is = is
      by_source Fresh e is = is
  part_tested (Part.InSet k) fits = subst (λ b. agrees_with (left_of F B o (Part.InSet k)) b ≡ true) (sym (same_bits (A (Part.InSet k)) (W (Part.InSet k)) (names.parts (Part.InSet k) fits))) (as_left (Part.InSet k) fits)
  part_tested Part.Spent fits = refl
  part_tested (Part.Chain i j) fits = by_sources (from i) (from j) refl refl (names.parts (Part.Chain i j) fits)
    where
      by_sources : (s t : Source) → from i ≡ s → from j ≡ t → beq (A (Part.Chain i j)) (of_both (λ n m. W (Part.Chain n m)) true s t) ≡ true → agrees_with (left_of_both (λ n m. left_of F B o (Part.Chain n m)) s t) (A (Part.Chain i j)) ≡ true
      by_sources (Of n) (Of m) e d is =
          let w = and_parts _ _ fits in
          subst (λ b. agrees_with (left_of F B o (Part.Chain n m)) b ≡ true) (sym (same_bits (A (Part.Chain i j)) (W (Part.Chain n m)) is)) (as_left (Part.Chain n m) (and_from _ _ (there F from inside W W (λ part fits e. refl) i n w.0 e) (there F from inside W W (λ part fits e. refl) j m w.1 d)))
      by_sources (Of n) Null e d is = is
      by_sources (Of n) Fresh e d is = is
      by_sources Null (Of m) e d is = is
      by_sources Null Null e d is = is
      by_sources Null Fresh e d is = is
      by_sources Fresh (Of m) e d is = is
      by_sources Fresh Null e d is = is
      by_sources Fresh Fresh e d is = is
  part_tested (Part.Picks k i j s) fits = by_sources (from i) (from j) refl refl (names.parts (Part.Picks k i j s) fits)
    where
      by_sources : (r t : Source) → from i ≡ r → from j ≡ t → agrees_with (picks_after W k s r t) (A (Part.Picks k i j s)) ≡ true → agrees_with (left_of_pick (settled F B o) (λ n m. left_of F B o (Part.Picks k n m s)) r t) (A (Part.Picks k i j s)) ≡ true
      by_sources (Of n) (Of m) e d is =
          let w = and_parts _ _ fits in
          let v = and_parts _ _ w.0 in
          by_beyond (W (Part.Beyond (place n 0))) (same_there (Part.Beyond (place n 0)) (first_there F from inside W W (λ part fits e. refl) i n s v.0 w.1 e) refl)
          (as_left (Part.Picks k n m s) (and_from _ _ (and_from _ _ (there F from inside W W (λ part fits e. refl) i n v.0 e) (there F from inside W W (λ part fits e. refl) j m v.1 d)) w.1)) is
        where
          by_beyond : (b : Bool) → b ≡ settled F B o (Part.Beyond (place n 0)) → agrees_with (left_of F B o (Part.Picks k n m s)) (W (Part.Picks k n m s)) ≡ true
              → agrees_with (if b then Some (W (Part.Picks k n m s)) else None) (A (Part.Picks k i j s)) ≡ true
              → agrees_with (if settled F B o (Part.Beyond (place n 0)) then left_of F B o (Part.Picks k n m s) else None) (A (Part.Picks k i j s)) ≡ true
          by_beyond true e left is =
              subst (λ b. agrees_with (if b then left_of F B o (Part.Picks k n m s) else None) (A (Part.Picks k i j s)) ≡ true) e
              (subst (λ b. agrees_with (left_of F B o (Part.Picks k n m s)) b ≡ true) (sym (same_bits (A (Part.Picks k i j s)) (W (Part.Picks k n m s)) is)) left)
          by_beyond false e left is = subst (λ b. agrees_with (if b then left_of F B o (Part.Picks k n m s) else None) (A (Part.Picks k i j s)) ≡ true) e refl
      by_sources (Of n) Null e d is = is
      by_sources (Of n) Fresh e d is = is
      by_sources Null (Of m) e d is = is
      by_sources Null Null e d is = is
      by_sources Null Fresh e d is = is
      by_sources Fresh (Of m) e d is = is
      by_sources Fresh Null e d is = is
      by_sources Fresh Fresh e d is = is
  part_tested (Part.StopFlag k s f) fits = subst (λ b. agrees_with (left_of F B o (Part.StopFlag k s f)) b ≡ true) (sym (same_bits (A (Part.StopFlag k s f)) (W (Part.StopFlag k s f)) (names.parts (Part.StopFlag k s f) fits))) (as_left (Part.StopFlag k s f) fits)
  part_tested (Part.StopVisited k s) fits = subst (λ b. agrees_with (left_of F B o (Part.StopVisited k s)) b ≡ true) (sym (same_bits (A (Part.StopVisited k s)) (W (Part.StopVisited k s)) (names.parts (Part.StopVisited k s) fits))) (as_left (Part.StopVisited k s) fits)

  is_writable : IsWritable o B A
  is_writable = by_write o B W writes (sym (same_bits (A Part.Spent) (W Part.Spent) (names.parts Part.Spent refl))) (sym (same_bits (A (Part.InSet KeyName.Own)) (W (Part.InSet KeyName.Own)) (names.parts (Part.InSet KeyName.Own) refl)))
    where
      by_write : (o : Option Change) (B W : Picture) → WritesOrNot F o B W → W Part.Spent ≡ A Part.Spent → W (Part.InSet KeyName.Own) ≡ A (Part.InSet KeyName.Own) → IsWritable o B A
      by_write o B W nothing spent set = sym spent
      by_write o B W (write {c = c} is) spent set = (is.at, sym spent ∙ is.spent ∙ ap (λ b. B Part.Spent || (c.own && not (beq (B (Part.InSet KeyName.Own)) b))) set)

  pub step_tested : IsTestedStep F o from B A
  step_tested = record { writable = is_writable; parts = part_tested; possible = possible }

-- ---- from its tests to a step

first_named : (a b : ℕ) → ((a == a) || (b == a)) ≡ true
first_named a b = ap (λ c. c || (b == a)) (eq-eqb a a refl)

second_named : (a b : ℕ) → ((a == b) || (b == b)) ≡ true
second_named a b = or_right (a == b) (b == b) (eq-eqb b b refl)

-- a part of the picture between: what is left of it, or, where it is free, what a name after says that comes from there
abbrev comes_from : Source → ℕ → Bool
comes_from (Of m) n = m == n
comes_from Null n = false
comes_from Fresh n = false

abbrev has_source : (ℕ → Source) → ℕ → ℕ → Bool
has_source from n i = comes_from (from i) n

abbrev taken : Frame → (ℕ → Source) → (ℕ → Bool) → ℕ → Bool
taken F from test n = option_map_or test (least_below (has_source from n) F.names) false

source_is : (s : Source) (n : ℕ) → comes_from s n ≡ true → s ≡ Of n
source_is (Of m) n e = ap Of (eqb-true m n e)
source_is Null n e = absurd (true≢false (sym e))
source_is Fresh n e = absurd (true≢false (sym e))

-- what is taken is what each name that comes from there says
taken_is : (F : Frame) (from : ℕ → Source) (test : ℕ → Bool) (i n : ℕ) → i < F.names → from i ≡ Of n → (v : Bool) → ((a : ℕ) → a < F.names → from a ≡ Of n → test a ≡ v) → taken F from test n ≡ v
taken_is F from test i n bi ei v each = by_least (least_below (has_source from n) F.names) refl
  where
    by_least : (l : Option ℕ) → least_below (has_source from n) F.names ≡ l → option_map_or test l false ≡ v
    by_least (Some a) e = let w = least_some (has_source from n) F.names a e in each a w.0 (source_is (from a) n w.1)
    by_least None e = absurd (true≢false (sym (ap (λ s. comes_from s n) ei ∙ eq-eqb n n refl) ∙ least_none (has_source from n) F.names e i bi))

abbrev drawn_free : Frame → (ℕ → Source) → Picture → Part → Bool
drawn_free F from A (Part.Null i) = false
drawn_free F from A (Part.Same i j) = false
drawn_free F from A (Part.Flag i f) = false
drawn_free F from A (Part.Shared i) = false
drawn_free F from A (Part.Mine i) = false
drawn_free F from A (Part.Locked i) = false
drawn_free F from A (Part.LockMine i) = false
drawn_free F from A (Part.LockOthers i) = false
drawn_free F from A (Part.PointerNull x) = false
drawn_free F from A (Part.Beyond x) = false
drawn_free F from A (Part.Leads x j) = false
drawn_free F from A (Part.SameBeyond x y) = false
drawn_free F from A (Part.AtMost s t) = false
drawn_free F from A (Part.Visits k n) = taken F from (λ i. A (Part.Visits k i)) n
drawn_free F from A (Part.InSet k) = A (Part.InSet k)
drawn_free F from A Part.Spent = A Part.Spent
drawn_free F from A (Part.Chain n m) = taken F from (λ i. taken F from (λ j. A (Part.Chain i j)) m) n
drawn_free F from A (Part.Picks k n m s) = taken F from (λ i. taken F from (λ j. A (Part.Picks k i j s)) m) n
drawn_free F from A (Part.StopFlag k s f) = A (Part.StopFlag k s f)
drawn_free F from A (Part.StopVisited k s) = A (Part.StopVisited k s)

abbrev drawn : Frame → Option Change → (ℕ → Source) → Picture → Picture → Picture
drawn F o from B A part = unwrap_or (left_of F B o part) (drawn_free F from A part)

module _ (F : Frame) (o : Option Change) (from : ℕ → Source) (inside : ComesFromNames F from) (B A : Picture) (tested : IsTestedStep F o from B A) where
  abbrev W : Picture
  W = drawn F o from B A

  drawn_settled : (part : Part) → part_fits F part ≡ true → is_settled part ≡ true → W part ≡ settled F B o part
  drawn_settled part fits e = ap (λ l. unwrap_or l (drawn_free F from A part)) (settled_so F B o part e)

  by_settled_back : (part : Part) → part_fits F part ≡ true → is_settled part ≡ true → agrees_with (renamed F from (settled F B o) part) (A part) ≡ true → agrees_with (renamed F from W part) (A part) ≡ true
  by_settled_back part fits e is = subst (λ r. agrees_with r (A part) ≡ true) (sym (renamed_alike F from inside W (settled F B o) drawn_settled part fits e)) is

  is_picture : IsPicture F A
  is_picture = tested.possible.picture

  -- ---- two names that come from one name say the same

  same_of : (s t : Source) (n : ℕ) → s ≡ Of n → t ≡ Of n → of_both (λ n m. settled F B o (Part.Same n m)) true s t ≡ settled F B o (Part.Same n n)
  same_of s t n e d = ap (λ r. of_both (λ n m. settled F B o (Part.Same n m)) true r t) e ∙ ap (λ r. of_both (λ n m. settled F B o (Part.Same n m)) true (Of n) r) d

  module _ (i j n : ℕ) (bi : i < F.names) (bj : j < F.names) (ei : from i ≡ Of n) (ej : from j ≡ Of n) where
    says_same : (a b : ℕ) → a < F.names → b < F.names → from a ≡ Of n → from b ≡ Of n → A (Part.Same a b) ≡ settled F B o (Part.Same n n)
    says_same a b la lb ea eb =
        same_bits (A (Part.Same a b)) (of_both (λ n m. settled F B o (Part.Same n m)) true (from a) (from b)) (tested.parts (Part.Same a b) (and_from _ _ (lt-ltb a F.names la) (lt-ltb b F.names lb)))
        ∙ same_of (from a) (from b) n ea eb

    -- a node, or both null
    by_null : (P : Type 0) → (A (Part.Same i j) ≡ true → P) → (A (Part.Null i) ≡ true → A (Part.Null j) ≡ true → P) → P
    by_null P node null = by_bit (A (Part.Same i j)) refl
      where
        is_null : (a : ℕ) → a < F.names → A (Part.Same a a) ≡ false → A (Part.Null a) ≡ true
        is_null a la e = not_not (A (Part.Null a)) (sym (same_bits (A (Part.Same a a)) (not (A (Part.Null a))) (is_picture.itself a la)) ∙ e)
          where
            not_not : (b : Bool) → (not b) ≡ false → b ≡ true
            not_not true e = refl
            not_not false e = absurd (true≢false e)

        by_bit : (b : Bool) → A (Part.Same i j) ≡ b → P
        by_bit true e = node e
        by_bit false e =
            let n_is = sym (says_same i j bi bj ei ej) ∙ e in
            null (is_null i bi (says_same i i bi bi ei ei ∙ n_is)) (is_null j bj (says_same j j bj bj ej ej ∙ n_is))

  bare_there : (i : ℕ) (part : Part) → i < F.names → part_fits F part ≡ true → speaks_of i part ≡ true → A (Part.Null i) ≡ true → A part ≡ false
  bare_there i part bi fits speaks null = false_from_ne_true (A part) (λ e. true≢false (sym (told _ _ (is_picture.bare i part bi fits speaks) (and_from _ _ null e))))

  instead_it : (i j : ℕ) → instead i j j ≡ i
  instead_it i j = cond-true (j == j) i j (eq-eqb j j refl)

  instead_self : (i j : ℕ) → instead i j i ≡ i
  instead_self i j = by_test (i == j)
    where
      by_test : (b : Bool) → (if b then i else i) ≡ i
      by_test true = refl
      by_test false = refl

  visits_as : (k : KeyName) (i j n : ℕ) → i < F.names → j < F.names → from i ≡ Of n → from j ≡ Of n → A (Part.Visits k i) ≡ A (Part.Visits k j)
  visits_as k i j n bi bj ei ej = by_null i j n bi bj ei ej (A (Part.Visits k i) ≡ A (Part.Visits k j))
      (λ same. ap (λ m. A (Part.Visits k m)) (sym (instead_it i j)) ∙ same_bits _ _ (told _ _ (is_picture.one_node i j (Part.Visits k j) bi bj (lt-ltb j F.names bj)) same))
      (λ ni nj. bare_there i (Part.Visits k i) bi (lt-ltb i F.names bi) (eq-eqb i i refl) ni ∙ sym (bare_there j (Part.Visits k j) bj (lt-ltb j F.names bj) (eq-eqb j j refl) nj))

  -- a part of two names: the first, and then the second
  module _ (part : ℕ → ℕ → Part) (fits : (i j : ℕ) → i < F.names → j < F.names → part_fits F (part i j) ≡ true)
      (names_of : (r : ℕ → ℕ) (i j : ℕ) → rename_part r (part i j) ≡ part (r i) (r j))
      (first_of : (i j : ℕ) → speaks_of i (part i j) ≡ true) (second_of : (i j : ℕ) → speaks_of j (part i j) ≡ true) where
    told_as : (i j a b : ℕ) → i < F.names → j < F.names → a < F.names → b < F.names → A (Part.Same i j) ≡ true → A (part (instead i j a) (instead i j b)) ≡ A (part a b)
    told_as i j a b bi bj ba bb same =
        ap A (sym (names_of (instead i j) a b)) ∙ same_bits _ _ (told _ _ (is_picture.one_node i j (part a b) bi bj (fits a b ba bb)) same)

    first_as : (i j m n : ℕ) → i < F.names → j < F.names → m < F.names → from i ≡ Of n → from j ≡ Of n → A (part i m) ≡ A (part j m)
    first_as i j m n bi bj bm ei ej = by_null i j n bi bj ei ej (A (part i m) ≡ A (part j m))
        (λ same.
        sym (told_as i j i m bi bj bi bm same) ∙ ap (λ a. A (part a (instead i j m))) (instead_self i j ∙ sym (instead_it i j)) ∙ told_as i j j m bi bj bj bm same)
        (λ ni nj. bare_there i (part i m) bi (fits i m bi bm) (first_of i m) ni ∙ sym (bare_there j (part j m) bj (fits j m bj bm) (first_of j m) nj))

    second_as : (i j m n : ℕ) → i < F.names → j < F.names → m < F.names → from i ≡ Of n → from j ≡ Of n → A (part m i) ≡ A (part m j)
    second_as i j m n bi bj bm ei ej = by_null i j n bi bj ei ej (A (part m i) ≡ A (part m j))
        (λ same.
        sym (told_as i j m i bi bj bm bi same) ∙ ap (λ a. A (part (instead i j m) a)) (instead_self i j ∙ sym (instead_it i j)) ∙ told_as i j m j bi bj bm bj same)
        (λ ni nj. bare_there i (part m i) bi (fits m i bm bi) (second_of m i) ni ∙ sym (bare_there j (part m j) bj (fits m j bm bj) (second_of m j) nj))

    pair_taken : (i j n m : ℕ) → i < F.names → j < F.names → from i ≡ Of n → from j ≡ Of m → taken F from (λ a. taken F from (λ b. A (part a b)) m) n ≡ A (part i j)
    pair_taken i j n m bi bj ei ej = taken_is F from (λ a. taken F from (λ b. A (part a b)) m) i n bi ei (A (part i j)) (λ a la ea.
        taken_is F from (λ b. A (part a b)) j m bj ej (A (part i j)) (λ b lb eb. first_as a i b n la bi lb ea ei ∙ second_as b j i m lb bj bi eb ej))

  -- what is drawn of a free part that has no name says what the part after says
  filled_as : (part : Part) (x : Bool) → x ≡ A part → agrees_with (left_of F B o part) (A part) ≡ true → beq (A part) (unwrap_or (left_of F B o part) x) ≡ true
  filled_as part x e is = bits_same _ _ (sym (ap (unwrap_or (left_of F B o part)) e ∙ filled_is (left_of F B o part) (A part) is))

  -- the same of a part before that a part after comes from
  filled_from : (part after : Part) (x : Bool) → x ≡ A after → agrees_with (left_of F B o part) (A after) ≡ true → unwrap_or (left_of F B o part) x ≡ A after
  filled_from part after x e is = ap (unwrap_or (left_of F B o part)) e ∙ filled_is (left_of F B o part) (A after) is

  part_back : (part : Part) → part_fits F part ≡ true → agrees_with (renamed F from W part) (A part) ≡ true
  part_back (Part.Null i) fits = by_settled_back (Part.Null i) fits refl (tested.parts (Part.Null i) fits)
  part_back (Part.Same i j) fits = by_settled_back (Part.Same i j) fits refl (tested.parts (Part.Same i j) fits)
  part_back (Part.Flag i f) fits = by_settled_back (Part.Flag i f) fits refl (tested.parts (Part.Flag i f) fits)
  part_back (Part.Shared i) fits = by_settled_back (Part.Shared i) fits refl (tested.parts (Part.Shared i) fits)
  part_back (Part.Mine i) fits = by_settled_back (Part.Mine i) fits refl (tested.parts (Part.Mine i) fits)
  part_back (Part.Locked i) fits = by_settled_back (Part.Locked i) fits refl (tested.parts (Part.Locked i) fits)
  part_back (Part.LockMine i) fits = by_settled_back (Part.LockMine i) fits refl (tested.parts (Part.LockMine i) fits)
  part_back (Part.LockOthers i) fits = by_settled_back (Part.LockOthers i) fits refl (tested.parts (Part.LockOthers i) fits)
  part_back (Part.PointerNull x) fits = by_settled_back (Part.PointerNull x) fits refl (tested.parts (Part.PointerNull x) fits)
  part_back (Part.Beyond x) fits = by_settled_back (Part.Beyond x) fits refl (tested.parts (Part.Beyond x) fits)
  part_back (Part.Leads x j) fits = by_settled_back (Part.Leads x j) fits refl (tested.parts (Part.Leads x j) fits)
  part_back (Part.SameBeyond x y) fits = by_settled_back (Part.SameBeyond x y) fits refl (tested.parts (Part.SameBeyond x y) fits)
  part_back (Part.AtMost s t) fits = by_settled_back (Part.AtMost s t) fits refl (tested.parts (Part.AtMost s t) fits)
  part_back (Part.Visits k i) fits = by_source (from i) refl (tested.parts (Part.Visits k i) fits)
    where
      by_source : (s : Source) → from i ≡ s → agrees_with (left_of_name (λ n. left_of F B o (Part.Visits k n)) s) (A (Part.Visits k i)) ≡ true → beq (A (Part.Visits k i)) (of_name (λ n. W (Part.Visits k n)) false false s) ≡ true
      by_source (Of n) e is =
          let bi = ltb-true i F.names fits in
          bits_same _ _ (sym (filled_from (Part.Visits k n) (Part.Visits k i) _ (taken_is F from (λ a. A (Part.Visits k a)) i n bi e (A (Part.Visits k i)) (λ a la ea. visits_as k a i n la bi ea e)) is))
      by_source Null e is = is
      by_source Fresh e is = is
  part_back (Part.InSet k) fits = filled_as (Part.InSet k) (A (Part.InSet k)) refl (tested.parts (Part.InSet k) fits)
  part_back Part.Spent fits = by_change o tested.writable
    where
      by_change : (p : Option Change) → IsWritable p B A → beq (A Part.Spent) (unwrap_or (left_of F B p Part.Spent) (A Part.Spent)) ≡ true
      by_change None w = bits_same _ _ w
      by_change (Some c) w = bits_same (A Part.Spent) (A Part.Spent) refl
  part_back (Part.Chain i j) fits = by_sources (from i) (from j) refl refl (tested.parts (Part.Chain i j) fits)
    where
      by_sources : (s t : Source) → from i ≡ s → from j ≡ t → agrees_with (left_of_both (λ n m. left_of F B o (Part.Chain n m)) s t) (A (Part.Chain i j)) ≡ true → beq (A (Part.Chain i j)) (of_both (λ n m. W (Part.Chain n m)) true s t) ≡ true
      by_sources (Of n) (Of m) e d is =
          let w = and_parts _ _ fits in
          bits_same _ _ (sym (filled_from (Part.Chain n m) (Part.Chain i j) _ (pair_taken (λ a b. Part.Chain a b) (λ a b la lb. and_from _ _ (lt-ltb a F.names la) (lt-ltb b F.names lb)) (λ r a b. refl)
          (λ a b. first_named a b) (λ a b. second_named a b) i j n m (ltb-true i F.names w.0) (ltb-true j F.names w.1) e d) is))
      by_sources (Of n) Null e d is = is
      by_sources (Of n) Fresh e d is = is
      by_sources Null (Of m) e d is = is
      by_sources Null Null e d is = is
      by_sources Null Fresh e d is = is
      by_sources Fresh (Of m) e d is = is
      by_sources Fresh Null e d is = is
      by_sources Fresh Fresh e d is = is
  part_back (Part.Picks k i j s) fits = by_sources (from i) (from j) refl refl (tested.parts (Part.Picks k i j s) fits)
    where
      by_sources : (r t : Source) → from i ≡ r → from j ≡ t → agrees_with (left_of_pick (settled F B o) (λ n m. left_of F B o (Part.Picks k n m s)) r t) (A (Part.Picks k i j s)) ≡ true → agrees_with (picks_after W k s r t) (A (Part.Picks k i j s)) ≡ true
      by_sources (Of n) (Of m) e d is =
          let w = and_parts _ _ fits in
          let v = and_parts _ _ w.0 in
          by_beyond (settled F B o (Part.Beyond (place n 0))) (sym (drawn_settled (Part.Beyond (place n 0)) (first_there F from inside W W (λ part fits e. refl) i n s v.0 w.1 e) refl)) is
          (pair_taken (λ a b. Part.Picks k a b s) (λ a b la lb. and_from _ _ (and_from _ _ (lt-ltb a F.names la) (lt-ltb b F.names lb)) w.1) (λ r a b. refl)
          (λ a b. first_named a b) (λ a b. second_named a b) i j n m (ltb-true i F.names v.0) (ltb-true j F.names v.1) e d)
        where
          by_beyond : (b : Bool) → b ≡ W (Part.Beyond (place n 0)) → agrees_with (if b then left_of F B o (Part.Picks k n m s) else None) (A (Part.Picks k i j s)) ≡ true
              → drawn_free F from A (Part.Picks k n m s) ≡ A (Part.Picks k i j s)
              → agrees_with (if W (Part.Beyond (place n 0)) then Some (W (Part.Picks k n m s)) else None) (A (Part.Picks k i j s)) ≡ true
          by_beyond true e is free =
              subst (λ b. agrees_with (if b then Some (W (Part.Picks k n m s)) else None) (A (Part.Picks k i j s)) ≡ true) e
              (bits_same _ _ (sym (filled_from (Part.Picks k n m s) (Part.Picks k i j s) _ free is)))
          by_beyond false e is free = subst (λ b. agrees_with (if b then Some (W (Part.Picks k n m s)) else None) (A (Part.Picks k i j s)) ≡ true) e refl
      by_sources (Of n) Null e d is = is
      by_sources (Of n) Fresh e d is = is
      by_sources Null (Of m) e d is = is
      by_sources Null Null e d is = is
      by_sources Null Fresh e d is = is
      by_sources Fresh (Of m) e d is = is
      by_sources Fresh Null e d is = is
      by_sources Fresh Fresh e d is = is
  part_back (Part.StopFlag k s f) fits = filled_as (Part.StopFlag k s f) (A (Part.StopFlag k s f)) refl (tested.parts (Part.StopFlag k s f) fits)
  part_back (Part.StopVisited k s) fits = filled_as (Part.StopVisited k s) (A (Part.StopVisited k s)) refl (tested.parts (Part.StopVisited k s) fits)

  pub step_there : IsPictureStep F o from B A
  step_there = record {
    between = W;
    writes = written_so o tested.writable (tested.parts (Part.InSet KeyName.Own) refl);
    names = record { parts = part_back };
    possible = tested.possible;
  }
    where
      written_so : (p : Option Change) → IsWritable p B A → agrees_with (left_of F B p (Part.InSet KeyName.Own)) (A (Part.InSet KeyName.Own)) ≡ true → WritesOrNot F p B (drawn F p from B A)
      written_so None w set = nothing
      written_so (Some c) w set = write (record {
        at = w.0;
        parts = λ part fits. filled_agrees (written F B c part) (drawn_free F from A part);
        spent = w.1 ∙ ap (λ b. B Part.Spent || (c.own && not (beq (B (Part.InSet KeyName.Own)) b))) (sym (filled_is (written F B c (Part.InSet KeyName.Own)) (A (Part.InSet KeyName.Own)) set));
      })
