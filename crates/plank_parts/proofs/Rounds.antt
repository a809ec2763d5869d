-- Each part of a small frame has a code below the last, and is the part of its code.
use Rattle.std.proofs.Common.{◌≡◌, ℕ, zero, suc, ◌+◌, ◌-◌, ◌*◌, ◌/◌, ◌%◌, ◌<◌, ◌≤◌, Bool, true, false, length, refl, ◌∙◌, ap, arith}
use Rattle.std.specs.Prelude.{nat_lt, ◌&&◌, ◌==◌, is_some, if◌then◌else◌}
use Rattle.std.proofs.lemmas.Bool.{and_parts, ltb-true, lt-ltb}
use Rattle.std.proofs.lemmas.Nat.{div-mul-add, mod-mul-add}
use Rattle.plank_pic.specs.declared.parts.KeyName.{KeyName}
use Rattle.plank_pic.specs.declared.parts.Term.{Term}
use Rattle.plank_pic.specs.declared.parts.Place.{Place}
use Rattle.plank_pic.specs.declared.parts.Part.{Part}
use Rattle.plank_pic.specs.Frames.{Frame}
use Rattle.plank_pic.specs.Pictures.{place}
use Rattle.plank_pic.specs.Lawful.{part_fits, place_fits, term_fits, slot_count}
use Rattle.plank_parts.specs.Codes.{code_of, part_code, part_of, part_from, term_from, fixed_term, term_kind, term_digit, place_from, place_digit}

-- a code below the last that stands for the part
pub record IsCode (part : Part) (code : ℕ) : Type 0 where
  pub below : code < 8704
  pub back : part_of code ≡ part

-- a kind and two digits are read from their code
is_code : (part : Part) (kind a b : ℕ) → kind < 17 → a < 16 → b < 32 → part_from kind a b ≡ part → IsCode part (code_of kind a b)
is_code part kind a b small_kind small_a small_b is = record {
  below = omega arith;
  back =
      ap (λ n. part_from (n / 16) (n % 16) (code_of kind a b % 32)) (div-mul-add (kind * 16 + a) 32 b small_b)
      ∙ ap (λ n. part_from ((kind * 16 + a) / 16) ((kind * 16 + a) % 16) n) (mod-mul-add (kind * 16 + a) 32 b small_b)
      ∙ ap (λ n. part_from n ((kind * 16 + a) % 16) b) (div-mul-add kind 16 a small_a)
      ∙ ap (λ n. part_from kind n b) (mod-mul-add kind 16 a small_a)
      ∙ is;
}

-- ---- digits

slots_few : (F : Frame) → slot_count F ≤ 2
slots_few F = by_bit (is_some F.header.freeze && (length F.header.pointers == 1))
  where
    by_bit : (b : Bool) → (if b then 2 else 0) ≤ 2
    by_bit true = omega arith
    by_bit false = omega arith

below_of : (i n limit : ℕ) → n ≤ limit → nat_lt i n ≡ true → i < limit
below_of i n limit few h = let below : i < n = ltb-true i n h in omega arith

place_back : (x : Place) → x.name < 16 → place_from (place_digit x) ≡ x
place_back x small =
    ap (λ n. place n (place_digit x / 16)) (mod-mul-add x.pointer 16 x.name small)
    ∙ ap (λ n. place x.name n) (div-mul-add x.pointer 16 x.name small)

-- ---- each kind of part

null_from : (i f : ℕ) → f < 2 → part_from 0 (9 + f) i ≡ Part.PointerNull (place i f)
null_from i zero small = refl
null_from i (suc zero) small = refl
null_from i (suc (suc f)) small = absurd (omega arith)

beyond_from : (i f : ℕ) → f < 2 → part_from 0 (11 + f) i ≡ Part.Beyond (place i f)
beyond_from i zero small = refl
beyond_from i (suc zero) small = refl
beyond_from i (suc (suc f)) small = absurd (omega arith)

leads_from : (i f j : ℕ) → f < 2 → part_from (5 + f) i j ≡ Part.Leads (place i f) j
leads_from i zero j small = refl
leads_from i (suc zero) j small = refl
leads_from i (suc (suc f)) j small = absurd (omega arith)

same_beyond_from : (i f b : ℕ) → f < 2 → part_from (7 + f) i b ≡ Part.SameBeyond (place i f) (place_from b)
same_beyond_from i zero b small = refl
same_beyond_from i (suc zero) b small = refl
same_beyond_from i (suc (suc f)) b small = absurd (omega arith)

at_most_from : (k a b : ℕ) → k < 2 → part_from (9 + k) a b ≡ Part.AtMost (term_from (16 * k + a)) (term_from b)
at_most_from zero a b small = refl
at_most_from (suc zero) a b small = refl
at_most_from (suc (suc k)) a b small = absurd (omega arith)

module _ (F : Frame) (few_names : F.names ≤ 16) (few_pointers : length F.header.pointers ≤ 2) (few_flags : length F.header.flags ≤ 32) where
  name_small : (i : ℕ) → nat_lt i F.names ≡ true → i < 16
  name_small i h = below_of i F.names 16 few_names h

  place_small : (x : Place) → place_fits F x ≡ true → (x.name < 16) × (x.pointer < 2)
  place_small x h =
      let both = and_parts (nat_lt x.name F.names) (nat_lt x.pointer (length F.header.pointers)) h in
      (name_small x.name both.0, below_of x.pointer (length F.header.pointers) 2 few_pointers both.1)

  slot_small : (s : ℕ) → nat_lt s (slot_count F) ≡ true → s < 2
  slot_small s h = below_of s (slot_count F) 2 (slots_few F) h

  -- a term is that of its kind and digit
  pub record IsTerm (t : Term) : Type 0 where
    pub kind : term_kind t < 2
    pub digit : term_digit t < 16
    pub back : term_from (16 * term_kind t + term_digit t) ≡ t

  stop_term : (k : KeyName) (s : ℕ) → s < 2 → IsTerm (Term.Stop k s)
  stop_term KeyName.Own zero small = record { kind = omega arith; digit = omega arith; back = refl }
  stop_term KeyName.Own (suc zero) small = record { kind = omega arith; digit = omega arith; back = refl }
  stop_term KeyName.Other zero small = record { kind = omega arith; digit = omega arith; back = refl }
  stop_term KeyName.Other (suc zero) small = record { kind = omega arith; digit = omega arith; back = refl }
  stop_term KeyName.Any zero small = record { kind = omega arith; digit = omega arith; back = refl }
  stop_term KeyName.Any (suc zero) small = record { kind = omega arith; digit = omega arith; back = refl }
  stop_term k (suc (suc s)) small = absurd (omega arith)

  node_back : (i : ℕ) → i < 16 → term_from i ≡ Term.Node i
  node_back i small = ap (λ (b : Bool). if b then Term.Node i else fixed_term (i - 16)) (lt-ltb i 16 small)

  is_term : (t : Term) → term_fits F t ≡ true → IsTerm t
  is_term (Term.Node i) h =
      let small : i < 16 = name_small i h in
      let none : 0 + i ≡ i = omega arith in
      record { kind = omega arith; digit = small; back = ap term_from none ∙ node_back i small }
  is_term Term.Min h = record { kind = omega arith; digit = omega arith; back = refl }
  is_term Term.Max h = record { kind = omega arith; digit = omega arith; back = refl }
  is_term (Term.Walked KeyName.Own) h = record { kind = omega arith; digit = omega arith; back = refl }
  is_term (Term.Walked KeyName.Other) h = record { kind = omega arith; digit = omega arith; back = refl }
  is_term (Term.Walked KeyName.Any) h = record { kind = omega arith; digit = omega arith; back = refl }
  is_term (Term.Stop k s) h = stop_term k s (slot_small s h)

  one_name : (part : Part) (a i : ℕ) → a < 16 → nat_lt i F.names ≡ true → part_from 0 a i ≡ part → IsCode part (code_of 0 a i)
  one_name part a i small h is = let small_i : i < 16 = name_small i h in is_code part 0 a i (omega arith) small (omega arith) is

  two_names : (part : Part) (kind i j : ℕ) → kind < 17 → nat_lt i F.names ≡ true → nat_lt j F.names ≡ true → part_from kind i j ≡ part → IsCode part (code_of kind i j)
  two_names part kind i j small hi hj is =
      let small_i : i < 16 = name_small i hi in
      let small_j : j < 16 = name_small j hj in
      is_code part kind i j small small_i (omega arith) is

  stop_visited : (k : KeyName) (s : ℕ) → s < 2 → IsCode (Part.StopVisited k s) (part_code (Part.StopVisited k s))
  stop_visited KeyName.Own zero small = is_code _ 0 15 0 (omega arith) (omega arith) (omega arith) refl
  stop_visited KeyName.Own (suc zero) small = is_code _ 0 15 1 (omega arith) (omega arith) (omega arith) refl
  stop_visited KeyName.Other zero small = is_code _ 0 15 2 (omega arith) (omega arith) (omega arith) refl
  stop_visited KeyName.Other (suc zero) small = is_code _ 0 15 3 (omega arith) (omega arith) (omega arith) refl
  stop_visited KeyName.Any zero small = is_code _ 0 15 4 (omega arith) (omega arith) (omega arith) refl
  stop_visited KeyName.Any (suc zero) small = is_code _ 0 15 5 (omega arith) (omega arith) (omega arith) refl
  stop_visited k (suc (suc s)) small = absurd (omega arith)

  stop_flag : (k : KeyName) (s f : ℕ) → s < 2 → f < 32 → IsCode (Part.StopFlag k s f) (part_code (Part.StopFlag k s f))
  stop_flag KeyName.Own zero f small small_f = is_code _ 2 0 f (omega arith) (omega arith) small_f refl
  stop_flag KeyName.Own (suc zero) f small small_f = is_code _ 2 1 f (omega arith) (omega arith) small_f refl
  stop_flag KeyName.Other zero f small small_f = is_code _ 2 2 f (omega arith) (omega arith) small_f refl
  stop_flag KeyName.Other (suc zero) f small small_f = is_code _ 2 3 f (omega arith) (omega arith) small_f refl
  stop_flag KeyName.Any zero f small small_f = is_code _ 2 4 f (omega arith) (omega arith) small_f refl
  stop_flag KeyName.Any (suc zero) f small small_f = is_code _ 2 5 f (omega arith) (omega arith) small_f refl
  stop_flag k (suc (suc s)) f small small_f = absurd (omega arith)

  picks : (k : KeyName) (i j s : ℕ) → nat_lt i F.names ≡ true → nat_lt j F.names ≡ true → s < 2 → IsCode (Part.Picks k i j s) (part_code (Part.Picks k i j s))
  picks KeyName.Own i j zero hi hj small = two_names _ 11 i j (omega arith) hi hj refl
  picks KeyName.Own i j (suc zero) hi hj small = two_names _ 12 i j (omega arith) hi hj refl
  picks KeyName.Other i j zero hi hj small = two_names _ 13 i j (omega arith) hi hj refl
  picks KeyName.Other i j (suc zero) hi hj small = two_names _ 14 i j (omega arith) hi hj refl
  picks KeyName.Any i j zero hi hj small = two_names _ 15 i j (omega arith) hi hj refl
  picks KeyName.Any i j (suc zero) hi hj small = two_names _ 16 i j (omega arith) hi hj refl
  picks k i j (suc (suc s)) hi hj small = absurd (omega arith)

  same_beyond : (x y : Place) → place_fits F x ≡ true → place_fits F y ≡ true → IsCode (Part.SameBeyond x y) (part_code (Part.SameBeyond x y))
  same_beyond x y hx hy =
      let sx = place_small x hx in
      let sy = place_small y hy in
      let xf : x.pointer < 2 = sx.1 in
      let yf : y.pointer < 2 = sy.1 in
      let yn : y.name < 16 = sy.0 in
      is_code (Part.SameBeyond x y) (7 + x.pointer) x.name (place_digit y) (omega arith) sx.0 (omega arith)
      (same_beyond_from x.name x.pointer (place_digit y) sx.1 ∙ ap (Part.SameBeyond x) (place_back y sy.0))

  at_most : (s t : Term) → IsTerm s → IsTerm t → IsCode (Part.AtMost s t) (part_code (Part.AtMost s t))
  at_most s t is it =
      let ks : term_kind s < 2 = is.kind in
      let kt : term_kind t < 2 = it.kind in
      let dt : term_digit t < 16 = it.digit in
      is_code (Part.AtMost s t) (9 + term_kind s) (term_digit s) (16 * term_kind t + term_digit t) (omega arith) is.digit (omega arith)
      (at_most_from (term_kind s) (term_digit s) (16 * term_kind t + term_digit t) is.kind
      ∙ ap (λ a. Part.AtMost a (term_from (16 * term_kind t + term_digit t))) is.back ∙ ap (Part.AtMost s) it.back)

  at_place : (part : Part) (first : ℕ) (x : Place) → first ≤ 11 → place_fits F x ≡ true → (x.pointer < 2 → part_from 0 (first + x.pointer) x.name ≡ part) → IsCode part (code_of 0 (first + x.pointer) x.name)
  at_place part first x few h is =
      let small = place_small x h in
      let xn : x.name < 16 = small.0 in
      let xf : x.pointer < 2 = small.1 in
      is_code part 0 (first + x.pointer) x.name (omega arith) (omega arith) (omega arith) (is xf)

  -- each part of the frame
  pub coded_part : (part : Part) → part_fits F part ≡ true → IsCode part (part_code part)
  coded_part (Part.Null i) h = one_name _ 0 i (omega arith) h refl
  coded_part (Part.Shared i) h = one_name _ 1 i (omega arith) h refl
  coded_part (Part.Mine i) h = one_name _ 2 i (omega arith) h refl
  coded_part (Part.Locked i) h = one_name _ 3 i (omega arith) (and_parts _ _ h).0 refl
  coded_part (Part.LockMine i) h = one_name _ 4 i (omega arith) (and_parts _ _ h).0 refl
  coded_part (Part.LockOthers i) h = one_name _ 5 i (omega arith) (and_parts _ _ h).0 refl
  coded_part (Part.Visits KeyName.Own i) h = one_name _ 6 i (omega arith) h refl
  coded_part (Part.Visits KeyName.Other i) h = one_name _ 7 i (omega arith) h refl
  coded_part (Part.Visits KeyName.Any i) h = one_name _ 8 i (omega arith) h refl
  coded_part (Part.PointerNull x) h = at_place (Part.PointerNull x) 9 x (omega arith) h (null_from x.name x.pointer)
  coded_part (Part.Beyond x) h = at_place (Part.Beyond x) 11 x (omega arith) h (beyond_from x.name x.pointer)
  coded_part (Part.InSet KeyName.Own) h = is_code _ 0 13 0 (omega arith) (omega arith) (omega arith) refl
  coded_part (Part.InSet KeyName.Other) h = is_code _ 0 13 1 (omega arith) (omega arith) (omega arith) refl
  coded_part (Part.InSet KeyName.Any) h = is_code _ 0 13 2 (omega arith) (omega arith) (omega arith) refl
  coded_part Part.Spent h = is_code _ 0 14 0 (omega arith) (omega arith) (omega arith) refl
  coded_part (Part.StopVisited k s) h = stop_visited k s (slot_small s h)
  coded_part (Part.Flag i f) h =
      let both = and_parts (nat_lt i F.names) (nat_lt f (length F.header.flags)) h in
      is_code (Part.Flag i f) 1 i f (omega arith) (name_small i both.0) (below_of f (length F.header.flags) 32 few_flags both.1) refl
  coded_part (Part.StopFlag k s f) h =
      let both = and_parts (nat_lt s (slot_count F)) (nat_lt f (length F.header.flags)) h in
      stop_flag k s f (slot_small s both.0) (below_of f (length F.header.flags) 32 few_flags both.1)
  coded_part (Part.Same i j) h = let both = and_parts (nat_lt i F.names) (nat_lt j F.names) h in two_names _ 3 i j (omega arith) both.0 both.1 refl
  coded_part (Part.Chain i j) h = let both = and_parts (nat_lt i F.names) (nat_lt j F.names) h in two_names _ 4 i j (omega arith) both.0 both.1 refl
  coded_part (Part.Leads x j) h =
      let both = and_parts (place_fits F x) (nat_lt j F.names) h in
      let small = place_small x both.0 in
      let xf : x.pointer < 2 = small.1 in
      let xj : j < 16 = name_small j both.1 in
      is_code (Part.Leads x j) (5 + x.pointer) x.name j (omega arith) small.0 (omega arith) (leads_from x.name x.pointer j small.1)
  coded_part (Part.SameBeyond x y) h = let both = and_parts (place_fits F x) (place_fits F y) h in same_beyond x y both.0 both.1
  coded_part (Part.AtMost s t) h = let both = and_parts (term_fits F s) (term_fits F t) h in at_most s t (is_term s both.0) (is_term t both.1)
  coded_part (Part.Picks k i j s) h =
      let both = and_parts (nat_lt i F.names && nat_lt j F.names) (nat_lt s (slot_count F)) h in
      let names = and_parts (nat_lt i F.names) (nat_lt j F.names) both.0 in
      picks k i j s names.0 names.1 (slot_small s both.1)
