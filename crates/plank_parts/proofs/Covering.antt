-- A table grows code by code, and a table of all codes is a numbering.
use Rattle.std.proofs.Common.{◌≡◌, ◌≢◌, ◌⊎◌, inl, inr, ℕ, zero, suc, ◌+◌, ◌*◌, ◌<◌, ◌≤◌, Bool, true, false, List, [], ◌∷◌, ◌++◌, length, Some, refl, sym, ◌∙◌, ap, subst, arith, length-append}
use Rattle.std.specs.Prelude.{not, ◌==◌, slice_get}
use Rattle.std.proofs.lemmas.Bool.{and_from, eqb-true, eq-eqb, true≢false}
use Rattle.std.proofs.lemmas.Bool.Decides.{eqb_tells}
use Rattle.std.proofs.lemmas.List.{get_or_append_left}
use Rattle.std.proofs.lemmas.Option.{same_Some}
use Rattle.std.proofs.Math.Seq.{get_or-append_seam}
use Rattle.plank_pic.specs.declared.parts.Part.{Part}
use Rattle.plank_pic.specs.Frames.{Frame}
use Rattle.plank_pic.specs.Lawful.{part_fits}
use Rattle.plank_parts.specs.declared.sides.Side.{Side}
use Rattle.plank_parts.specs.declared.sides.Numbered.{Numbered}
use Rattle.plank_parts.specs.Codes.{part_code, part_of}
use Rattle.plank_parts.specs.Numbers.{Table, Covers, IsNumbering, with_code, is_coded, is_moved, number, numbered, coded}
use Rattle.plank_parts.proofs.Rounds.{IsCode, coded_part}

-- what stands in a list stands there in a longer one
kept_at : (xs ys : List Numbered) (i : ℕ) (e : Numbered) → slice_get xs i ≡ Some e → slice_get (xs ++ ys) i ≡ Some e
kept_at [] ys i e h = cc
kept_at (x ∷ xs) ys zero e h = h
kept_at (x ∷ xs) ys (suc i) e h = kept_at xs ys i e h

-- the first past a list
first_past : (xs ys : List Numbered) (e : Numbered) → slice_get (xs ++ e ∷ ys) (length xs) ≡ Some e
first_past [] ys e = refl
first_past (x ∷ xs) ys e = first_past xs ys e

module _ (F : Frame) (keeps : Part → Bool) (c : ℕ) (T : Table) (so_far : Covers F keeps c T) where
  module _ (x y : ℕ) (parts : List Numbered)
      (few : length parts ≤ length T.parts + 2)
      (stays : (i : ℕ) (e : Numbered) → slice_get T.parts i ≡ Some e → slice_get parts i ≡ Some e)
      (new_before : is_coded F c ≡ true → slice_get parts x ≡ Some (numbered (part_of c) Side.Before))
      (new_kept : is_coded F c ≡ true → keeps (part_of c) ≡ true → y ≡ x)
      (new_moved : is_coded F c ≡ true → keeps (part_of c) ≡ false → slice_get parts y ≡ Some (numbered (part_of c) Side.After))
    where
      abbrev pub grown : Table
      grown = record { before = T.before ++ x ∷ []; after = T.after ++ y ∷ []; parts = parts }

      old_before : (d : ℕ) → d < c → coded grown.before d ≡ coded T.before d
      old_before d below = get_or_append_left T.before (x ∷ []) 0 d (subst (λ n. d < n) (sym so_far.before_count) below)

      old_after : (d : ℕ) → d < c → coded grown.after d ≡ coded T.after d
      old_after d below = get_or_append_left T.after (y ∷ []) 0 d (subst (λ n. d < n) (sym so_far.after_count) below)

      here_before : coded grown.before c ≡ x
      here_before = ap (coded grown.before) (sym so_far.before_count) ∙ get_or-append_seam T.before x [] 0

      here_after : coded grown.after c ≡ y
      here_after = ap (coded grown.after) (sym so_far.after_count) ∙ get_or-append_seam T.after y [] 0

      split : (d : ℕ) → d < c + 1 → (d ≡ c) ⊎ (d < c)
      split d below = elim (eqb_tells d c) [ inl same ↦ inl same.1 | inr other ↦ inr (less other.1) ]
        where
          less : d ≢ c → d < c
          less other = omega (arith, other)

      pub more : Covers F keeps (c + 1) grown
      more = record {
        before_count = length-append T.before (x ∷ []) ∙ ap (λ n. n + 1) so_far.before_count;
        after_count = length-append T.after (y ∷ []) ∙ ap (λ n. n + 1) so_far.after_count;
        few = let old : length T.parts ≤ 2 * c = so_far.few in omega (arith, few);
        before = λ d below fits. elim (split d below) [
          | inl e ↦ subst (λ n. is_coded F n ≡ true → slice_get parts (coded grown.before n) ≡ Some (numbered (part_of n) Side.Before)) (sym e) (λ h. ap (slice_get parts) here_before ∙ new_before h) fits
          | inr less ↦ ap (slice_get parts) (old_before d less) ∙ stays (coded T.before d) (numbered (part_of d) Side.Before) (so_far.before d less fits)
        ];
        kept = λ d below fits keep. elim (split d below) [
          | inl e ↦ subst (λ n. is_coded F n ≡ true → keeps (part_of n) ≡ true → coded grown.after n ≡ coded grown.before n) (sym e) (λ h k. here_after ∙ new_kept h k ∙ sym here_before) fits keep
          | inr less ↦ old_after d less ∙ so_far.kept d less fits keep ∙ sym (old_before d less)
        ];
        moved = λ d below fits keep. elim (split d below) [
          | inl e ↦ subst (λ n. is_coded F n ≡ true → keeps (part_of n) ≡ false → slice_get parts (coded grown.after n) ≡ Some (numbered (part_of n) Side.After)) (sym e) (λ h k. ap (slice_get parts) here_after ∙ new_moved h k) fits keep
          | inr less ↦ ap (slice_get parts) (old_after d less) ∙ stays (coded T.after d) (numbered (part_of d) Side.After) (so_far.moved d less fits keep)
        ];
      }

  -- one more code
  pub covers_more : Covers F keeps (c + 1) (with_code T (part_of c) (is_coded F c) (keeps (part_of c)))
  covers_more = by_bits (is_coded F c) (keeps (part_of c)) refl refl
    where
      entry : Side → Numbered
      entry side = numbered (part_of c) side

      one : List Numbered
      one = T.parts ++ entry Side.Before ∷ []

      one_more : length one ≡ length T.parts + 1
      one_more = length-append T.parts (entry Side.Before ∷ [])

      two_more : length (one ++ entry Side.After ∷ []) ≡ length T.parts + 2
      two_more = let e : length (one ++ entry Side.After ∷ []) ≡ length one + 1 = length-append one (entry Side.After ∷ []) in omega (arith, one_more)

      by_bits : (b k : Bool) → is_coded F c ≡ b → keeps (part_of c) ≡ k → Covers F keeps (c + 1) (with_code T (part_of c) b k)
      by_bits false k is keep = more 0 0 T.parts (omega arith) (λ i e h. h) (λ h. absurd (true≢false (sym h ∙ is))) (λ h k. refl) (λ h k. absurd (true≢false (sym h ∙ is)))
      by_bits true true is keep =
          more (length T.parts) (length T.parts) one (omega (arith, one_more)) (kept_at T.parts (entry Side.Before ∷ []))
          (λ h. first_past T.parts [] (entry Side.Before)) (λ h k. refl) (λ h k. absurd (true≢false (sym keep ∙ k)))
      by_bits true false is keep =
          more (length T.parts) (length one) (one ++ entry Side.After ∷ []) (omega (arith, two_more))
          (λ i e h. kept_at one (entry Side.After ∷ []) i e (kept_at T.parts (entry Side.Before ∷ []) i e h))
          (λ h. kept_at one (entry Side.After ∷ []) (length T.parts) (entry Side.Before) (first_past T.parts [] (entry Side.Before)))
          (λ h k. absurd (true≢false (sym k ∙ keep)))
          (λ h k. first_past one [] (entry Side.After))

pub covers_none : (F : Frame) (keeps : Part → Bool) (T : Table) → T.before ≡ [] → T.after ≡ [] → T.parts ≡ [] → Covers F keeps 0 T
covers_none F keeps T before after parts = record {
  before_count = ap length before;
  after_count = ap length after;
  few = let none : length T.parts ≡ 0 = ap length parts in omega arith;
  before = λ c below. absurd (omega arith);
  kept = λ c below. absurd (omega arith);
  moved = λ c below. absurd (omega arith);
}

-- ---- all codes

module _ (F : Frame) (few_names : F.names ≤ 16) (few_pointers : length F.header.pointers ≤ 2) (few_flags : length F.header.flags ≤ 32)
    (keeps : Part → Bool) (T : Table) (all : Covers F keeps 8704 T) where
  module _ (part : Part) (fits : part_fits F part ≡ true) where
    code : IsCode part (part_code part)
    code = coded_part F few_names few_pointers few_flags part fits

    is_there : is_coded F (part_code part) ≡ true
    is_there = and_from _ _ (ap (part_fits F) code.back ∙ fits) (eq-eqb _ _ (ap part_code code.back))

    at_before : slice_get T.parts (number T Side.Before part) ≡ Some (numbered part Side.Before)
    at_before = all.before (part_code part) code.below is_there ∙ ap (λ (q : Part). Some (numbered q Side.Before)) code.back

    where_kept : keeps part ≡ true → number T Side.After part ≡ number T Side.Before part
    where_kept k = all.kept (part_code part) code.below is_there (ap keeps code.back ∙ k)

    at_after : keeps part ≡ false → slice_get T.parts (number T Side.After part) ≡ Some (numbered part Side.After)
    at_after k = all.moved (part_code part) code.below is_there (ap keeps code.back ∙ k) ∙ ap (λ (q : Part). Some (numbered q Side.After)) code.back

    apart : keeps part ≡ false → number T Side.After part ≡ number T Side.Before part → ⊥
    apart k e = sides_differ (same_Some (numbered part Side.After) (numbered part Side.Before) (sym (at_after k) ∙ ap (slice_get T.parts) e ∙ at_before))
      where
        sides_differ : numbered part Side.After ≡ numbered part Side.Before → ⊥
        sides_differ e = let side : Side.After ≡ Side.Before = ap (λ (n : Numbered). n.side) e in cc

    pub moved_is : is_moved T part ≡ not (keeps part)
    moved_is = by_bits (keeps part) (number T Side.After part == number T Side.Before part) refl refl
      where
        by_bits : (k b : Bool) → keeps part ≡ k → (number T Side.After part == number T Side.Before part) ≡ b → not b ≡ not k
        by_bits true b k e = ap not (sym e ∙ eq-eqb _ _ (where_kept k))
        by_bits false true k e = absurd (apart k (eqb-true _ _ e))
        by_bits false false k e = refl

    moved_keeps : is_moved T part ≡ true → keeps part ≡ false
    moved_keeps h = by_bit (keeps part) refl
      where
        by_bit : (k : Bool) → keeps part ≡ k → keeps part ≡ false
        by_bit false e = e
        by_bit true e = absurd (true≢false (sym h ∙ moved_is ∙ ap not e))

  pub is_numbering : IsNumbering F T
  is_numbering = record {
    before = at_before;
    moved = λ part fits moved. at_after part fits (moved_keeps part fits moved);
  }

-- the same, along the builder's step
pub covers_added : (F : Frame) (keeps : Part → Bool) (c : ℕ) (T grown : Table) (part : Part) (there kept : Bool) →
    part ≡ part_of c → there ≡ is_coded F c → (there ≡ true → kept ≡ keeps part) → Covers F keeps c T → grown ≡ with_code T part there kept → Covers F keeps (c + 1) grown
covers_added F keeps c T grown part there kept part_is there_is kept_is so_far grown_is = by_bit there refl
  where
    by_bit : (b : Bool) → there ≡ b → Covers F keeps (c + 1) grown
    by_bit true e =
        rw (grown_is ∙ ap (λ (q : Part). with_code T q there kept) part_is ∙ ap (λ (b : Bool). with_code T (part_of c) b kept) there_is
        ∙ ap (with_code T (part_of c) (is_coded F c)) (kept_is e ∙ ap keeps part_is)) (covers_more F keeps c T so_far)
    -- what is said of whether it is kept is not read
    by_bit false e =
        rw (grown_is ∙ ap (λ (b : Bool). with_code T part b kept) e
        ∙ ap (λ (b : Bool). with_code T (part_of c) b (keeps (part_of c))) (sym e ∙ there_is)) (covers_more F keeps c T so_far)
