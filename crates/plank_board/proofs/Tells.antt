-- What an event tells the seat that makes it, and that the rule of the table allows it.
use Rattle.std.proofs.Common.{◌≡◌, ℕ, suc, ◌+◌, ◌*◌, ◌/◌, ◌%◌, ◌^◌, ◌<◌, ◌≤◌, max, Bool, true, List, [], length, get_or, set, slice_index, bit_or, refl, sym, ◌∙◌, ap, subst, inl, inr, arith}
use Rattle.std.proofs.lemmas.Bool.{cases_eq, or_left}
use Rattle.std.proofs.lemmas.Nat.{mod_below}
use Rattle.std.proofs.lemmas.List.{get_or-set_same, get_or-set_other, length-set}
use mathlib.Core.Option.{some}
use lib.ListN.{get_elem?}
use Rattle.atomic_table.specs.Table.{Me, keeps, Allows}
use Rattle.plank_bits.specs.Words.{is_set, has, IsWithin}
use Rattle.plank_bits.specs.Forced.{IsMonotone}
use Rattle.plank_bits.proofs.SetLemmas.{has_at, count_below-le}
use Rattle.plank_bits.proofs.WordLemmas.{is_set-or}
use Rattle.plank_board.specs.declared.views.View.{View}
use Rattle.plank_board.specs.Words.{epoch, settled, mark_word, marks}
use Rattle.plank_board.specs.Events.{Event, begins, loads, sets, raises, notes, settles, asks, leaves, place, written, seen, May, at_word}
use Rattle.plank_board.specs.Rule.{growing, Fits, IsKept}
use Rattle.plank_board.specs.Seats.{IsShaped, Sits}
use Rattle.plank_board.specs.Plays.{Holds, IsFurther, IsMade}
use Rattle.plank_board.proofs.Places.{set_within, marks_at}
use Rattle.plank_board.proofs.Keeps.{event_keeps, set_again_here}

-- a word that gets more bits makes a larger set
set_grows : (l : List ℕ) (i a : ℕ) → i < length l → ((j : ℕ) → j < 64 → is_set (get_or l i 0) j ≡ true → is_set a j ≡ true) → IsWithin (has l) (has (set l i a))
set_grows l i a h more k e =
    elim (cases_eq (k / 64) i) [
      | inl at ↦
          let old : is_set (get_or l i 0) (k % 64) ≡ true = sym (ap (λ q. is_set (get_or l q 0) (k % 64)) at) ∙ e in
          ap (λ q. is_set (get_or (set l i a) q 0) (k % 64)) at ∙ ap (λ w. is_set w (k % 64)) (get_or-set_same l i a 0 h) ∙ more (k % 64) (mod_below k 64 (omega arith)) old
      | inr d ↦ ap (λ w. is_set w (k % 64)) (get_or-set_other l i (k / 64) a 0 d) ∙ e
    ]

seen-parts : (v : View) (e : Event) (n : ℕ) → (seen v e n).parts ≡ v.parts
seen-parts v begins n = refl
seen-parts v (loads i) n = refl
seen-parts v (sets m i bits) n = refl
seen-parts v raises n = refl
seen-parts v (notes m) n = refl
seen-parts v (settles m) n = refl
seen-parts v asks n = refl
seen-parts v leaves n = refl

module _ (methods words : ℕ) where
  seen-shape : (v : View) (e : Event) (n : ℕ) → IsShaped methods words v → IsShaped methods words (seen v e n)
  seen-shape v begins n s = s
  seen-shape v raises n s = s
  seen-shape v asks n s = s
  seen-shape v leaves n s = s
  seen-shape v (loads i) n s = (length-set v.look i n ∙ s.0, length-set v.look_at i (suc v.events) ∙ s.1, length-set v.marks i n ∙ s.2, s.3, s.4, s.5, s.6)
  seen-shape v (sets m i bits) n s = (s.0, s.1, length-set v.marks i (bit_or n bits) ∙ s.2, length-set v.reached i n ∙ s.3, length-set v.reached_at i (suc v.events) ∙ s.4, s.5, s.6)
  seen-shape v (notes m) n s = (s.0, s.1, s.2, s.3, s.4, length-set v.noted m n ∙ s.5, length-set v.noted_at m (suc v.events) ∙ s.6)
  seen-shape v (settles m) n s = (s.0, s.1, s.2, s.3, s.4, length-set v.noted m (max n (v.epoch + 1)) ∙ s.5, length-set v.noted_at m (suc v.events) ∙ s.6)

module _ (methods words : ℕ) (forces : ℕ → (ℕ → Bool) → ℕ → Type 0) (still : ℕ → (ℕ → Bool) → Type 0) (monotone : IsMonotone forces methods) (seats : ℕ) where
  module _ (ws : List ℕ) (growth : ℕ) (v : View) (f : Fits methods words forces ws growth v) (sits : Sits methods words forces v) where
    marks_word : (i j : ℕ) → j < 64 → is_set (get_or v.marks i 0) j ≡ true → is_set (mark_word methods ws i) j ≡ true
    marks_word i j h e = sym (marks_at methods ws i j h) ∙ f.marked (64 * i + j) (has_at v.marks i j h ∙ e)

    grown : (e : Event) → May methods words forces still v e → IsWithin (has v.marks) (has (seen v e (slice_index ws (place methods e))).marks)
    grown begins may = λ k h. h
    grown raises may = λ k h. h
    grown asks may = λ k h. h
    grown leaves may = λ k h. h
    grown (notes m) may = λ k h. h
    grown (settles m) may = λ k h. h
    grown (loads i) may = set_grows v.marks i (mark_word methods ws i) (omega (arith, may, sits.shape.2)) (λ j h e. marks_word i j h e)
    grown (sets m i bits) may = set_grows v.marks i (bit_or (mark_word methods ws i) bits) (omega (arith, may.0, sits.shape.2)) (λ j h e. is_set-or (mark_word methods ws i) bits j ∙ or_left _ _ (marks_word i j h e))

    looked : (e : Event) → May methods words forces still v e → IsWithin (has (seen v e (slice_index ws (place methods e))).look) (has (seen v e (slice_index ws (place methods e))).marks)
    looked begins may = sits.looked
    looked raises may = sits.looked
    looked asks may = sits.looked
    looked leaves may = sits.looked
    looked (notes m) may = sits.looked
    looked (settles m) may = sits.looked
    looked (sets m i bits) may = λ k h. grown (sets m i bits) may k (sits.looked k h)
    looked (loads i) may =
        let n = mark_word methods ws i in
        set_within v.look i n (has (set v.marks i n)) (λ k h. grown (loads i) may k (sits.looked k h))
        (λ j h e. has_at (set v.marks i n) i j h ∙ ap (λ w. is_set w j) (get_or-set_same v.marks i n 0 (omega (arith, may, sits.shape.2))) ∙ e)

    more_noted : (m n : ℕ) → settled ws m ≤ n → m < methods → (q : ℕ) → q < methods → get_or v.noted q 0 ≤ get_or (set v.noted m n) q 0
    more_noted m n h below q low =
        elim (cases_eq q m) [
          | inl e ↦ subst (λ p. get_or v.noted p 0 ≤ get_or (set v.noted m n) p 0) (sym e) (omega (arith, get_or-set_same v.noted m n 0 (omega (arith, below, sits.shape.5)), f.noted m below, h))
          | inr d ↦ omega (arith, get_or-set_other v.noted m q n 0 d)
        ]

    noted : (e : Event) → May methods words forces still v e → (q : ℕ) → q < methods → slice_index v.noted q ≤ slice_index (seen v e (slice_index ws (place methods e))).noted q
    noted begins may = λ q h. omega arith
    noted raises may = λ q h. omega arith
    noted asks may = λ q h. omega arith
    noted leaves may = λ q h. omega arith
    noted (loads i) may = λ q h. omega arith
    noted (sets m i bits) may = λ q h. omega arith
    noted (notes m) may = more_noted m (settled ws m) (omega arith) may
    noted (settles m) may = more_noted m (max (settled ws m) (v.epoch + 1)) (omega arith) may.0

    found : (e : Event) → v.found ≤ (seen v e (slice_index ws (place methods e))).found
    found begins = f.found
    found asks = f.found
    found leaves = f.found
    found raises = omega arith
    found (notes m) = omega arith
    found (settles m) = omega arith
    found (loads i) = omega arith
    found (sets m i bits) = omega arith

    raised : (e : Event) → v.raised ≤ (seen v e (slice_index ws (place methods e))).raised
    raised raises = omega (arith, f.raised)
    raised begins = omega arith
    raised asks = omega arith
    raised leaves = omega arith
    raised (notes m) = omega arith
    raised (settles m) = omega arith
    raised (loads i) = omega arith
    raised (sets m i bits) = omega arith

    further : (e : Event) → May methods words forces still v e → IsFurther methods words forces (place methods e) v (slice_index ws (place methods e)) (seen v e (slice_index ws (place methods e)))
    further e may =
        record {
          marks = grown e may;
          noted = noted e may;
          found = found e;
          raised = raised e;
          epoch = λ at. let same : slice_index ws (place methods e) ≡ epoch ws = ap (slice_index ws) at in (omega (arith, same, f.found), omega (arith, same, f.raised));
        }

  few_marks : (ws : List ℕ) (vs : List View) → IsKept methods words forces still seats ws vs → epoch ws ≤ 64 * words
  few_marks ws vs kept = omega (arith, kept.sound.raises, count_below-le (marks methods ws) (64 * words))

  -- the view of a seat in any state under the rule
  seat_sits : (ws : List ℕ) (vs : List View) (id : ℕ) (v : View) → IsKept methods words forces still seats ws vs → get_elem? vs id ≡ some v → 0 < v.parts → IsShaped methods words v → IsWithin (has v.look) (has v.marks) → Sits methods words forces v
  seat_sits ws vs id v kept here mine shape looked =
      let f = kept.each id v here in
      let few = few_marks ws vs kept in
      record {
        parts = mine;
        shape = shape;
        forced = λ c closed k h. kept.sound.forced c closed k (f.marked k h);
        looked = looked;
        began = f.began;
        found = omega (arith, f.found, few);
        raised = omega (arith, f.raised, few);
        noted = λ m h. omega (arith, f.noted m h, kept.sound.settles m h, few);
      }

  pub allows : (slots id : ℕ) (me : Me (Unit {0}) View) (e : Event) (f : ℕ → ℕ) (told : ℕ → Me (Unit {0}) View → Type 0) → me.1 ≡ [] → Sits methods words forces me.0 → May methods words forces still me.0 e → ((n : ℕ) → (place methods e ≡ 0 → n + 1 < 2 ^ 64) → f n ≡ written me.0 e n) → ((n : ℕ) (after : Me (Unit {0}) View) → IsMade methods words forces e me n after → told n after) → Allows (Holds methods words forces still seats) slots id me (place methods e) f told
  allows slots id me e f told bare sits may same tell s kept homes here low =
      (w, keeps, tt, kept_now, tell n (w, me.1) made)
    where
      v : View
      v = me.0

      n : ℕ
      n = slice_index s.words (place methods e)

      w : View
      w = seen me.0 e n

      few : place methods e ≡ 0 → n + 1 < 2 ^ 64
      few at = let first : n ≡ epoch s.words = ap (slice_index s.words) at in omega (arith, first, few_marks s.words s.views kept, kept.sound.few)

      kept_after : IsKept methods words forces still seats (set s.words (place methods e) (written me.0 e n)) (set s.views id w)
      kept_after = event_keeps methods words forces still monotone seats s.words s.views _ _ kept (at_word id me.0 e here sits.parts (omega (arith, low)) may refl refl)

      kept_now : IsKept methods words forces still seats (set s.words (place methods e) (f n)) (set s.views id w)
      kept_now = subst (λ a. IsKept methods words forces still seats (set s.words (place methods e) a) (set s.views id w)) (sym (same n few)) kept_after

      fits : Fits methods words forces s.words (growing s.views) me.0
      fits = kept.each id me.0 here

      made : IsMade methods words forces e me n (w, me.1)
      made =
          record {
            seen = ap (λ c. (w, c)) bare;
            sits = seat_sits _ _ id w kept_after (set_again_here s.views id me.0 w here) (subst (λ p. 0 < p) (sym (seen-parts me.0 e n)) sits.parts) (seen-shape methods words me.0 e n sits.shape) (looked s.words (growing s.views) me.0 fits sits e may);
            further = further s.words (growing s.views) me.0 fits sits e may;
          }
