-- One more step of the loops of the calls.
use Rattle.std.proofs.Common.{◌≡◌, ◌≢◌, ◌⊎◌, ℕ, zero, suc, ◌+◌, ◌*◌, ◌/◌, ◌%◌, ◌^◌, ◌<◌, ◌≤◌, ◌==◌, ◌||◌, Bool, true, false, List, length, get_or, set, slice_index, bit_or, bit_and, refl, sym, ◌∙◌, ap, subst, inl, inr, arith, w64}
use Rattle.std.specs.Prelude.{if◌then◌else◌}
use Rattle.std.specs.Int.{bit_at, bit_not}
use Rattle.std.proofs.lemmas.Bool.{cases_eq, cases_lt, eq-eqb, ne_eqb, false≢true, or_left, or_right}
use Rattle.std.proofs.lemmas.Nat.{or_lt}
use Rattle.std.proofs.lemmas.Nat.Bits.{bit_at-lt, same_from_bits_below}
use Rattle.std.proofs.lemmas.List.{get_or-set_same, get_or-set_other}
use Rattle.plank_base.proofs.Digits.{digits_from_tests, same_tests}
use Rattle.plank_bits.specs.Words.{is_set, has, IsWithin}
use Rattle.plank_bits.proofs.WordLemmas.{is_set-or, is_set-above, without-is_within}
use Rattle.plank_bits.proofs.SetLemmas.{has_at, member_below}
use Rattle.plank_board.specs.declared.views.View.{View}
use Rattle.plank_board.specs.Events.{loads, sets, notes, seen}
use Rattle.plank_board.specs.Seats.{Sits}
use Rattle.plank_board.specs.Plays.{IsFurther}
use Rattle.plank_board.specs.Loops.{AreLoaded, AreNoted, AreSet}
use mathlib.Core.Option.{some}
use lib.ListN.{get_elem?}
use Rattle.plank_board.specs.Words.{mark_word}
use Rattle.plank_board.proofs.Places.{quotient, index_at}
use Rattle.plank_board.proofs.Keeps.{quotient_below}

-- ---- lists that are written from the front

pub copied_more : (xs ys : List ℕ) (i : ℕ) → i < length xs → ((j : ℕ) → j < i → slice_index xs j ≡ slice_index ys j) → (j : ℕ) → j < i + 1 → slice_index (set xs i (slice_index ys i)) j ≡ slice_index ys j
copied_more xs ys i h so_far j below =
    elim (cases_eq j i) [
      | inl e ↦ subst (λ q. get_or (set xs i (get_or ys i 0)) q 0 ≡ get_or ys q 0) (sym e) (get_or-set_same xs i (get_or ys i 0) 0 h)
      | inr d ↦ get_or-set_other xs i j (get_or ys i 0) 0 d ∙ so_far j (omega arith)
    ]

-- both lists get the same
pub written_more : (xs ys : List ℕ) (i a : ℕ) → i < length xs → i < length ys → ((j : ℕ) → j < i → slice_index xs j ≡ slice_index ys j) → (j : ℕ) → j < i + 1 → slice_index (set xs i a) j ≡ slice_index (set ys i a) j
written_more xs ys i a h h' so_far j below =
    elim (cases_eq j i) [
      | inl e ↦ subst (λ q. get_or (set xs i a) q 0 ≡ get_or (set ys i a) q 0) (sym e) (get_or-set_same xs i a 0 h ∙ sym (get_or-set_same ys i a 0 h'))
      | inr d ↦ get_or-set_other xs i j a 0 d ∙ so_far j (omega arith) ∙ sym (get_or-set_other ys i j a 0 d)
    ]

-- numbers that are above a bound, and one more
pub above_more : (xs : List ℕ) (i a bound : ℕ) → i < length xs → bound < a → ((j : ℕ) → j < i → bound < slice_index xs j) → (j : ℕ) → j < i + 1 → bound < slice_index (set xs i a) j
above_more xs i a bound h new so_far j below =
    elim (cases_eq j i) [
      | inl e ↦ subst (λ q. bound < get_or (set xs i a) q 0) (sym e) (omega (arith, get_or-set_same xs i a 0 h))
      | inr d ↦ omega (arith, get_or-set_other xs i j a 0 d, so_far j (omega arith))
    ]

-- some number below the bound passes the first test and not the second, or there is none
look_for : (x y : ℕ → Bool) (bound : ℕ) → ((j : ℕ) × (j < bound) × (x j ≡ true) × (y j ≡ false)) ⊎ ((j : ℕ) → j < bound → x j ≡ true → y j ≡ true)
look_for x y zero = inr (λ j h. absurd (omega arith))
look_for x y (suc n) =
    elim (look_for x y n) [
      | inl w ↦ inl (w.0, omega (arith, w.1), w.2, w.3)
      | inr all ↦ last all (x n) (y n) refl refl
    ]
  where
    last : ((j : ℕ) → j < n → x j ≡ true → y j ≡ true) → (a b : Bool) → x n ≡ a → y n ≡ b → ((j : ℕ) × (j < suc n) × (x j ≡ true) × (y j ≡ false)) ⊎ ((j : ℕ) → j < suc n → x j ≡ true → y j ≡ true)
    last all true false p q = inl (n, omega arith, p, q)
    last all a true p q = inr (λ j h e. elim (cases_eq j n) [ inl s ↦ ap y s ∙ q | inr d ↦ all j (omega arith) e ])
    last all false b p q = inr (λ j h e. elim (cases_eq j n) [ inl s ↦ absurd (false≢true (sym (ap x s ∙ p) ∙ e)) | inr d ↦ all j (omega arith) e ])

-- where setting bits changes a word, one of them was clear
new_bit : (n bits : ℕ) → n < 2 ^ 64 → bits < 2 ^ 64 → bit_or n bits ≢ n → (j : ℕ) × (j < 64) × (is_set bits j ≡ true) × (is_set n j ≡ false)
new_bit n bits low few other =
    elim (look_for (is_set bits) (is_set n) 64) [
      | inl w ↦ w
      | inr none ↦ absurd (other (same_from_bits_below 64 (bit_or n bits) n (or_lt 64 n bits low few) low
          (λ j l. digits_from_tests (bit_at (bit_or n bits) j) (bit_at n j) (bit_at-lt (bit_or n bits) j) (bit_at-lt n j)
          (same_tests (is_set (bit_or n bits) j) (is_set n j) (λ e. both (is_set n j) (is_set bits j) (none j l) (sym (is_set-or n bits j) ∙ e)) (λ e. is_set-or n bits j ∙ or_left _ _ e)))))
    ]
  where
    both : (a b : Bool) → (b ≡ true → a ≡ true) → (a || b) ≡ true → a ≡ true
    both true b h e = refl
    both false true h e = h refl
    both false false h e = e

grows_same : (a b : ℕ) (x : Bool) → a ≡ b → (if a == b then x else true) ≡ x
grows_same a b x e = ap (λ t. if t then x else true) (eq-eqb a b e)

grows_other : (a b : ℕ) (x : Bool) → a ≢ b → (if a == b then x else true) ≡ true
grows_other a b x d = ap (λ t. if t then x else true) (ne_eqb a b d)

module _ (methods words : ℕ) (forces : ℕ → (ℕ → Bool) → ℕ → Type 0) where
  -- ---- looks

  pub loaded_first : (v : View) → Sits methods words forces v → AreLoaded methods words forces v v 0
  loaded_first v sits =
      record {
        sits = sits;
        same = refl;
        later = omega arith;
        loaded = λ i h. absurd (omega arith);
        marks = λ i h. absurd (omega arith);
        kept = λ k e. e;
      }

  pub loaded_more : (before v w : View) (i n at : ℕ) → i < words → AreLoaded methods words forces before v i → w ≡ seen v (loads i) n → Sits methods words forces w → IsFurther methods words forces at v n w → AreLoaded methods words forces before w (i + 1)
  loaded_more before v w i n at h so_far is sits further =
      subst (λ (x : View). Sits methods words forces x → IsFurther methods words forces at v n x → AreLoaded methods words forces before x (i + 1)) (sym is)
      (λ sits further. record {
        sits = sits;
        same = ap (λ (u : View). record u { events = suc v.events; look = set v.look i n; look_at = set v.look_at i (suc v.events); marks = set v.marks i n }) so_far.same;
        later = omega (arith, so_far.later);
        loaded = above_more v.look_at i (suc v.events) before.events (omega (arith, h, so_far.sits.shape.1)) (omega (arith, so_far.later)) so_far.loaded;
        marks = written_more v.marks v.look i n (omega (arith, h, so_far.sits.shape.2)) (omega (arith, h, so_far.sits.shape.0)) so_far.marks;
        kept = λ k e. further.marks k (so_far.kept k e);
      })
      sits further

  -- ---- settled words

  pub noted_first : (v : View) → Sits methods words forces v → AreNoted methods words forces v v 0
  noted_first v sits =
      record {
        sits = sits;
        same = refl;
        later = omega arith;
        loaded = λ m h. absurd (omega arith);
        more = λ m h. omega arith;
      }

  pub noted_more : (before v w : View) (m n at : ℕ) → m < methods → AreNoted methods words forces before v m → w ≡ seen v (notes m) n → Sits methods words forces w → IsFurther methods words forces at v n w → AreNoted methods words forces before w (m + 1)
  noted_more before v w m n at h so_far is sits further =
      subst (λ (x : View). Sits methods words forces x → IsFurther methods words forces at v n x → AreNoted methods words forces before x (m + 1)) (sym is)
      (λ sits further. record {
        sits = sits;
        same = ap (λ (u : View). record u { events = suc v.events; noted = set v.noted m n; noted_at = set v.noted_at m (suc v.events) }) so_far.same;
        later = omega (arith, so_far.later);
        loaded = λ j below. elim (cases_eq j m) [
          | inl e ↦ subst (λ q. (before.events < get_or (set v.noted_at m (suc v.events)) q 0) × (get_or (set v.noted_at m (suc v.events)) q 0 ≤ suc v.events)) (sym e)
              (let here = get_or-set_same v.noted_at m (suc v.events) 0 (omega (arith, h, so_far.sits.shape.6)) in (omega (arith, here, so_far.later), omega (arith, here)))
          | inr d ↦
              let old = so_far.loaded j (omega arith) in
              let same = get_or-set_other v.noted_at m j (suc v.events) 0 d in
              (omega (arith, same, old.0), omega (arith, same, old.1))
        ];
        more = λ q low. omega (arith, so_far.more q low, further.noted q low);
      })
      sits further

  -- ---- marks

  pub set_first : (found : List ℕ) (v : View) → Sits methods words forces v → v.grows ≡ false → AreSet methods words forces found v v 0
  set_first found v sits idle =
      record {
        sits = sits;
        same = refl;
        later = omega arith;
        seen = λ k h. absurd (omega arith);
        reached = λ k h. absurd (omega arith);
        grown = λ e. absurd (false≢true (sym idle ∙ e));
        kept = λ k e. e;
      }

  -- a word of which nothing is beyond the look
  pub set_skip : (found : List ℕ) (before v : View) (i : ℕ) → IsWithin (is_set (slice_index found i)) (is_set (slice_index before.look i)) → v.look ≡ before.look → AreSet methods words forces found before v i → AreSet methods words forces found before v (i + 1)
  set_skip found before v i within look so_far =
      record {
        sits = so_far.sits;
        same = so_far.same;
        later = so_far.later;
        seen = λ k h e. elim (cases_eq (k / 64) i) [
          | inl at ↦ so_far.sits.looked k (ap (λ l. has l k) look ∙ in_look k at e)
          | inr d ↦ so_far.seen k (omega arith) e
        ];
        reached = λ k h e not_seen. elim (cases_eq (k / 64) i) [
          | inl at ↦ absurd (false≢true (sym not_seen ∙ in_look k at e))
          | inr d ↦ so_far.reached k (omega arith) e not_seen
        ];
        grown = λ e. let w = so_far.grown e in (w.0, record { word = omega (arith, w.1.word); there = w.1.there; reached = w.1.reached; clear = w.1.clear; until = w.1.until });
        kept = so_far.kept;
      }
    where
      in_look : (k : ℕ) → k / 64 ≡ i → has found k ≡ true → has before.look k ≡ true
      in_look k at e =
          ap (λ q. is_set (slice_index before.look q) (k % 64)) at ∙ within (k % 64) (sym (ap (λ q. is_set (slice_index found q) (k % 64)) at) ∙ e)

  -- the marks of one more word are set
  pub set_more : (found : List ℕ) (before v w : View) (m i n at : ℕ) → i < words → n < 2 ^ 64 → slice_index found i < 2 ^ 64 → AreSet methods words forces found before v i → w ≡ seen v (sets m i (slice_index found i)) n → Sits methods words forces w → IsFurther methods words forces at v n w → AreSet methods words forces found before w (i + 1)
  set_more found before v w m i n at h low few so_far is sits further =
      subst (λ (x : View). Sits methods words forces x → IsFurther methods words forces at v n x → AreSet methods words forces found before x (i + 1)) (sym is)
      (λ sits further. record {
        sits = sits;
        same = ap (λ (u : View). record u { events = suc v.events; marks = set v.marks i now; reached = set v.reached i n; reached_at = set v.reached_at i (suc v.events); grows = (if now == n then v.grows else true) }) so_far.same;
        later = omega (arith, so_far.later);
        seen = λ k below e. elim (cases_eq (k / 64) i) [
          | inl here ↦ in_word v.marks k now here (omega (arith, h, so_far.sits.shape.2)) ∙ is_set-or n bits (k % 64) ∙ or_right _ _ (in_found k here e)
          | inr d ↦ further.marks k (so_far.seen k (omega arith) e)
        ];
        reached = λ k below e not_seen. elim (cases_eq (k / 64) i) [
          | inl here ↦ (at_step k here, λ idle. in_word v.reached k n here (omega (arith, h, so_far.sits.shape.3)) ∙ was_there idle (k % 64) (in_found k here e))
          | inr d ↦
              let old = so_far.reached k (omega arith) e not_seen in
              (omega (arith, get_or-set_other v.reached_at i (k / 64) (suc v.events) 0 d, old.0), λ idle. ap (λ q. is_set q (k % 64)) (get_or-set_other v.reached i (k / 64) n 0 d) ∙ old.1 (was_idle idle))
        ];
        grown = λ grows. elim (cases_eq now n) [
          | inl same ↦
              let old = so_far.grown (sym (grows_same now n v.grows same) ∙ grows) in
              let k = old.0 in
              let d : k / 64 ≢ i = (λ e. let l = old.1.word in omega arith) in (
                k,
                record {
                  word = omega (arith, old.1.word);
                  there = old.1.there;
                  reached = omega (arith, get_or-set_other v.reached_at i (k / 64) (suc v.events) 0 d, old.1.reached);
                  clear = ap (λ q. is_set q (k % 64)) (get_or-set_other v.reached i (k / 64) n 0 d) ∙ old.1.clear;
                  until = omega (arith, get_or-set_other v.reached_at i (k / 64) (suc v.events) 0 d, old.1.until);
                },
              )
          | inr other ↦
              let new = new_bit n bits low few other in
              let k : ℕ = 64 * i + new.0 in
              let here : k / 64 ≡ i = quotient i new.0 new.1 in (
                k,
                record {
                  word = omega arith;
                  there = has_at found i new.0 new.1 ∙ new.2;
                  reached = at_step k here;
                  clear = has_at (set v.reached i n) i new.0 new.1 ∙ ap (λ q. is_set q new.0) (get_or-set_same v.reached i n 0 (omega (arith, h, so_far.sits.shape.3))) ∙ new.3;
                  until = omega (arith, ap (λ q. get_or (set v.reached_at i (suc v.events)) q 0) here, get_or-set_same v.reached_at i (suc v.events) 0 (omega (arith, h, so_far.sits.shape.4)));
                },
              )
        ];
        kept = λ k e. further.marks k (so_far.kept k e);
      })
      sits further
    where
      bits : ℕ
      bits = slice_index found i

      now : ℕ
      now = bit_or n (slice_index found i)

      in_word : (l : List ℕ) (k a : ℕ) → k / 64 ≡ i → i < length l → has (set l i a) k ≡ is_set a (k % 64)
      in_word l k a here within = ap (λ q. is_set (get_or (set l i a) q 0) (k % 64)) here ∙ ap (λ q. is_set q (k % 64)) (get_or-set_same l i a 0 within)

      in_found : (k : ℕ) → k / 64 ≡ i → has found k ≡ true → is_set bits (k % 64) ≡ true
      in_found k here e = sym (ap (λ q. is_set (get_or found q 0) (k % 64)) here) ∙ e

      at_step : (k : ℕ) → k / 64 ≡ i → before.events < get_or (set v.reached_at i (suc v.events)) (k / 64) 0
      at_step k here = omega (arith, so_far.later, ap (λ q. get_or (set v.reached_at i (suc v.events)) q 0) here, get_or-set_same v.reached_at i (suc v.events) 0 (omega (arith, h, so_far.sits.shape.4)))

      was_there : (if now == n then v.grows else true) ≡ false → (j : ℕ) → is_set bits j ≡ true → is_set n j ≡ true
      was_there idle j e =
          elim (cases_eq now n) [
            | inl same ↦ sym (ap (λ q. is_set q j) same) ∙ is_set-or n bits j ∙ or_right _ _ e
            | inr other ↦ absurd (false≢true (sym idle ∙ grows_other now n v.grows other))
          ]

      was_idle : (if now == n then v.grows else true) ≡ false → v.grows ≡ false
      was_idle idle =
          elim (cases_eq now n) [
            | inl same ↦ sym (grows_same now n v.grows same) ∙ idle
            | inr other ↦ absurd (false≢true (sym idle ∙ grows_other now n v.grows other))
          ]

  -- all words of what was found
  pub all_seen : (found : List ℕ) (before after : View) → length found ≡ words → AreSet methods words forces found before after words → IsWithin (has found) (has after.marks)
  all_seen found before after size set k e =
      set.seen k (quotient_below k words (omega (arith, member_below found k e, size))) e

-- ---- one word of what was found, beside the look

pub forced_bits : (forces : (ℕ → Bool) → ℕ → Type 0) (found look other : List ℕ) (i bits : ℕ) → bits < 2 ^ 64 → bits ≡ slice_index found i → look ≡ other → ((k : ℕ) → has found k ≡ true → forces (has look) k) → (j : ℕ) → is_set bits j ≡ true → forces (has other) (64 * i + j)
forced_bits forces found look other i bits few is same forced j e =
    elim (cases_lt j 64) [
      | inl h ↦ subst (λ l. forces (has l) (64 * i + j)) same (forced (64 * i + j) (has_at found i j h ∙ ap (λ b. is_set b j) (sym is) ∙ e))
      | inr h ↦ absurd (false≢true (sym (is_set-above bits j few h) ∙ e))
    ]

pub nothing_beyond : (found look : List ℕ) (i bits word : ℕ) → bits < 2 ^ 64 → word < 2 ^ 64 → bits ≡ slice_index found i → word ≡ slice_index look i → bit_and bits (bit_not w64 word) ≡ 0 → IsWithin (is_set (slice_index found i)) (is_set (slice_index look i))
nothing_beyond found look i bits word few low is at none k e =
    ap (λ w. is_set w k) (sym at) ∙ (without-is_within bits word few low).0 (eq-eqb (bit_and bits (bit_not w64 word)) 0 none) k (ap (λ b. is_set b k) is ∙ e)

-- one more word of a closed table is copied
pub copied_word : (ws last new : List ℕ) (methods i a : ℕ) → i < length last → new ≡ set last i a → get_elem? ws (methods + 1 + i) ≡ some a → ((j : ℕ) → j < i → slice_index last j ≡ mark_word methods ws j) → (j : ℕ) → j < i + 1 → slice_index new j ≡ mark_word methods ws j
copied_word ws last new methods i a h is found so_far j below =
    elim (cases_eq j i) [
      | inl e ↦ ap (λ l. get_or l j 0) is ∙ ap (λ q. get_or (set last i a) q 0) e ∙ get_or-set_same last i a 0 h ∙ sym (index_at ws (methods + 1 + i) a found) ∙ ap (mark_word methods ws) (sym e)
      | inr d ↦ ap (λ l. get_or l j 0) is ∙ get_or-set_other last i j a 0 d ∙ so_far j (omega arith)
    ]
