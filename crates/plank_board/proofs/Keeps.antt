-- Every event keeps the rule.
use Rattle.std.proofs.Common.{◌≡◌, ◌≢◌, ◌⊎◌, ℕ, zero, suc, ◌+◌, ◌-◌, ◌*◌, ◌/◌, ◌%◌, ◌^◌, ◌<◌, ◌≤◌, ◌==◌, max, cond, Bool, true, false, List, [], ◌∷◌, ◌++◌, length, get_or, set, replicate, slice_index, bit_or, refl, sym, ◌∙◌, ap, subst, inl, inr, arith}
use Rattle.std.specs.Prelude.{if◌then◌else◌}
use Rattle.std.proofs.lemmas.Bool.{cases_eq, cases_lt, eq-eqb, ne_eqb, false≢true}
use Rattle.std.proofs.lemmas.Nat.{div-add-mod'}
use Rattle.std.proofs.Math.Path.{fun_ext}
use Rattle.std.proofs.lemmas.List.{get_or-replicate, length-replicate, get_or_past, get_or-set_same, get_or-set_other, set-get_or, length-set}
use Rattle.std.proofs.lemmas.List.Sums.{sum_by_push}
use mathlib.Core.Option.{some, some-injective, some-ne-none}
use lib.ListN.{get_elem?}
use Rattle.atomic_table.proofs.Lists.{at_set, at_snoc, at_longer, set_else}
use Rattle.plank_base.proofs.Digits.{same_tests}
use Rattle.plank_bits.specs.Words.{is_set, has, IsWithin}
use Rattle.plank_bits.specs.Forced.{IsMonotone}
use Rattle.plank_bits.proofs.SetLemmas.{count_below-same}
use Rattle.plank_bits.proofs.WordLemmas.{is_set-zero}
use Rattle.plank_board.specs.declared.views.View.{View}
use Rattle.plank_board.specs.Words.{epoch, settled, mark_word, marks}
use Rattle.plank_board.specs.Events.{Event, begins, loads, sets, raises, notes, settles, asks, leaves, place, written, seen, newcomer, spent, kept_part, given_part, joined, May, Happens, at_word, by_split, by_join, Follows, opened, after}
use Rattle.plank_board.specs.Rule.{growing, AreForced, AreSound, Fits, IsKept}
use Rattle.plank_board.proofs.Places.{set_or_not, set_within, both_within, marks_at, marks_below, marks-before, bits_grow, bits_add, bits_count}
use Rattle.plank_board.proofs.Sums.{sum_at, part_of_sum}

abbrev digit : View → ℕ
digit v = cond v.grows 1 0

abbrev part : View → ℕ
part v = v.parts

if_cases : {A : Type 0} (b : Bool) (x y : A) → (P : A → Type 0) → (b ≡ true → P x) → (b ≡ false → P y) → P (if b then x else y)
if_cases true x y P h k = h refl
if_cases false x y P h k = k refl

same_some : (v w : View) → some v ≡ some w → v ≡ w
same_some v w e = some-injective v w e

pub set_again_here : (vs : List View) (id : ℕ) (v w : View) → get_elem? vs id ≡ some v → get_elem? (set vs id w) id ≡ some w
set_again_here [] id v w e = absurd (some-ne-none v (sym e))
set_again_here (x ∷ xs) zero v w e = refl
set_again_here (x ∷ xs) (suc id) v w e = set_again_here xs id v w e

-- what a seat has seen that set bits of a word, where the word stayed or not
abbrev after_bits : View → ℕ → ℕ → ℕ → Bool → View
after_bits v i bits n stayed = record v { events = suc v.events; marks = set v.marks i (bit_or n bits); reached = set v.reached i n; reached_at = set v.reached_at i (suc v.events); grows = (if stayed then v.grows else true) }

pub get_or-replicate_same : (n i : ℕ) → slice_index (replicate n 0) i ≡ 0
get_or-replicate_same n i =
    elim (cases_lt i n) [
      | inl h ↦ get_or-replicate n i 0 0 h
      | inr h ↦ get_or_past (replicate n 0) i 0 (omega (arith, length-replicate {A = ℕ} n 0))
    ]

pub no_mark : (n k : ℕ) → has (replicate n 0) k ≡ false
no_mark n k = ap (λ w. is_set w (k % 64)) (get_or-replicate_same n (k / 64)) ∙ is_set-zero (k % 64)

pub quotient_below : (k words : ℕ) → k < 64 * words → k / 64 < words
quotient_below k words h = omega (arith, div-add-mod' k 64)

module _ (methods words : ℕ) (forces : ℕ → (ℕ → Bool) → ℕ → Type 0) (still : ℕ → (ℕ → Bool) → Type 0) (monotone : IsMonotone forces methods) where
  -- words of which none is less than before
  record AreLater (ws us : List ℕ) : Type 0 where
    more : IsWithin (marks methods ws) (marks methods us)
    epoch : epoch ws ≤ epoch us
    settled : (m : ℕ) → m < methods → settled ws m ≤ settled us m

  -- what a seat has seen still fits later words, where its look is not said to be the words
  fits_later : (ws us : List ℕ) (growth now : ℕ) (v : View) → AreLater ws us → Fits methods words forces ws growth v → (v.epoch ≡ epoch us → now ≡ 0 → (i : ℕ) → v.epoch_at < slice_index v.look_at i → slice_index v.look i ≡ mark_word methods us i) → Fits methods words forces us now v
  fits_later ws us growth now v later f fresh =
      let further = later.epoch in
      record {
        marked = λ k e. later.more k (f.marked k e);
        looked = λ k e. later.more k (f.looked k e);
        began = f.began;
        found = omega (arith, f.found);
        raised = omega (arith, f.raised);
        noted = λ m h. omega (arith, f.noted m h, later.settled m h);
        left = λ m h. omega (arith, f.left m h, later.settled m h);
        shape = f.shape;
        loaded = f.loaded;
        fresh = fresh;
        idle = f.idle;
      }

  -- a seat that has seen nothing
  fits_newcomer : (m n parts : ℕ) (ws : List ℕ) (growth : ℕ) → Fits methods words forces ws growth (newcomer m n parts)
  fits_newcomer m n parts ws growth =
      record {
        marked = λ k e. absurd (false≢true (sym (no_mark n k) ∙ e));
        looked = λ k e. absurd (false≢true (sym (no_mark n k) ∙ e));
        began = omega arith;
        found = omega arith;
        raised = omega arith;
        noted = λ q h. omega (arith, get_or-replicate_same m q);
        left = λ q h. omega arith;
        shape = refl;
        loaded = λ i. omega (arith, get_or-replicate_same n i);
        fresh = λ now none i h. absurd (omega (arith, h, get_or-replicate_same n i));
        idle = λ none. (refl, refl);
      }

  module _ (ws : List ℕ) (growth : ℕ) (v : View) (f : Fits methods words forces ws growth v) (mine : 0 < v.parts) where
    -- ---- a seat that only loads fits the same words

    fits_begins : Fits methods words forces ws growth (seen v begins (epoch ws))
    fits_begins =
        record {
          marked = f.marked;
          looked = f.looked;
          began = omega arith;
          found = omega arith;
          raised = f.raised;
          noted = f.noted;
          left = f.left;
          shape = f.shape;
          loaded = λ i. omega (arith, f.loaded i);
          fresh = λ now none i h. absurd (omega (arith, f.loaded i, h));
          idle = f.idle;
        }

    fits_loads : (i : ℕ) → Fits methods words forces ws growth (seen v (loads i) (mark_word methods ws i))
    fits_loads i =
        record {
          marked = set_within v.marks i (mark_word methods ws i) (marks methods ws) f.marked (λ j h e. marks_at methods ws i j h ∙ e);
          looked = set_within v.look i (mark_word methods ws i) (marks methods ws) f.looked (λ j h e. marks_at methods ws i j h ∙ e);
          began = f.began;
          found = f.found;
          raised = f.raised;
          noted = f.noted;
          left = f.left;
          shape = length-set v.look i (mark_word methods ws i) ∙ f.shape ∙ sym (length-set v.look_at i (suc v.events));
          loaded = λ j. elim (set_or_not v.look_at i j (suc v.events)) [ inl same ↦ omega (arith, f.loaded j) | inr new ↦ omega (arith, new.1) ];
          fresh = λ now none j h. look_now now none j h;
          idle = f.idle;
        }
      where
        look_now : v.epoch ≡ epoch ws → growth ≡ 0 → (j : ℕ) → v.epoch_at < get_or (set v.look_at i (suc v.events)) j 0 → get_or (set v.look i (mark_word methods ws i)) j 0 ≡ mark_word methods ws j
        look_now now none j h =
            elim (cases_eq j i) [
              | inl e ↦ elim (cases_lt i (length v.look)) [
                | inl within ↦ ap (λ n. get_or (set v.look i (mark_word methods ws i)) n 0) e ∙ get_or-set_same v.look i (mark_word methods ws i) 0 within ∙ ap (mark_word methods ws) (sym e)
                | inr past ↦ absurd (omega (arith, h, get_or_past (set v.look_at i (suc v.events)) j 0 (omega (arith, length-set v.look_at i (suc v.events), f.shape))))
              ]
              | inr d ↦ get_or-set_other v.look i j (mark_word methods ws i) 0 d ∙ f.fresh now none j (subst (λ n. v.epoch_at < n) (get_or-set_other v.look_at i j (suc v.events) 0 d) h)
            ]

    -- it notes a value that the settled word has
    fits_noting : (m n at : ℕ) → n ≤ settled ws m → Fits methods words forces ws growth (record v { events = suc v.events; noted = set v.noted m n; noted_at = set v.noted_at m at })
    fits_noting m n at h =
        record {
          marked = f.marked;
          looked = f.looked;
          began = f.began;
          found = f.found;
          raised = f.raised;
          noted = λ j below. elim (set_or_not v.noted m j n) [
            | inl same ↦ omega (arith, f.noted j below)
            | inr new ↦ subst (λ q. get_or (set v.noted m n) q 0 ≤ settled ws q) (sym (new.0)) (subst (λ q. get_or (set v.noted m n) q 0 ≤ settled ws m) new.0 (omega (arith, new.1)))
          ];
          left = f.left;
          shape = f.shape;
          loaded = λ i. omega (arith, f.loaded i);
          fresh = f.fresh;
          idle = f.idle;
        }

    fits_asks : (left : ℕ) → ((m : ℕ) → m < methods → left ≤ settled ws m) → Fits methods words forces ws growth (record v { events = suc v.events; found = epoch ws; found_at = suc v.events; left = left })
    fits_asks left h =
        record {
          marked = f.marked;
          looked = f.looked;
          began = omega (arith, f.began, f.found);
          found = omega arith;
          raised = f.raised;
          noted = f.noted;
          left = h;
          shape = f.shape;
          loaded = λ i. omega (arith, f.loaded i);
          fresh = f.fresh;
          idle = f.idle;
        }

    fits_leaves : ((m : ℕ) → m < methods → v.epoch < slice_index v.noted m) → Fits methods words forces ws growth (seen v leaves (epoch ws))
    fits_leaves noted =
        fits_asks (if epoch ws == v.epoch then v.epoch + 1 else v.left) (λ m h. if_cases (epoch ws == v.epoch) (v.epoch + 1) v.left (λ n. n ≤ settled ws m) (λ e. omega (arith, noted m h, f.noted m h)) (λ e. f.left m h))

    -- ---- a seat that sets bits of a word, which has them then, and is in growth or not

    fits_sets : (i n to : ℕ) (grows : Bool) → ((j : ℕ) → j < 64 → is_set to j ≡ true → marks methods ws (64 * i + j) ≡ true) → Fits methods words forces ws growth (record v { events = suc v.events; marks = set v.marks i to; reached = set v.reached i n; reached_at = set v.reached_at i (suc v.events); grows = grows })
    fits_sets i n to grows there =
        record {
          marked = set_within v.marks i to (marks methods ws) f.marked there;
          looked = f.looked;
          began = f.began;
          found = f.found;
          raised = f.raised;
          noted = f.noted;
          left = f.left;
          shape = f.shape;
          loaded = λ i. omega (arith, f.loaded i);
          fresh = f.fresh;
          idle = λ none. absurd (omega arith);
        }

    fits_raises : (n : ℕ) → n ≤ epoch ws → Fits methods words forces ws growth (record v { events = suc v.events; grows = false; raised = n; raised_at = suc v.events })
    fits_raises n h =
        record {
          marked = f.marked;
          looked = f.looked;
          began = f.began;
          found = f.found;
          raised = h;
          noted = f.noted;
          left = f.left;
          shape = f.shape;
          loaded = λ i. omega (arith, f.loaded i);
          fresh = f.fresh;
          idle = λ none. absurd (omega arith);
        }

  module _ (seats : ℕ) (ws : List ℕ) (vs : List View) (kept : IsKept methods words forces still seats ws vs) (id : ℕ) (v : View) (here : get_elem? vs id ≡ some v) where
    -- ---- one seat has another view, and the words may be others

    fit : Fits methods words forces ws (growing vs) v
    fit = kept.each id v here

    replaced : (us : List ℕ) (w : View) → AreSound methods words forces still us (growing (set vs id w)) → w.parts ≡ v.parts → (epoch us ≤ w.raised) ⊎ ((epoch us ≡ epoch ws) × (v.raised ≤ w.raised)) → ((u : View) → Fits methods words forces ws (growing vs) u → Fits methods words forces us (growing (set vs id w)) u) → Fits methods words forces us (growing (set vs id w)) w → IsKept methods words forces still seats us (set vs id w)
    replaced us w sound parts raised others mine =
        record {
          sound = sound;
          raised = λ bound all. elim raised [
            | inl h ↦ omega (arith, h, all id w (there))
            | inr (same, more) ↦ omega (
              arith,
              same,
              kept.raised bound (λ j u at. elim (cases_eq j id) [
                | inl e ↦ let is : v ≡ u = one j u e at in subst (λ (x : View). x.raised ≤ bound) is (omega (arith, more, all id w there))
                | inr d ↦ all j u (set_else vs id j w d ∙ at)
              ]),
            )
          ];
          shared = omega (arith, sum_at part vs id v w here, kept.shared, parts);
          each = λ j u at. elim (at_set vs id j w u at) [
            | inl (e, is) ↦ subst (λ (x : View). Fits methods words forces us (growing (set vs id w)) x) is mine
            | inr (d, was) ↦ others u (kept.each j u was)
          ];
        }
      where
        there : get_elem? (set vs id w) id ≡ some w
        there = set_again_here vs id v w here

        one : (j : ℕ) (u : View) → j ≡ id → get_elem? vs j ≡ some u → v ≡ u
        one j u e at = same_some v u (sym here ∙ ap (get_elem? vs) (sym e) ∙ at)

    -- the words are the same
    seen_more : (w : View) → w.grows ≡ v.grows → w.parts ≡ v.parts → v.raised ≤ w.raised → Fits methods words forces ws (growing vs) w → IsKept methods words forces still seats ws (set vs id w)
    seen_more w grows parts raised fits =
        let same : growing vs ≡ growing (set vs id w) = omega (arith, sum_at digit vs id v w here, ap {B = ℕ} (λ (b : Bool). cond b 1 0) grows) in
        replaced ws w (subst (AreSound methods words forces still ws) same kept.sound) parts (inr (refl, raised)) (λ u f. subst (λ n. Fits methods words forces ws n u) same f) (subst (λ n. Fits methods words forces ws n w) same fits)

    -- ---- bits are set in a word

    module _ (m i bits : ℕ) (may : May methods words forces still v (sets m i bits)) (low : mark_word methods ws i < 2 ^ 64) (mine : 0 < v.parts) where
      there : methods + 1 + i < length ws
      there = omega (arith, kept.sound.many, may.0)

      now : ℕ
      now = bit_or (mark_word methods ws i) bits

      -- where they change nothing
      sets_none : now ≡ mark_word methods ws i → IsKept methods words forces still seats ws (set vs id (record v { events = suc v.events; marks = set v.marks i now; reached = set v.reached i (mark_word methods ws i); reached_at = set v.reached_at i (suc v.events); grows = v.grows }))
      sets_none same =
          seen_more _ refl refl (omega arith) (fits_sets ws (growing vs) v fit mine i (mark_word methods ws i) now v.grows (λ j h e. marks_at methods ws i j h ∙ ap (λ w. is_set w j) (sym same) ∙ e))

      same_epoch : epoch (set ws (methods + 1 + i) now) ≡ epoch ws
      same_epoch = get_or-set_other ws (methods + 1 + i) 0 _ 0 (λ e. omega arith)

      same_settled : (m : ℕ) → m < methods → settled (set ws (methods + 1 + i) now) m ≡ settled ws m
      same_settled m h = get_or-set_other ws (methods + 1 + i) (m + 1) _ 0 (λ e. omega arith)

      later : AreLater ws (set ws (methods + 1 + i) now)
      unfolding now
      later =
          record {
            more = bits_grow methods ws i bits there;
            epoch = omega (arith, same_epoch);
            settled = λ m h. omega (arith, same_settled m h);
          }

      -- all that is set then is forced
      sets_forced : AreForced methods words forces (marks methods (set ws (methods + 1 + i) now))
      unfolding now
      sets_forced c closed k e =
          elim (bits_add methods ws i bits there k e) [
            | inl t ↦ kept.sound.forced c closed k t
            | inr (j, set_there, at) ↦
                let within : IsWithin (has v.look) c = λ q h. kept.sound.forced c closed q (fit.looked q h) in
                ap c at ∙ closed (64 * i + j) (m, may.1, monotone m (64 * i + j) (has v.look) c may.1 within (may.4 j set_there))
          ]

      -- where they add a mark, the seat is in growth
      sets_some : now ≢ mark_word methods ws i → IsKept methods words forces still seats (set ws (methods + 1 + i) now) (set vs id (record v { events = suc v.events; marks = set v.marks i now; reached = set v.reached i (mark_word methods ws i); reached_at = set v.reached_at i (suc v.events); grows = true }))
      unfolding now
      sets_some other =
          replaced us w sound refl (inr (same_epoch, omega arith))
          (λ u f. fits_later ws us _ _ u later f (λ e none. absurd (growth none)))
          (fits_sets us _ v (fits_later ws us _ _ v later fit (λ e none. absurd (growth none))) mine i (mark_word methods ws i) now true (λ j h e. marks_at methods us i j h ∙ ap (λ q. is_set q j) (get_or-set_same ws (methods + 1 + i) now 0 there) ∙ e))
        where
          us : List ℕ
          us = set ws (methods + 1 + i) now

          w : View
          w = record v { events = suc v.events; marks = set v.marks i now; reached = set v.reached i (mark_word methods ws i); reached_at = set v.reached_at i (suc v.events); grows = true }

          counted : growing (set vs id w) + digit v ≡ growing vs + 1
          counted = sum_at digit vs id v w here

          growth : growing (set vs id w) ≡ 0 → ⊥
          growth none = omega (arith, counted, part_of_sum digit vs id v here)

          sound : AreSound methods words forces still us (growing (set vs id w))
          sound =
              record {
                many = length-set ws (methods + 1 + i) now ∙ kept.sound.many;
                few = kept.sound.few;
                forced = sets_forced;
                raises = omega (arith, same_epoch, counted, kept.sound.raises, bits_count methods ws i bits there words kept.sound.many low may.2 other);
                settles = λ q h. omega (arith, same_epoch, same_settled q h, kept.sound.settles q h);
                quiet = λ none. absurd (growth none);
              }

    -- ---- the epoch is raised

    raises_once : v.grows ≡ true → 0 < v.parts → IsKept methods words forces still seats (set ws 0 (epoch ws + 1)) (set vs id (record v { events = suc v.events; grows = false; raised = epoch ws + 1; raised_at = suc v.events }))
    raises_once grows mine =
        replaced us w sound refl (inl (omega (arith, raised_epoch)))
        (λ u f. fits_later ws us _ _ u later f (λ e none. absurd (past u f e)))
        (fits_raises us _ v (fits_later ws us _ _ v later fit (λ e none. absurd (past v fit e))) mine (epoch ws + 1) (omega (arith, raised_epoch)))
      where
        us : List ℕ
        us = set ws 0 (epoch ws + 1)

        w : View
        w = record v { events = suc v.events; grows = false; raised = epoch ws + 1; raised_at = suc v.events }

        raised_epoch : epoch us ≡ epoch ws + 1
        raised_epoch = get_or-set_same ws 0 (epoch ws + 1) 0 (omega (arith, kept.sound.many))

        same_settled : (m : ℕ) → settled us m ≡ settled ws m
        same_settled m = get_or-set_other ws 0 (m + 1) (epoch ws + 1) 0 (λ e. omega arith)

        same_marks : (k : ℕ) → marks methods us k ≡ marks methods ws k
        same_marks k = marks-before methods ws 0 (epoch ws + 1) k (omega arith)

        later : AreLater ws us
        later = record { more = λ k e. same_marks k ∙ e; epoch = omega (arith, raised_epoch); settled = λ m h. omega (arith, same_settled m) }

        past : (u : View) → Fits methods words forces ws (growing vs) u → u.epoch ≡ epoch us → ⊥
        past u f e = omega (arith, e, raised_epoch, f.began, f.found)

        counted : growing (set vs id w) + 1 ≡ growing vs
        counted = omega (arith, sum_at digit vs id v w here, ap {B = ℕ} (λ (b : Bool). cond b 1 0) grows)

        sound : AreSound methods words forces still us (growing (set vs id w))
        sound =
            record {
              many = length-set ws 0 (epoch ws + 1) ∙ kept.sound.many;
              few = kept.sound.few;
              forced = λ c closed k e. kept.sound.forced c closed k (sym (same_marks k) ∙ e);
              raises = omega (arith, raised_epoch, counted, kept.sound.raises, count_below-same (marks methods us) (marks methods ws) (64 * words) (λ k h. same_marks k));
              settles = λ q h. omega (arith, raised_epoch, same_settled q, kept.sound.settles q h);
              quiet = λ none q h e. absurd (omega (arith, e, raised_epoch, same_settled q, kept.sound.settles q h));
            }

    -- ---- a settled word is raised

    settles_method : (m : ℕ) → 0 < v.parts → May methods words forces still v (settles m) → IsKept methods words forces still seats (set ws (m + 1) (max (settled ws m) (v.epoch + 1))) (set vs id (record v { events = suc v.events; noted = set v.noted m (max (settled ws m) (v.epoch + 1)); noted_at = set v.noted_at m (suc v.events) }))
    settles_method m mine may =
        replaced us w sound refl (inr (same_epoch, omega arith))
        (λ u f. fits_later ws us _ _ u later f (fresh u f))
        (fits_noting us _ v (fits_later ws us _ _ v later fit (fresh v fit)) mine m new (suc v.events) (omega (arith, here_settled)))
      where
        new : ℕ
        new = max (settled ws m) (v.epoch + 1)

        us : List ℕ
        us = set ws (m + 1) new

        w : View
        w = record v { events = suc v.events; noted = set v.noted m new; noted_at = set v.noted_at m (suc v.events) }

        same_epoch : epoch us ≡ epoch ws
        same_epoch = get_or-set_other ws (m + 1) 0 new 0 (λ e. omega arith)

        same_word : (i : ℕ) → mark_word methods us i ≡ mark_word methods ws i
        same_word i = get_or-set_other ws (m + 1) (methods + 1 + i) new 0 (λ e. omega (arith, may.0))

        same_marks : (k : ℕ) → marks methods us k ≡ marks methods ws k
        same_marks k = ap (λ w. is_set w (k % 64)) (same_word (k / 64))

        here_settled : settled us m ≡ max (settled ws m) (v.epoch + 1)
        here_settled = get_or-set_same ws (m + 1) new 0 (omega (arith, kept.sound.many, may.0))

        other_settled : (q : ℕ) → q ≢ m → settled us q ≡ settled ws q
        other_settled q d = get_or-set_other ws (m + 1) (q + 1) new 0 (λ e. d (omega arith))

        later : AreLater ws us
        later =
            record {
              more = λ k e. same_marks k ∙ e;
              epoch = omega (arith, same_epoch);
              settled = λ q h. elim (cases_eq q m) [
                | inl e ↦ subst (λ n. settled ws n ≤ settled us n) (sym e) (omega (arith, here_settled))
                | inr d ↦ omega (arith, other_settled q d)
              ];
            }

        counted : growing (set vs id w) ≡ growing vs
        counted = omega (arith, sum_at digit vs id v w here)

        fresh : (u : View) → Fits methods words forces ws (growing vs) u → u.epoch ≡ epoch us → growing (set vs id w) ≡ 0 → (i : ℕ) → u.epoch_at < slice_index u.look_at i → slice_index u.look i ≡ mark_word methods us i
        fresh u f e none i h = f.fresh (e ∙ same_epoch) (sym counted ∙ none) i h ∙ sym (same_word i)

        -- where its epoch is the epoch, the seat's look is all the marks
        look_is_all : v.epoch ≡ epoch ws → growing vs ≡ 0 → IsWithin (marks methods us) (has v.look)
        look_is_all e none k marked =
            let below : k < 64 * words = marks_below methods ws words k kept.sound.many (sym (same_marks k) ∙ marked) in
            let at : k / 64 < words = quotient_below k words below in
            ap (λ w. is_set w (k % 64)) (fit.fresh e none (k / 64) (may.1.loaded (k / 64) at)) ∙ sym (same_marks k) ∙ marked

        closes : growing (set vs id w) ≡ 0 → (q : ℕ) → q < methods → settled us q ≡ epoch us + 1 → still q (marks methods us)
        closes none q h e =
            elim (cases_eq (settled ws q) (epoch ws + 1)) [
              | inl before ↦ subst (still q) (fun_ext (λ k. sym (same_marks k))) (kept.sound.quiet (sym counted ∙ none) q h before)
              | inr not_before ↦ elim (cases_eq q m) [
                | inl is ↦
                    let e_here : settled us m ≡ epoch us + 1 = subst (λ n. settled us n ≡ epoch us + 1) is e in
                    let not_here : settled ws m ≢ epoch ws + 1 = subst (λ n. settled ws n ≢ epoch ws + 1) is not_before in
                    let now : v.epoch ≡ epoch ws = omega (arith, e_here, here_settled, same_epoch, not_here) in
                    let all : has v.look ≡ marks methods us = fun_ext (λ k. same_tests (has v.look k) (marks methods us k) (λ t. same_marks k ∙ fit.looked k t) (look_is_all now (sym counted ∙ none) k)) in
                    subst (λ n. still n (marks methods us)) (sym is) (subst (still m) all may.2)
                | inr d ↦ absurd (not_before (sym (other_settled q d) ∙ e ∙ ap (λ n. n + 1) same_epoch))
              ]
            ]

        sound : AreSound methods words forces still us (growing (set vs id w))
        sound =
            record {
              many = length-set ws (m + 1) new ∙ kept.sound.many;
              few = kept.sound.few;
              forced = λ c closed k e. kept.sound.forced c closed k (sym (same_marks k) ∙ e);
              raises = omega (arith, same_epoch, counted, kept.sound.raises, count_below-same (marks methods us) (marks methods ws) (64 * words) (λ k h. same_marks k));
              settles = λ q h. elim (cases_eq q m) [
                | inl e ↦ subst (λ n. settled us n ≤ epoch us + 1) (sym e) (omega (arith, here_settled, same_epoch, kept.sound.settles m may.0, fit.began, fit.found))
                | inr d ↦ omega (arith, same_epoch, other_settled q d, kept.sound.settles q h)
              ];
              quiet = closes;
            }

    -- ---- seats are split and joined; the words are the same

    pub splits : 1 < v.parts → v.grows ≡ false → IsKept methods words forces still seats ws (set vs id (kept_part v) ++ given_part v ∷ [])
    splits several idle =
        record {
          sound = subst (AreSound methods words forces still ws) (sym counted) kept.sound;
          raised = λ bound all. kept.raised bound (λ j u at. elim (cases_eq j id) [
            | inl e ↦ subst (λ (x : View). x.raised ≤ bound) (same_some v u (sym here ∙ ap (get_elem? vs) (sym e) ∙ at)) (all id (kept_part v) (at_longer (set vs id (kept_part v)) (given_part v ∷ []) id (kept_part v) (set_again_here vs id v (kept_part v) here)))
            | inr d ↦ all j u (at_longer (set vs id (kept_part v)) (given_part v ∷ []) j u (set_else vs id j (kept_part v) d ∙ at))
          ]);
          shared = omega (arith, sum_by_push part (set vs id (kept_part v)) (given_part v), sum_at part vs id v (kept_part v) here, kept.shared);
          each = λ j u at. subst (λ n. Fits methods words forces ws n u) (sym counted) (elim (at_snoc (set vs id (kept_part v)) (given_part v) u j at) [
            | inl was ↦ elim (at_set vs id j (kept_part v) u was) [
              | inl (e, is) ↦ subst (λ (x : View). Fits methods words forces ws (growing vs) x) is (with_parts (suc v.events) (v.parts - 1) (omega arith) (omega arith))
              | inr (d, old) ↦ kept.each j u old
            ]
            | inr is ↦ subst (λ (x : View). Fits methods words forces ws (growing vs) x) is (with_parts v.events 1 (omega arith) (omega arith))
          ]);
        }
      where
        counted : growing (set vs id (kept_part v) ++ given_part v ∷ []) ≡ growing vs
        counted = omega (arith, sum_by_push digit (set vs id (kept_part v)) (given_part v), sum_at digit vs id v (kept_part v) here, ap {B = ℕ} (λ (b : Bool). cond b 1 0) idle)

        with_parts : (events parts : ℕ) → v.events ≤ events → 0 < parts → Fits methods words forces ws (growing vs) (record v { events = events; parts = parts })
        with_parts events parts more any =
            record {
              marked = fit.marked;
              looked = fit.looked;
              began = fit.began;
              found = fit.found;
              raised = fit.raised;
              noted = fit.noted;
              left = fit.left;
              shape = fit.shape;
              loaded = λ i. omega (arith, fit.loaded i);
              fresh = fit.fresh;
              idle = λ none. absurd (omega arith);
            }

    pub joins : (other : ℕ) (w : View) → other ≢ id → get_elem? vs other ≡ some w → 0 < v.parts → v.grows ≡ false → w.grows ≡ false → IsKept methods words forces still seats ws (set (set vs id (joined v w)) other spent)
    joins other w apart at_other mine idle idle_other =
        record {
          sound = subst (AreSound methods words forces still ws) (sym counted) kept.sound;
          raised = λ bound all. kept.raised bound (λ j u at. let most = all id (joined v w) keeper in elim (cases_eq j id) [
            | inl e ↦ subst (λ (x : View). x.raised ≤ bound) (same_some v u (sym here ∙ ap (get_elem? vs) (sym e) ∙ at)) (omega (arith, most))
            | inr d ↦ elim (cases_eq j other) [
              | inl e ↦ subst (λ (x : View). x.raised ≤ bound) (same_some w u (sym at_other ∙ ap (get_elem? vs) (sym e) ∙ at)) (omega (arith, most))
              | inr d' ↦ all j u (set_else (set vs id (joined v w)) other j spent d' ∙ set_else vs id j (joined v w) d ∙ at)
            ]
          ]);
          shared = omega (arith, sum_at part (set vs id (joined v w)) other w spent unchanged, sum_at part vs id v (joined v w) here, kept.shared);
          each = λ j u at. subst (λ n. Fits methods words forces ws n u) (sym counted) (elim (at_set (set vs id (joined v w)) other j spent u at) [
            | inl (e, is) ↦ subst (λ (x : View). Fits methods words forces ws (growing vs) x) is fits_spent
            | inr (d, was) ↦ elim (at_set vs id j (joined v w) u was) [
              | inl (e, is) ↦ subst (λ (x : View). Fits methods words forces ws (growing vs) x) is fits_joined
              | inr (d', old) ↦ kept.each j u old
            ]
          ]);
        }
      where
        their : Fits methods words forces ws (growing vs) w
        their = kept.each other w at_other

        unchanged : get_elem? (set vs id (joined v w)) other ≡ some w
        unchanged = set_else vs id other (joined v w) apart ∙ at_other

        keeper : get_elem? (set (set vs id (joined v w)) other spent) id ≡ some (joined v w)
        keeper = set_else (set vs id (joined v w)) other id spent (λ e. apart (sym e)) ∙ set_again_here vs id v (joined v w) here

        counted : growing (set (set vs id (joined v w)) other spent) ≡ growing vs
        counted = omega (arith, sum_at digit (set vs id (joined v w)) other w spent unchanged, sum_at digit vs id v (joined v w) here, ap {B = ℕ} (λ (b : Bool). cond b 1 0) idle, ap {B = ℕ} (λ (b : Bool). cond b 1 0) idle_other)

        fits_joined : Fits methods words forces ws (growing vs) (joined v w)
        fits_joined =
            record {
              marked = both_within v.marks w.marks (marks methods ws) fit.marked their.marked;
              looked = fit.looked;
              began = fit.began;
              found = fit.found;
              raised = omega (arith, fit.raised, their.raised);
              noted = fit.noted;
              left = λ m h. omega (arith, fit.left m h, their.left m h);
              shape = fit.shape;
              loaded = λ i. omega (arith, fit.loaded i);
              fresh = fit.fresh;
              idle = λ none. absurd (omega arith);
            }

        fits_spent : Fits methods words forces ws (growing vs) spent
        fits_spent = fits_newcomer 0 0 0 ws (growing vs)

    -- ---- any event

    -- a word that is only loaded stays
    loaded_word : (at : ℕ) (w : View) → IsKept methods words forces still seats ws (set vs id w) → IsKept methods words forces still seats (set ws at (slice_index ws at)) (set vs id w)
    loaded_word at w h = subst (λ us. IsKept methods words forces still seats us (set vs id w)) (sym (set-get_or ws at 0)) h

    word_event : (e : Event) → 0 < v.parts → slice_index ws (place methods e) < 2 ^ 64 → May methods words forces still v e → IsKept methods words forces still seats (set ws (place methods e) (written v e (slice_index ws (place methods e)))) (set vs id (seen v e (slice_index ws (place methods e))))
    unfolding now
    word_event begins mine low may = loaded_word 0 _ (seen_more _ refl refl (omega arith) (fits_begins ws (growing vs) v fit mine))
    word_event (loads i) mine low may = loaded_word (methods + 1 + i) _ (seen_more _ refl refl (omega arith) (fits_loads ws (growing vs) v fit mine i))
    word_event (notes m) mine low may = loaded_word (m + 1) _ (seen_more _ refl refl (omega arith) (fits_noting ws (growing vs) v fit mine m (settled ws m) (suc v.events) (omega arith)))
    word_event asks mine low may = loaded_word 0 _ (seen_more _ refl refl (omega arith) (fits_asks ws (growing vs) v fit mine v.left fit.left))
    word_event leaves mine low may = loaded_word 0 _ (seen_more _ refl refl (omega arith) (fits_leaves ws (growing vs) v fit mine may))
    word_event raises mine low may = raises_once may mine
    word_event (settles m) mine low may = settles_method m mine may
    word_event (sets m i bits) mine low may =
        elim (cases_eq (bit_or (mark_word methods ws i) bits) (mark_word methods ws i)) [
          | inl same ↦
              subst (λ us. IsKept methods words forces still seats us (set vs id (seen v (sets m i bits) (mark_word methods ws i))))
              (sym (ap (set ws (methods + 1 + i)) same ∙ set-get_or ws (methods + 1 + i) 0))
              (subst (λ b. IsKept methods words forces still seats ws (set vs id (after_bits v i bits (mark_word methods ws i) b))) (sym (eq-eqb (bit_or (mark_word methods ws i) bits) (mark_word methods ws i) same)) (none same))
          | inr other ↦
              subst (λ b. IsKept methods words forces still seats (set ws (methods + 1 + i) (bit_or (mark_word methods ws i) bits)) (set vs id (after_bits v i bits (mark_word methods ws i) b))) (sym (ne_eqb (bit_or (mark_word methods ws i) bits) (mark_word methods ws i) other)) (more other)
        ]
      where
        none : bit_or (mark_word methods ws i) bits ≡ mark_word methods ws i → IsKept methods words forces still seats ws (set vs id (after_bits v i bits (mark_word methods ws i) true))
        none same = sets_none m i bits may low mine same

        more : bit_or (mark_word methods ws i) bits ≢ mark_word methods ws i → IsKept methods words forces still seats (set ws (methods + 1 + i) (bit_or (mark_word methods ws i) bits)) (set vs id (after_bits v i bits (mark_word methods ws i) false))
        more other = sets_some m i bits may low mine other

  pub event_keeps : (seats : ℕ) (ws : List ℕ) (vs : List View) (us : List ℕ) (ns : List View) → IsKept methods words forces still seats ws vs → Happens methods words forces still ws vs us ns → IsKept methods words forces still seats us ns
  event_keeps seats ws vs us ns kept (at_word id v e here mine low may us_are ns_are) =
      subst (λ (x : List ℕ). IsKept methods words forces still seats x ns) (sym us_are)
      (subst (λ (y : List View). IsKept methods words forces still seats (set ws (place methods e) (written v e (slice_index ws (place methods e)))) y) (sym ns_are) (word_event seats ws vs kept id v here e mine low may))
  event_keeps seats ws vs us ns kept (by_split id v here several idle us_are ns_are) =
      subst (λ (x : List ℕ). IsKept methods words forces still seats x ns) (sym us_are)
      (subst (λ (y : List View). IsKept methods words forces still seats ws y) (sym ns_are) (splits seats ws vs kept id v here several idle))
  event_keeps seats ws vs us ns kept (by_join id other v w here apart there mine idle idle_other us_are ns_are) =
      subst (λ (x : List ℕ). IsKept methods words forces still seats x ns) (sym us_are)
      (subst (λ (y : List View). IsKept methods words forces still seats ws y) (sym ns_are) (joins seats ws vs kept id v here other w apart there mine idle idle_other))

  -- ---- from the start on

  pub opening_kept : (seats : ℕ) → words < 2 ^ 32 → IsKept methods words forces still seats (replicate (methods + 1 + words) 0) (newcomer methods words seats ∷ [])
  opening_kept seats few =
      record {
        sound = record {
          many = length-replicate {A = ℕ} (methods + 1 + words) 0;
          few = few;
          forced = λ c closed k e. absurd (false≢true (sym (no_marks k) ∙ e));
          raises = omega (arith, zero_at 0);
          settles = λ m h. omega (arith, zero_at (m + 1));
          quiet = λ none m h e. absurd (omega (arith, e, zero_at 0, zero_at (m + 1)));
        };
        raised = λ bound all. omega (arith, zero_at 0);
        shared = omega arith;
        each = one;
      }
    where
      zero_at : (i : ℕ) → slice_index (replicate (methods + 1 + words) 0) i ≡ 0
      zero_at = get_or-replicate_same (methods + 1 + words)

      no_marks : (k : ℕ) → marks methods (replicate (methods + 1 + words) 0) k ≡ false
      no_marks k = ap (λ w. is_set w (k % 64)) (zero_at (methods + 1 + k / 64)) ∙ is_set-zero (k % 64)

      one : (id : ℕ) (v : View) → get_elem? (newcomer methods words seats ∷ []) id ≡ some v → Fits methods words forces (replicate (methods + 1 + words) 0) (growing (newcomer methods words seats ∷ [])) v
      one zero v e = subst (λ (x : View). Fits methods words forces (replicate (methods + 1 + words) 0) (growing (newcomer methods words seats ∷ [])) x) (same_some (newcomer methods words seats) v e) (fits_newcomer methods words seats (replicate (methods + 1 + words) 0) (growing (newcomer methods words seats ∷ [])))
      one (suc id) v e = absurd (some-ne-none v (sym e))

  pub run_keeps : (seats : ℕ) (ws : List ℕ) (vs : List View) → words < 2 ^ 32 → Follows methods words forces still seats ws vs → IsKept methods words forces still seats ws vs
  run_keeps seats us ns few (opened ws vs ws_are vs_are) =
      subst (λ (x : List ℕ). IsKept methods words forces still seats x vs) (sym ws_are)
      (subst (λ (y : List View). IsKept methods words forces still seats (replicate (methods + 1 + words) 0) y) (sym vs_are) (opening_kept seats few))
  run_keeps seats last view few (after ws vs us ns run event) = event_keeps seats ws vs us ns (run_keeps seats ws vs few run) event
