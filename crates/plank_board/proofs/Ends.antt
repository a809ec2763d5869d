-- Where every seat has left, the marks are the least set.
use Rattle.std.proofs.Common.{◌≡◌, ℕ, ◌+◌, ◌-◌, ◌<◌, ◌≤◌, cond, Bool, false, List, length, set, slice_index, sym, ◌∙◌, ap, subst, inl, inr, arith}
use Rattle.std.proofs.Math.Path.{fun_ext}
use Rattle.std.proofs.lemmas.Bool.{cases_eq, cases_lt}
use mathlib.Core.Option.{some, some-injective}
use lib.ListN.{get_elem?}
use Rattle.atomic_table.proofs.Lists.{set_else}
use Rattle.plank_bits.specs.Words.{has, IsWithin}
use Rattle.plank_bits.specs.Forced.{IsLeast}
use Rattle.plank_board.specs.declared.views.View.{View}
use Rattle.plank_board.specs.Words.{epoch, settled, mark_word, marks}
use Rattle.plank_board.specs.Stills.{IsClosing, AreStill}
use Rattle.plank_board.specs.Events.{spent}
use Rattle.plank_board.specs.Rule.{parts_of, AreForced, IsKept, HaveLeft}
use Rattle.plank_board.proofs.Places.{has_marks}
use Rattle.plank_board.proofs.Sums.{sum_at, part_of_sum, sum_none}

module _ (methods words : ℕ) (forces : ℕ → (ℕ → Bool) → ℕ → Type 0) (still : ℕ → (ℕ → Bool) → Type 0) (seats : ℕ) (ws : List ℕ) (vs : List View) (kept : IsKept methods words forces still seats ws vs) where
  pub left_are_still : HaveLeft vs → AreStill still methods (marks methods ws)
  left_are_still left m below =
      kept.sound.quiet left.grown m below (all_settled m below)
    where
      -- a lower settled word would bound all leavings, so all raises, so the epoch
      not_lower : (m : ℕ) → m < methods → settled ws m < epoch ws + 1 → ⊥
      not_lower m below low =
          let one = left.some_left in
          let first : one.1.left ≤ settled ws m = (kept.each one.0 one.1 one.2).left m below in
          let bound : epoch ws ≤ epoch ws - 1 = kept.raised (epoch ws - 1) (λ id v at. elim (cases_lt 0 v.raised) [
            | inl ever ↦ omega (arith, left.later id v at ever, (kept.each id v at).left m below)
            | inr none ↦ omega arith
          ]) in
          omega (arith, first, bound, one.3)

      all_settled : (m : ℕ) → m < methods → settled ws m ≡ epoch ws + 1
      all_settled m below =
          elim (cases_lt (settled ws m) (epoch ws + 1)) [
            | inl low ↦ absurd (not_lower m below low)
            | inr high ↦ omega (arith, high, kept.sound.settles m below)
          ]

  pub left_is_least : IsClosing forces still methods → HaveLeft vs → IsLeast forces methods (marks methods ws)
  left_is_least closing left =
      record {
        closed = λ k (m, below, forced). closing m k (marks methods ws) below (left_are_still left m below) forced;
        within = λ b closed k e. kept.sound.forced b closed k e;
      }

  -- a seat with all parts that left at its last raise or later stands for all
  pub last_has_left : (id : ℕ) (v : View) → get_elem? vs id ≡ some v → v.parts ≡ seats → v.grows ≡ false → v.raised < v.left → HaveLeft vs
  last_has_left id v here all idle left =
      record {
        some_left = (id, v, here, omega arith);
        grown = sum_none (λ (u : View). cond u.grows 1 0) vs (λ j u at. ap {B = ℕ} (λ (b : Bool). cond b 1 0) (rest j u at).0);
        later = λ j u at. (rest j u at).1;
      }
    where
      none : parts_of (set vs id spent) ≡ 0
      none = omega (arith, sum_at (λ (u : View). u.parts) vs id v spent here, kept.shared)

      rest : (j : ℕ) (u : View) → get_elem? vs j ≡ some u → (u.grows ≡ false) × (0 < u.raised → u.raised < u.left)
      rest j u at =
          elim (cases_eq j id) [
            | inl e ↦
                let is : v ≡ u = some-injective v u (sym here ∙ ap (get_elem? vs) (sym e) ∙ at) in
                subst (λ (x : View). (x.grows ≡ false) × (0 < x.raised → x.raised < x.left)) is (idle, λ ever. left)
            | inr d ↦
                let no_parts : u.parts ≡ 0 = omega (arith, part_of_sum (λ (x : View). x.parts) (set vs id spent) j u (set_else vs id j spent d ∙ at), none) in
                let is_idle = (kept.each j u at).idle no_parts in
                (is_idle.0, λ ever. absurd (omega (arith, is_idle.1, ever)))
          ]

-- ---- the words that are left when the board is closed

module _ (methods words : ℕ) (forces : ℕ → (ℕ → Bool) → ℕ → Type 0) (still : ℕ → (ℕ → Bool) → Type 0) (seats : ℕ) (ws : List ℕ) (vs : List View) (kept : IsKept methods words forces still seats ws vs) (id : ℕ) (v : View) (here : get_elem? vs id ≡ some v) (last : List ℕ) (size : length last ≡ words) (copied : (j : ℕ) → j < words → slice_index last j ≡ mark_word methods ws j) where
  same : (k : ℕ) → has last k ≡ marks methods ws k
  same = has_marks methods words ws last kept.sound.many size copied

  pub closed_seen : IsWithin (has v.marks) (has last)
  closed_seen k e = same k ∙ (kept.each id v here).marked k e

  pub closed_forced : AreForced methods words forces (has last)
  closed_forced c closed k e = kept.sound.forced c closed k (sym (same k) ∙ e)

  one : marks methods ws ≡ has last
  one = fun_ext (λ k. sym (same k))

  module _ (all : v.parts ≡ seats) (idle : v.grows ≡ false) (left : v.raised < v.left) where
    all_left : HaveLeft vs
    all_left = last_has_left methods words forces still seats ws vs kept id v here all idle left

    pub closed_still : AreStill still methods (has last)
    closed_still = subst (AreStill still methods) one (left_are_still methods words forces still seats ws vs kept all_left)

    pub closed_least : IsClosing forces still methods → IsLeast forces methods (has last)
    closed_least closing = subst (IsLeast forces methods) one (left_is_least methods words forces still seats ws vs kept closing all_left)
