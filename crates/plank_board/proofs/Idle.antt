-- Seats between calls, and seats that are made, split and joined.
use Rattle.std.proofs.Common.{◌≡◌, ℕ, ◌<◌, Bool, false, List, [], refl, sym, ◌∙◌, subst, arith}
use Rattle.std.proofs.lemmas.Bool.{false≢true}
use Rattle.std.proofs.lemmas.List.{length-replicate}
use Rattle.atomic_table.specs.Table.{Me, Splits, Joins}
use Rattle.atomic_table.proofs.Lists.{set_else}
use Rattle.plank_bits.specs.Forced.{IsMonotone}
use Rattle.plank_board.specs.declared.views.View.{View}
use Rattle.plank_board.specs.Events.{newcomer, kept_part, given_part, joined, spent}
use Rattle.plank_board.specs.Seats.{Sits, IsIdle}
use Rattle.plank_board.specs.Plays.{Holds}
use Rattle.plank_board.proofs.Places.{length-bits_of_both, both_within, within_both}
use Rattle.plank_board.proofs.Keeps.{get_or-replicate_same, no_mark, splits, joins}

module _ (methods words : ℕ) (forces : ℕ → (ℕ → Bool) → ℕ → Type 0) where
  pub idle_by : (me : Me (Unit {0}) View) (w : View) (epoch : ℕ) (look noted : List ℕ) → me ≡ (w, []) → Sits methods words forces w → w.grows ≡ false → epoch ≡ w.epoch → look ≡ w.look → noted ≡ w.noted → IsIdle methods words forces me epoch look noted
  idle_by me w epoch look noted is sits idle e l n =
      subst (λ (x : Me (Unit {0}) View). IsIdle methods words forces x epoch look noted) (sym is) (refl, sits, idle, e, l, n)

  pub sits_newcomer : (parts : ℕ) → 0 < parts → Sits methods words forces (newcomer methods words parts)
  sits_newcomer parts mine =
      let size = length-replicate {A = ℕ} words 0 in
      let count = length-replicate {A = ℕ} methods 0 in
      record {
        parts = mine;
        shape = (size, size, size, size, size, count, count);
        forced = λ c closed k e. absurd (false≢true (sym (no_mark words k) ∙ e));
        looked = λ k e. e;
        began = omega arith;
        found = omega arith;
        raised = omega arith;
        noted = λ m h. omega (arith, get_or-replicate_same methods m);
      }

  pub sits_parts : (v : View) (events parts : ℕ) → 0 < parts → Sits methods words forces v → Sits methods words forces (record v { events = events; parts = parts })
  sits_parts v events parts mine s =
      record { parts = mine; shape = s.shape; forced = s.forced; looked = s.looked; began = s.began; found = s.found; raised = s.raised; noted = s.noted }

  pub sits_joined : (v w : View) → Sits methods words forces v → Sits methods words forces w → Sits methods words forces (joined v w)
  sits_joined v w s t =
      let h = s.shape in
      record {
        parts = omega (arith, s.parts);
        shape = (h.0, h.1, length-bits_of_both words v.marks w.marks h.2 t.shape.2, h.3, h.4, h.5, h.6);
        forced = λ c closed. both_within v.marks w.marks c (s.forced c closed) (t.forced c closed);
        looked = λ k e. within_both v.marks w.marks k (s.looked k e);
        began = s.began;
        found = s.found;
        raised = omega (arith, s.raised, t.raised);
        noted = s.noted;
      }

  module _ (still : ℕ → (ℕ → Bool) → Type 0) (monotone : IsMonotone forces methods) (seats : ℕ) where
    pub splits_kept : (id : ℕ) (v : View) → 1 < v.parts → v.grows ≡ false → Splits (Holds methods words forces still seats) id v (kept_part v) (given_part v)
    splits_kept id v several idle s kept here = splits methods words forces still monotone seats s.words s.views kept id v here several idle

    pub joins_kept : (id other : ℕ) (v w : View) → 0 < v.parts → v.grows ≡ false → w.grows ≡ false → Joins (Holds methods words forces still seats) id v other w (joined v w) spent
    joins_kept id other v w mine idle idle_other s kept here apart there =
        joins methods words forces still monotone seats s.words s.views kept id v here other w apart (sym (set_else s.views id other (joined v w) apart) ∙ there) mine idle idle_other
