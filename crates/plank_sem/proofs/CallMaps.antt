-- The pending calls after one is put in or taken out.
use Rattle.std.proofs.Common.{◌≡◌, ◌≢◌, ℕ, ◌⊎◌, Bool, true, false, cond, Option, Some, None, refl, sym, ◌∙◌, inl, inr}
use Rattle.std.specs.Ordering.{nat_cmp, eq_by_cmp}
use Rattle.std.specs.Cmp.{nat_cmp_total, unsigned_tied}
use Rattle.std.specs.FinMap.{get, insert, remove, get-insert, get-remove}
use Rattle.std.proofs.lemmas.Bool.{eqb-true, eqb-false}
use Rattle.std.proofs.lemmas.Option.{none-some}
use Rattle.plank_sem.specs.declared.calls.Call.{Call}
use Rattle.plank_sem.specs.Worlds.{Calls}

inserted_at : (same : Bool) (q k : ℕ) (call found : Call) (old : Option Call) → eq_by_cmp nat_cmp q k ≡ same → cond same (Some call) old ≡ Some found
    → ((q ≡ k) × (call ≡ found)) ⊎ ((q ≢ k) × (old ≡ Some found))
inserted_at true q k call found old e at = inl (eqb-true q k (sym (unsigned_tied q k) ∙ e), cc)
inserted_at false q k call found old e at = inr (eqb-false q k (sym (unsigned_tied q k) ∙ e), at)

-- a call that is found after an insertion is the one put in, or an old one
pub found_after_insert : (calls : Calls) (k : ℕ) (call : Call) (q : ℕ) (found : Call) → get (insert calls k call) q ≡ Some found
    → ((q ≡ k) × (call ≡ found)) ⊎ ((q ≢ k) × (get calls q ≡ Some found))
found_after_insert calls k call q found at =
    inserted_at (eq_by_cmp nat_cmp q k) q k call found (get calls q) refl (sym (get-insert nat_cmp_total calls k call q) ∙ at)

removed_at : (same : Bool) (q k : ℕ) (found : Call) (old : Option Call) → eq_by_cmp nat_cmp q k ≡ same → cond same None old ≡ Some found
    → (q ≢ k) × (old ≡ Some found)
removed_at true q k found old e at = absurd (none-some found at)
removed_at false q k found old e at = (eqb-false q k (sym (unsigned_tied q k) ∙ e), at)

-- a call that is found after a removal is an old one of another thread
pub found_after_remove : (calls : Calls) (k q : ℕ) (found : Call) → get (remove calls k) q ≡ Some found
    → (q ≢ k) × (get calls q ≡ Some found)
found_after_remove calls k q found at =
    removed_at (eq_by_cmp nat_cmp q k) q k found (get calls q) refl (sym (get-remove nat_cmp_total calls k q) ∙ at)
