-- What giving an open part a value changes: who agrees, how many parts are open, and how it is taken back.
use Rattle.std.proofs.Common.{◌≡◌, ◌+◌, ◌<◌, ℕ, zero, suc, Bool, false, List, [], ◌∷◌, length, refl, sym, subst, ◌∙◌, ap, arith, is_none, cond, unwrap_or}
use Rattle.std.specs.Prelude.{Option, Some, None, slice_set}
use Rattle.std.proofs.Math.ListN.{set}
use Rattle.std.proofs.lemmas.List.{get_or-set_same}
use Rattle.std.proofs.lemmas.List.Sums.{sum_by-set}
use Rattle.plank_search.specs.Assignments.{value_at, IsOpen, open_count, with_value, Agrees, full_of, filled}

-- an open part is one of the list's
pub open-below : (values : List (Option Bool)) (part : ℕ) → IsOpen values part → part < length values
open-below [] part h = cc
open-below (x ∷ xs) zero h = omega arith
open-below (x ∷ xs) (suc part) h = let below : part < length xs = open-below xs part h in omega arith

-- the part reads as the value given
pub with_value-same : (values : List (Option Bool)) (part : ℕ) (value : Bool) → IsOpen values part → value_at (with_value values part value) part ≡ Some value
with_value-same values part value h = get_or-set_same values part (Some value) (Some false) (open-below values part h)

-- one open part fewer
pub with_value-fewer : (values : List (Option Bool)) (part : ℕ) (value : Bool) → IsOpen values part → open_count (with_value values part value) + 1 ≡ open_count values
with_value-fewer values part value h =
    let counted = sum_by-set (λ (x : Option Bool). cond (is_none x) 1 0) values part (Some value) (Some false) (open-below values part h) in
    let one_fewer = subst (λ (x : Option Bool). open_count (with_value values part value) + cond (is_none x) 1 0 ≡ open_count values + 0) h counted in
    omega arith

-- taken back, the values are as they were
pub with_value-reopened : (values : List (Option Bool)) (part : ℕ) (value : Bool) → IsOpen values part → slice_set (with_value values part value) part None ≡ values
with_value-reopened [] part value h = refl
with_value-reopened (x ∷ xs) zero value h = ap (λ y. y ∷ xs) (sym h)
with_value-reopened (x ∷ xs) (suc part) value h = ap (λ ys. x ∷ ys) (with_value-reopened xs part value h)

-- the open parts read as no in the filled list, the others as they are
pub filled-reads : (values : List (Option Bool)) (part : ℕ) → full_of (filled values) part ≡ unwrap_or (value_at values part) false
filled-reads [] part = refl
filled-reads (x ∷ xs) zero = refl
filled-reads (x ∷ xs) (suc part) = filled-reads xs part

-- the filled list agrees with the values
pub filled-agrees : (values : List (Option Bool)) → Agrees values (full_of (filled values))
filled-agrees values = record { decided = λ part value h. filled-reads values part ∙ ap (λ x. unwrap_or x false) h }
