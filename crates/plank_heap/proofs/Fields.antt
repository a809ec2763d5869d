-- The first field that a walk goes through, in a loop over the fields.
use Rattle.std.proofs.Common.{◌≡◌, ◌⊎◌, ℕ, zero, suc, ◌+◌, ◌<◌, ◌≤◌, Bool, true, false, cond, List, [], ◌∷◌, length, get_or, drop, slice_get, Option, Some, None, refl, sym, ◌∙◌, ap, inl, inr}
use Rattle.std.proofs.lemmas.Option.{none-some, same_Some, slice_get_within, get_or_from_slice_get}
use Rattle.std.proofs.lemmas.List.{drop_all}
use Rattle.plank_base.specs.declared.keys.NodeId.{NodeId}
use Rattle.plank_prog.specs.declared.headers.Pointer.{Pointer}
use Rattle.plank_prog.proofs.Rests.{rest-cons}
use Rattle.plank_heap.specs.Walks.{first_admitted}

decided : (b : Bool) (t : ℕ) (rest : Option ℕ) (n : ℕ) → cond b (Some t) None ≡ Some n → cond b (Some t) rest ≡ Some n
decided true t rest n found = found
decided false t rest n found = absurd (none-some n found)

taken : (b : Bool) (t : ℕ) (rest : Option ℕ) (m : ℕ) → cond b (Some t) rest ≡ Some m → (t ≡ m) ⊎ (rest ≡ Some m)
taken true t rest m found = inl (same_Some t m found)
taken false t rest m found = inr found

skipped : (b : Bool) (t : ℕ) (rest : Option ℕ) → cond b (Some t) None ≡ None → cond b (Some t) rest ≡ rest
skipped true t rest none = absurd (none-some t (sym none))
skipped false t rest none = refl

module _ (admitting : Pointer → Bool) where
  -- a field that is gone through decides
  chosen : (p : Pointer) (to : Option NodeId) (ps : List Pointer) (ts : List (Option NodeId)) (n : ℕ) → first_admitted admitting (p ∷ []) (to ∷ []) ≡ Some n → first_admitted admitting (p ∷ ps) (to ∷ ts) ≡ Some n
  chosen p None ps ts n found = absurd (none-some n found)
  chosen p (Some t) ps ts n found = decided (admitting p) t.0 (first_admitted admitting ps ts) n found

  -- a field that is not leaves it to the next ones
  passed : (p : Pointer) (to : Option NodeId) (ps : List Pointer) (ts : List (Option NodeId)) → first_admitted admitting (p ∷ []) (to ∷ []) ≡ None → first_admitted admitting (p ∷ ps) (to ∷ ts) ≡ first_admitted admitting ps ts
  passed p None ps ts none = refl
  passed p (Some t) ps ts none = skipped (admitting p) t.0 (first_admitted admitting ps ts) none

  module _ (ps : List Pointer) (ts : List (Option NodeId)) where
    fields_rest : (i : ℕ) (p : Pointer) (to : Option NodeId) → i < length ps → p ≡ get_or ps i p → slice_get ts i ≡ Some to → first_admitted admitting (drop i ps) (drop i ts) ≡ first_admitted admitting (p ∷ drop (i + 1) ps) (to ∷ drop (i + 1) ts)
    fields_rest i p to within same read =
        ap (λ xs. first_admitted admitting xs (drop i ts)) (rest-cons ps i p within same)
        ∙ ap (λ ys. first_admitted admitting (p ∷ drop (i + 1) ps) ys)
        (rest-cons ts i to (slice_get_within ts i to read) (sym (get_or_from_slice_get ts i to to read)))

    pub fields_stop : (i : ℕ) (p : Pointer) (to : Option NodeId) (n : ℕ) → i < length ps → p ≡ get_or ps i p → slice_get ts i ≡ Some to → first_admitted admitting (p ∷ []) (to ∷ []) ≡ Some n → first_admitted admitting (drop i ps) (drop i ts) ≡ first_admitted admitting ps ts → Some n ≡ first_admitted admitting ps ts
    fields_stop i p to n within same read found whole =
        sym (chosen p to (drop (i + 1) ps) (drop (i + 1) ts) n found) ∙ sym (fields_rest i p to within same read) ∙ whole

    pub fields_go_on : (i : ℕ) (p : Pointer) (to : Option NodeId) → i < length ps → p ≡ get_or ps i p → slice_get ts i ≡ Some to → first_admitted admitting (p ∷ []) (to ∷ []) ≡ None → first_admitted admitting (drop i ps) (drop i ts) ≡ first_admitted admitting ps ts → first_admitted admitting (drop (i + 1) ps) (drop (i + 1) ts) ≡ first_admitted admitting ps ts
    fields_go_on i p to within same read none whole =
        sym (passed p to (drop (i + 1) ps) (drop (i + 1) ts) none) ∙ sym (fields_rest i p to within same read) ∙ whole

    pub fields_end : (i : ℕ) → length ps ≤ i → first_admitted admitting (drop i ps) (drop i ts) ≡ first_admitted admitting ps ts → None ≡ first_admitted admitting ps ts
    fields_end i past whole = sym (ap (λ xs. first_admitted admitting xs (drop i ts)) (drop_all i ps past)) ∙ whole

-- a target that is chosen is where some field leads
pub target_listed : (admitting : Pointer → Bool) (ps : List Pointer) (ts : List (Option NodeId)) (m : ℕ) → first_admitted admitting ps ts ≡ Some m → (f : ℕ) × (to : NodeId) × (slice_get ts f ≡ Some (Some to)) × (to.0 ≡ m)
target_listed admitting [] ts m found = absurd (none-some m found)
target_listed admitting (p ∷ ps) [] m found = absurd (none-some m found)
target_listed admitting (p ∷ ps) (None ∷ ts) m found =
    let later = target_listed admitting ps ts m found in (suc later.0, later.1, later.2, later.3)
target_listed admitting (p ∷ ps) (Some t ∷ ts) m found =
    elim (taken (admitting p) t.0 (first_admitted admitting ps ts) m found) [
      | inl e ↦ (zero, t, refl, e)
      | inr rest ↦ let later = target_listed admitting ps ts m rest in (suc later.0, later.1, later.2, later.3)
    ]
