-- Values that follow from others: one step after another, and the put of a value that follows.
use Rattle.std.proofs.Common.{◌≡◌, ℕ, zero, suc, ◌⊎◌, inl, inr, [], ◌∷◌, Bool, false, List, refl, sym, ◌∙◌, ap, arith}
use Rattle.std.specs.Prelude.{Option, Some, None}
use Rattle.std.proofs.lemmas.List.{get_or-set_other, length-set}
use Rattle.plank_search.specs.Assignments.{value_at, IsOpen, with_value, Agrees, Narrows}
use Rattle.plank_search.proofs.Assigning.{with_value-same, with_value-fewer}

-- what follows from what follows
pub Narrows-then : {m : (ℕ → Bool) → Type 0} {a b c : List (Option Bool)} → Narrows m a b → Narrows m b c → Narrows m a c
Narrows-then first second = record {
  keeps = λ full meets agrees. second.keeps full meets (first.keeps full meets agrees);
  within = λ full agrees. first.within full (second.within full agrees);
  not_wider = omega (arith, first.not_wider, second.not_wider);
  same_length = second.same_length ∙ first.same_length;
}

-- who agrees with the values after a put agreed before
pub with_value-within : (values : List (Option Bool)) (part : ℕ) (value : Bool) → IsOpen values part → (full : ℕ → Bool) → Agrees (with_value values part value) full → Agrees values full
with_value-within values part value open_part full agrees = record { decided = λ other known h. agrees.decided other known (unchanged other known h) }
  where
    differs : (other : ℕ) (known : Bool) → value_at values other ≡ Some known → other ≡ part → ⊥
    differs other known h e = let open_there : value_at values other ≡ None = rw e open_part in cc

    unchanged : (other : ℕ) (known : Bool) → value_at values other ≡ Some known → value_at (with_value values part value) other ≡ Some known
    unchanged other known h = get_or-set_other values part other (Some value) (Some false) (differs other known h) ∙ h

-- and gives the part its value
pub with_value-given : (values : List (Option Bool)) (part : ℕ) (value : Bool) → IsOpen values part → (full : ℕ → Bool) → Agrees (with_value values part value) full → full part ≡ value
with_value-given values part value open_part full agrees = agrees.decided part value (with_value-same values part value open_part)

-- what a part reads as after a put
written-cases : (values : List (Option Bool)) (part : ℕ) (value : Bool) (other : ℕ) (known : Bool) →
    value_at (with_value values part value) other ≡ Some known → ((other ≡ part) × (known ≡ value)) ⊎ (value_at values other ≡ Some known)
written-cases [] part value other known h = inr h
written-cases (x ∷ xs) zero value zero known h = inl (refl, cc)
written-cases (x ∷ xs) zero value (suc other) known h = inr h
written-cases (x ∷ xs) (suc part) value zero known h = inr h
written-cases (x ∷ xs) (suc part) value (suc other) known h =
    elim (written-cases xs part value other known h) [ inl e ↦ inl (ap suc e.0, e.1) | inr e ↦ inr e ]

-- who agreed and gives the part the value agrees after the put
pub with_value-agrees : (values : List (Option Bool)) (part : ℕ) (value : Bool) (full : ℕ → Bool) → Agrees values full → full part ≡ value → Agrees (with_value values part value) full
with_value-agrees values part value full agrees given = record {
  decided = λ other known h.
      elim (written-cases values part value other known h) [ inl e ↦ ap full e.0 ∙ given ∙ sym e.1 | inr e ↦ agrees.decided other known e ];
}

-- a put of a value that follows
pub with_value-narrows : {m : (ℕ → Bool) → Type 0} (values : List (Option Bool)) (part : ℕ) (value : Bool) → IsOpen values part →
    ((full : ℕ → Bool) → m full → Agrees values full → full part ≡ value) → Narrows m values (with_value values part value)
with_value-narrows values part value open_part follows = record {
  keeps = λ full meets agrees. with_value-agrees values part value full agrees (follows full meets agrees);
  within = λ full agrees. with_value-within values part value open_part full agrees;
  not_wider = omega (arith, with_value-fewer values part value open_part);
  same_length = length-set values part (Some value);
}
