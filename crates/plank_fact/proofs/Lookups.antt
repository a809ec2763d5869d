-- What `fact` and `number` look up, in the table of a method of a program.
use Rattle.std.specs.Prelude.{◌≡◌, ◌+◌, ◌<◌, ℕ, List, get_or, slice_get, Option, Some, None, option_map}
use Rattle.std.specs.Option.{option_and_then}
use Rattle.std.proofs.Common.{refl, sym, ◌∙◌, ap, subst, arith}
use Rattle.std.proofs.lemmas.List.Sums.{sum_by_more}
use Rattle.std.proofs.lemmas.Option.{same_Some, none-some, slice_get-get_or}
use Rattle.plank_prog.specs.declared.headers.Header.{Header}
use Rattle.plank_prog.specs.declared.methods.Method.{Method}
use Rattle.plank_fact.specs.declared.facts.Fact.{Fact}
use Rattle.plank_fact.specs.declared.kinds.FactKind.{FactKind}
use Rattle.plank_fact.specs.declared.kinds.TheConstants.{FACT_KINDS}
use Rattle.plank_fact.specs.declared.layouts.Parts.{Parts}
use Rattle.plank_fact.specs.declared.layouts.Sizes.{Sizes}
use Rattle.plank_fact.specs.Tables.{name_count, facts_of, fact_at}
use Rattle.plank_fact.specs.Places.{kind_number, fact_of, kind_of, parts_of, sizes_of, layout_of, facts_within, size_of, IsPlace}
use Rattle.plank_fact.proofs.Numbered.{table_found, table_past, fact_found, stands_in, stands_by_kind, stands_by_parts}

-- a method with its sizes
record Called (h : Header) (methods : List Method) (m : ℕ) (s : Sizes) : Type 0 where
  method : Method
  called : slice_get methods m ≡ Some method
  sizes : s ≡ sizes_of h (name_count method)

called_so : (h : Header) (methods : List Method) (m : ℕ) (s : Sizes) → Some s ≡ option_map (λ method. sizes_of h (name_count method)) (slice_get methods m) → Called h methods m s
called_so h methods m s e = by_cases (slice_get methods m) refl e
  where
    by_cases : (o : Option Method) → slice_get methods m ≡ o → Some s ≡ option_map (λ method. sizes_of h (name_count method)) o → Called h methods m s
    by_cases (Some method) here e = record { method = method; called = here; sizes = same_Some s (sizes_of h (name_count method)) e }
    by_cases None here e = absurd (none-some s (sym e))

module _ (h : Header) (methods : List Method) (m : ℕ) (s : Sizes) (e : Some s ≡ option_map (λ method. sizes_of h (name_count method)) (slice_get methods m)) where
  its : (n : ℕ) → fact_at h methods m n ≡ slice_get (facts_of h (called_so h methods m s e).method) n
  its n = ap (option_and_then (λ method. slice_get (facts_of h method) n)) (called_so h methods m s e).called

  pub looked_up : (i rest n : ℕ) (k : FactKind) (p : Parts) → slice_get FACT_KINDS i ≡ Some k → IsPlace (layout_of s k) p rest → n ≡ facts_within s i + rest
      → Some (fact_of k p) ≡ fact_at h methods m n
  looked_up i rest n k p there place is =
      let w = called_so h methods m s e in
      sym (its n ∙ table_found h w.method k p rest i n there (subst (λ v. IsPlace (layout_of v k) p rest) w.sizes place) (is ∙ ap (λ v. facts_within v i + rest) w.sizes))

  pub looked_past : (rest n : ℕ) → n ≡ facts_within s 32 + rest → None ≡ fact_at h methods m n
  looked_past rest n is =
      let w = called_so h methods m s e in
      let far : n ≡ facts_within (sizes_of h (name_count w.method)) 32 + rest = is ∙ ap (λ v. facts_within v 32 + rest) w.sizes in
      sym (its n ∙ table_past h w.method n (omega arith))

  pub number_found : (x : Fact) (k : FactKind) (place : ℕ) → kind_of x ≡ Some k → IsPlace (layout_of s k) (parts_of x) place
      → fact_at h methods m (facts_within s (kind_number k) + place) ≡ Some x
  number_found x k place kind there =
      let w = called_so h methods m s e in
      its (facts_within s (kind_number k) + place) ∙ ap (λ v. slice_get (facts_of h w.method) (facts_within v (kind_number k) + place)) w.sizes
      ∙ fact_found h w.method x k place kind (subst (λ v. IsPlace (layout_of v k) (parts_of x) place) w.sizes there)

  pub no_kind : (x : Fact) (n : ℕ) → kind_of x ≡ None → fact_at h methods m n ≡ Some x → ⊥
  no_kind x n none there =
      let w = called_so h methods m s e in
      let v = stands_in h w.method n x (sym (its n) ∙ there) in
      none-some v.kind (sym none ∙ stands_by_kind h w.method n x v)

  pub no_place : (x : Fact) (k : FactKind) (n : ℕ) → kind_of x ≡ Some k → ((place : ℕ) → IsPlace (layout_of s k) (parts_of x) place → ⊥) → fact_at h methods m n ≡ Some x → ⊥
  no_place x k n kind none there =
      let w = called_so h methods m s e in
      let v = stands_in h w.method n x (sym (its n) ∙ there) in
      let same : v.kind ≡ k = same_Some v.kind k (sym (stands_by_kind h w.method n x v) ∙ kind) in
      none v.place
      (subst (λ z. IsPlace (layout_of z k) (parts_of x) v.place) (sym w.sizes)
      (subst (λ z. IsPlace (layout_of (sizes_of h (name_count w.method)) z) (parts_of x) v.place) same
      (subst (λ z. IsPlace (layout_of (sizes_of h (name_count w.method)) v.kind) z v.place) (sym (stands_by_parts h w.method n x v)) v.counted)))

-- ---- kind after kind

pub kind_at : (i : ℕ) → i < 32 → slice_get FACT_KINDS i ≡ Some (get_or FACT_KINDS i FactKind.Same)
kind_at i below = slice_get-get_or FACT_KINDS i FactKind.Same below

pub facts_within-next : (s : Sizes) (i : ℕ) → i < 32 → facts_within s (i + 1) ≡ facts_within s i + size_of (layout_of s (get_or FACT_KINDS i FactKind.Same))
facts_within-next s i below = sum_by_more (λ k. size_of (layout_of s k)) FACT_KINDS i FactKind.Same below
