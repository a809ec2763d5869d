-- Where the table of facts has ended, no claim follows.
use Rattle.std.specs.Prelude.{◌≡◌, ℕ, ◌+◌, ◌≤◌, Bool, true, false, List, slice_get, Option, Some, None, if◌then◌else◌}
use Rattle.std.specs.Option.{option_and_then}
use Rattle.std.proofs.Common.{refl, sym, ◌∙◌, ap, inl, inr, arith}
use Rattle.std.proofs.lemmas.Option.{none-some, slice_get_cases, slice_get_past}
use Rattle.plank_prog.specs.declared.headers.Header.{Header}
use Rattle.plank_prog.specs.declared.methods.Method.{Method}
use Rattle.plank_fact.specs.declared.facts.Fact.{Fact}
use Rattle.plank_fact.specs.Tables.{facts_of, fact_at}
use Rattle.plank_query.specs.declared.predicates.Speaker.{Speaker}
use Rattle.plank_claim.specs.declared.known.Known.{Known}
use Rattle.plank_claim.specs.Claims.{claim_of_fact, claim_at}

list_ended : (fs : List Fact) (n i : ℕ) → slice_get fs n ≡ None → n ≤ i → slice_get fs i ≡ None
list_ended fs n i none from =
    elim (slice_get_cases fs n).1 [
      | inl w ↦ absurd (none-some w.0 (sym none ∙ w.2))
      | inr w ↦ let past = w.0 in slice_get_past fs i (omega arith)
    ]

module _ (h : Header) (methods : List Method) (m : ℕ) where
  table_ended : (n i : ℕ) → fact_at h methods m n ≡ None → n ≤ i → fact_at h methods m i ≡ None
  table_ended n i none from = by_method (slice_get methods m) none
    where
      by_method : (o : Option Method) → option_and_then (λ method. slice_get (facts_of h method) n) o ≡ None → option_and_then (λ method. slice_get (facts_of h method) i) o ≡ None
      by_method None e = refl
      by_method (Some method) e = list_ended (facts_of h method) n i e from

  pub none_past : (marks : ℕ → Bool) (first : ℕ) (speaker : Speaker) (known : Known) (n : ℕ) → fact_at h methods m n ≡ None → (i : ℕ) → n ≤ i → claim_at h methods m marks first speaker known i ≡ None
  none_past marks first speaker known n none i from = by_mark (marks (first + i))
    where
      by_mark : (b : Bool) → (if b then None else claim_of_fact speaker known (fact_at h methods m i)) ≡ None
      by_mark true = refl
      by_mark false = ap (claim_of_fact speaker known) (table_ended n i none from)
