-- The first obligation of the list that fails is the first of the program.
use Rattle.std.specs.Prelude.{◌≡◌, ℕ, ◌+◌, List, length, slice_get, Some}
use Rattle.std.proofs.Common.{sym, ◌∙◌, ap, subst, inl, inr, arith}
use Rattle.std.proofs.lemmas.Bool.{cases_eq}
use Rattle.std.proofs.lemmas.Option.{same_Some, slice_get_within}
use Rattle.plank_base.specs.declared.obligations.Obligation.{Obligation}
use Rattle.plank_fact.specs.Outlines.{Outline}
use Rattle.plank_fact.specs.ObligationList.{obligations}
use Rattle.plank_fact.specs.Obligations.{Fails, AllHold, IsFirstFailing}
use Rattle.plank_judge.specs.Verdicts.{NoneOf, IsFirstOf}

module _ (O : Outline) where
  pub none_yet : (list : List Obligation) → NoneOf O list 0
  none_yet list i o below there fails = absurd (omega arith)

  pub one_more : (list : List Obligation) (n : ℕ) (o : Obligation) → slice_get list n ≡ Some o → (Fails O o → ⊥) → NoneOf O list n → NoneOf O list (n + 1)
  one_more list n o at holds earlier i p below there fails =
      elim (cases_eq i n) [
        | inl same ↦ holds (subst (Fails O) (same_Some p o (sym there ∙ ap (slice_get list) same ∙ at)) fails)
        | inr other ↦ earlier i p (omega arith) there fails
      ]

  pub first_is : (list : List Obligation) (o : Obligation) → list ≡ obligations O.methods → IsFirstOf O list o → IsFirstFailing O o
  first_is list o same w = record {
    number = w.number;
    there = ap (λ xs. slice_get xs w.number) (sym same) ∙ w.there;
    fails = w.fails;
    first = λ i p below there. w.first i p below (ap (λ xs. slice_get xs i) same ∙ there);
  }

  pub all_hold : (list : List Obligation) → list ≡ obligations O.methods → NoneOf O list (length list) → AllHold O
  all_hold list same none i o there =
      let at : slice_get list i ≡ Some o = ap (λ xs. slice_get xs i) same ∙ there in
      none i o (slice_get_within list i o at) at
