-- What is claimed after claims are added.
use Rattle.std.proofs.Common.{◌≡◌, ℕ, zero, suc, ◌<◌, ◌≤◌, true, List, [], ◌∷◌, ◌++◌, map, length, drop, Result, refl, sym, ◌∙◌, ap, subst, inl, inr, arith}
use Rattle.std.specs.Prelude.{OnOk, Contains, slice_index_or, Some, None}
use Rattle.std.proofs.lemmas.List.{drop_all}
use Rattle.std.proofs.lemmas.List.Elements.{Contains-push, Contains-append_left, Contains-append_right, Contains-push_cases, Contains-append_cases}
use Rattle.plank_prog.specs.declared.headers.Header.{Header}
use Rattle.plank_pic.specs.declared.literals.Literal.{Literal}
use Rattle.plank_pic.specs.Pictures.{Picture}
use Rattle.plank_query.specs.declared.situations.Situation.{Situation}
use Rattle.plank_query.specs.declared.predicates.Claim.{Claim}
use Rattle.plank_query.specs.declared.predicates.Predicate.{Predicate}
use Rattle.plank_query.specs.declared.predicates.Speaker.{Speaker}
use Rattle.plank_query.specs.Predicates.{holds, AreRight}
use Rattle.plank_claim.specs.Claims.{Adds}
use Rattle.plank_past.specs.Adding.{own_claim, AddsOne, AddsTrue, AddsGiven}

-- ---- one

pub adds_one : (old new : List Claim) (c : Claim) → new ≡ old ++ c ∷ [] → AddsOne old new c.predicate c.value
adds_one old new c is h = λ S p. (
  λ right. let w = subst (AreRight h S p) is right in ((λ d v. w d (Contains-append_left old (c ∷ []) d v)), w c (Contains-push old c)),
  λ both. subst (AreRight h S p) (sym is) (λ d v. elim (Contains-push_cases old c d v) [
    | inl was ↦ both.0 d was
    | inr same ↦ subst (λ (e : Claim). holds h S p e.predicate ≡ e.value) same both.1
  ]),
)

-- none, or one

pub adds_given_none : (old new : List Claim) → new ≡ old → AddsGiven old new None
adds_given_none old new is h = λ S p. (
  λ right. (subst (AreRight h S p) is right, refl),
  λ both. subst (AreRight h S p) (sym is) both.0,
)

pub adds_given_one : (old new : List Claim) (L : Literal) → new ≡ old ++ own_claim L ∷ [] → AddsGiven old new (Some L)
adds_given_one old new L is = adds_one old new (own_claim L) is

pub given_one : {T E : Type 0} (old new : List Claim) (L : Literal) (P : Predicate) (r : Result T E) → P ≡ Predicate.IsTrue Speaker.Own L → OnOk r (AddsOne old new P true) → OnOk r (AddsGiven old new (Some L))
given_one old new L P r is ok = subst (λ Q. OnOk r (AddsOne old new Q true)) is ok

-- ---- several

-- where all are passed, what is left adds nothing
pub all_passed : (those : List Literal) (i : ℕ) (old new : List Claim) → new ++ map own_claim (drop i those) ≡ old ++ map own_claim those → length those ≤ i → new ≡ old ++ map own_claim those
all_passed those i old new is past = sym (append_none new) ∙ sym (ap (λ xs. new ++ map own_claim xs) (drop_all i those past)) ∙ is
  where
    append_none : (xs : List Claim) → xs ++ [] ≡ xs
    append_none [] = refl
    append_none (x ∷ xs) = ap (λ ys. x ∷ ys) (append_none xs)

own_in_at : (those : List Literal) (L : Literal) (k : ℕ) → k < length those → slice_index_or those k L ≡ L → Contains (map own_claim those) (own_claim L)
own_in_at [] L k lt e = absurd (omega (arith, lt))
own_in_at (l ∷ ls) L zero lt e = (0, omega arith, ap own_claim e)
own_in_at (l ∷ ls) L (suc k) lt e = let w = own_in_at ls L k (omega (arith, lt)) e in (suc w.0, (let below = w.1 in omega (arith, below)), w.2)

own_in : (those : List Literal) (L : Literal) → Contains those L → Contains (map own_claim those) (own_claim L)
own_in those L w = own_in_at those L w.0 w.1 w.2

-- a claim of the list is of one of these
record IsOwnOf (those : List Literal) (c : Claim) : Type 0 where
  pub literal : Literal
  pub there : Contains those literal
  pub is : c ≡ own_claim literal

in_own_at : (those : List Literal) (c : Claim) (k : ℕ) → k < length (map own_claim those) → slice_index_or (map own_claim those) k c ≡ c → IsOwnOf those c
in_own_at [] c k lt e = absurd (omega (arith, lt))
in_own_at (l ∷ ls) c zero lt e = record { literal = l; there = (0, omega arith, refl); is = sym e }
in_own_at (l ∷ ls) c (suc k) lt e =
    let w = in_own_at ls c k (omega (arith, lt)) e in
    record { literal = w.literal; there = (suc w.there.0, (let below = w.there.1 in omega (arith, below)), w.there.2); is = w.is }

in_own : (those : List Literal) (c : Claim) → Contains (map own_claim those) c → IsOwnOf those c
in_own those c w = in_own_at those c w.0 w.1 w.2

pub adds_true : (old new : List Claim) (those : List Literal) → new ≡ old ++ map own_claim those → AddsTrue old new those
adds_true old new those is h = λ S p. (
  λ right. let w = subst (AreRight h S p) is right in
      ((λ d v. w d (Contains-append_left old (map own_claim those) d v)), λ L v. w (own_claim L) (Contains-append_right old (map own_claim those) (own_claim L) (own_in those L v))),
  λ both. subst (AreRight h S p) (sym is) (λ d v. elim (Contains-append_cases old (map own_claim those) d v) [
    | inl was ↦ both.0 d was
    | inr more ↦ (let w = in_own those d more in subst (λ (e : Claim). holds h S p e.predicate ≡ e.value) (sym w.is) (both.1 w.literal w.there))
  ]),
)

-- ---- one after the other

module _ (h : Header) where
  pub adds_two : (M N : Situation → Picture → Type 0) (a b c : List Claim) → Adds h a b M → Adds h b c N → Adds h a c (λ S p. M S p × N S p)
  adds_two M N a b c first second = λ S p. (
    λ right. let w = (second S p).0 right in let v = (first S p).0 w.0 in (v.0, (v.1, w.1)),
    λ all. (second S p).1 ((first S p).1 (all.0, all.1.0), all.1.1),
  )
