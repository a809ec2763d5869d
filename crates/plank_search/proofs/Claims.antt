-- The claims of a question: put one after another, and what the answer to them says.
use Rattle.std.proofs.Common.{◌≡◌, ◌∙◌, ◌+◌, ◌<◌, ℕ, Bool, true, false, ◌&&◌, take, length, get_or, refl, ap}
use Rattle.std.specs.Prelude.{List, Option, if◌then◌else◌, not}
use Rattle.std.proofs.lemmas.List.Folds.{list_all_at, list_all_more}
use Rattle.plank_search.specs.Assignments.{IsOpen, NoneAgrees, AllAgree, Narrows, with_value}
use Rattle.plank_search.specs.Meanings.{literal_holds, claims_hold}
use Rattle.plank_search.specs.Answers.{Puts}
use Rattle.plank_search.proofs.Narrowing.{Narrows-then, with_value-narrows, with_value-given}
use Rattle.plank_search.specs.declared.clauses.Literal.{Literal}

-- each of the claims holds where all do
claim-holds : (full : ℕ → Bool) (claims : List Literal) (i : ℕ) (d : Literal) → i < length claims → claims_hold full claims ≡ true → literal_holds full (get_or claims i d) ≡ true
claim-holds full claims i d below all = by_value (literal_holds full (get_or claims i d)) refl
  where
    by_value : (b : Bool) → literal_holds full (get_or claims i d) ≡ b → literal_holds full (get_or claims i d) ≡ true
    by_value true e = e
    by_value false e = let broken : claims_hold full claims ≡ false = list_all_at (literal_holds full) claims i d below e in cc

-- one more claim that was put
pub more-claims : (claims : List Literal) (start old new : List (Option Bool)) (i : ℕ) (d : Literal) → i < length claims →
    Narrows (λ full. claims_hold full claims ≡ true) start old → AllAgree (λ full. claims_hold full (take i claims) ≡ true) old →
    Puts (λ full. literal_holds full (get_or claims i d) ≡ true) old new true →
    Narrows (λ full. claims_hold full claims ≡ true) start new × AllAgree (λ full. claims_hold full (take (i + 1) claims) ≡ true) new
more-claims claims start old new i d below so_far earlier one = (
  Narrows-then so_far (record {
    keeps = λ full all agrees. one.0.keeps full (claim-holds full claims i d below all) agrees;
    within = one.0.within;
    not_wider = one.0.not_wider;
    same_length = one.0.same_length;
  }),
  record {
    all = λ full agrees.
        list_all_more (literal_holds full) claims i d below
        ∙ ap (λ (rest : Bool). rest && literal_holds full (get_or claims i d)) (earlier.all full (one.0.within full agrees))
        ∙ one.1.all full agrees;
  },
)

-- a claim that no assignment which agrees can meet
pub no-claims : (claims : List Literal) (start old : List (Option Bool)) (i : ℕ) (d : Literal) → i < length claims →
    Narrows (λ full. claims_hold full claims ≡ true) start old → NoneAgrees (λ full. literal_holds full (get_or claims i d) ≡ true) old →
    NoneAgrees (λ full. claims_hold full claims ≡ true) start
no-claims claims start old i d below so_far none = record {
  contradicts = λ full all agrees. none.contradicts full (claim-holds full claims i d below all) (so_far.keeps full all agrees);
}

given-holds : (value given : Bool) → given ≡ value → (if value then given else not given) ≡ true
given-holds true given h = h
given-holds false given h = ap not h

holds-given : (value given : Bool) → (if value then given else not given) ≡ true → given ≡ value
holds-given true given h = h
holds-given false true h = cc
holds-given false false h = refl

-- a claim about an open part
pub open-claim : (values : List (Option Bool)) (claim : Literal) → IsOpen values claim.part →
    Puts (λ full. literal_holds full claim ≡ true) values (with_value values claim.part claim.value) true
open-claim values claim open_part = (
  with_value-narrows values claim.part claim.value open_part (λ full holds agrees. holds-given claim.value (full claim.part) holds),
  record { all = λ full agrees. given-holds claim.value (full claim.part) (with_value-given values claim.part claim.value open_part full agrees) },
)
