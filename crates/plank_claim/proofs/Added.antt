-- What claims say that are added to others.
use Rattle.std.specs.Prelude.{◌≡◌, ℕ, zero, suc, ◌+◌, ◌*◌, ◌<◌, ◌≤◌, Bool, true, false, List, [], ◌∷◌, ◌++◌, slice_get, Option, Some, None, Contains, if◌then◌else◌}
use Rattle.std.specs.Option.{option_and_then}
use Rattle.std.proofs.Common.{refl, sym, ◌∙◌, ap, subst, inl, inr, arith, add-one}
use Rattle.std.proofs.lemmas.Bool.{cases_eq, cond-true, cond-false}
use Rattle.std.proofs.lemmas.Option.{same_Some, none-some}
use Rattle.std.proofs.lemmas.List.Elements.{Contains-push, Contains-push_cases, Contains-append_left, Contains-append_right, Contains-append_cases}
use Rattle.plank_base.specs.declared.limits.TheConstants.{MARK_WORDS_PER_LOCATION}
use Rattle.plank_bits.specs.Words.{has}
use Rattle.plank_prog.specs.declared.headers.Header.{Header}
use Rattle.plank_prog.specs.declared.methods.Method.{Method}
use Rattle.plank_prog.specs.declared.programs.Program.{Program}
use Rattle.plank_prog.proofs.HeaderFacts.{few_flags, few_pointers}
use Rattle.plank_pic.specs.declared.literals.Literal.{Literal}
use Rattle.plank_pic.specs.Pictures.{Picture}
use Rattle.plank_fact.specs.declared.facts.Fact.{Fact}
use Rattle.plank_fact.specs.Tables.{facts_of, IsNumbered, fact_at}
use Rattle.plank_fact.specs.Outlines.{Outline, Point, mark_number, IsClaimed}
use Rattle.plank_fact.specs.Forced.{outline}
use Rattle.plank_fact.proofs.Counts.{number_within, facts_have_room}
use Rattle.plank_fact.proofs.Limits.{few_variables}
use Rattle.plank_query.specs.declared.situations.Situation.{Situation}
use Rattle.plank_query.specs.declared.predicates.Speaker.{Speaker}
use Rattle.plank_query.specs.declared.predicates.Claim.{Claim}
use Rattle.plank_query.specs.Predicates.{holds, AreRight}
use Rattle.plank_claim.specs.declared.known.Known.{Known}
use Rattle.plank_claim.specs.Claims.{passes, claim, usable_claim, claim_of_fact, claim_at, listed, listed_below, Adds, AreTrue, AreUsable}

-- ---- lists

module _ {A : Type 0} where
  pub none_listed : (of : ℕ → Option A) (old : List A) → old ≡ old ++ listed_below of 0
  unfolding listed_below
  none_listed of [] = refl
  none_listed of (c ∷ cs) = ap (λ xs. c ∷ xs) (none_listed of cs)

  append_third : (xs ys zs : List A) → (xs ++ ys) ++ zs ≡ xs ++ (ys ++ zs)
  append_third [] ys zs = refl
  append_third (x ∷ xs) ys zs = ap (λ vs. x ∷ vs) (append_third xs ys zs)

  append_none : (xs : List A) → xs ++ [] ≡ xs
  append_none [] = refl
  append_none (x ∷ xs) = ap (λ vs. x ∷ vs) (append_none xs)

  pub one_listed : (of : ℕ → Option A) (n : ℕ) (first old new : List A) (o : Option A) → old ≡ first ++ listed_below of n → o ≡ of n → new ≡ old ++ listed o → new ≡ first ++ listed_below of (n + 1)
  unfolding listed_below
  one_listed of n first old new o so is e =
      e ∙ ap (λ xs. xs ++ listed o) so ∙ append_third first (listed_below of n) (listed o) ∙ ap (λ p. first ++ (listed_below of n ++ listed p)) is
      ∙ ap (λ m. first ++ listed_below of m) (sym (add-one n))

  -- where none follows
  rest_listed : (of : ℕ → Option A) (n most : ℕ) → n ≤ most → ((i : ℕ) → n ≤ i → of i ≡ None) → listed_below of most ≡ listed_below of n
  unfolding listed_below
  rest_listed of n zero within none = ap (λ m. listed_below of m) (let same : 0 ≡ n = omega arith in same)
  rest_listed of n (suc m) within none =
      elim (cases_eq n (suc m)) [
        | inl same ↦ ap (λ k. listed_below of k) (sym same)
        | inr other ↦
            let less : n ≤ m = omega arith in
            ap (λ o. listed_below of m ++ listed o) (none m less) ∙ append_none (listed_below of m) ∙ rest_listed of n m less none
      ]

  pub all_listed : (of : ℕ → Option A) (n most : ℕ) (first old : List A) → n ≤ most → ((i : ℕ) → n ≤ i → of i ≡ None) → old ≡ first ++ listed_below of n → old ≡ first ++ listed_below of most
  all_listed of n most first old within none so = so ∙ ap (λ xs. first ++ xs) (sym (rest_listed of n most within none))

  nothing_in : (c : A) → Contains [] c → ⊥
  nothing_in c w = let below : w.0 < 0 = w.1 in absurd (omega arith)

  in_listed : (o : Option A) (c : A) → Contains (listed o) c → o ≡ Some c
  in_listed None c w = absurd (nothing_in c w)
  in_listed (Some d) c w =
      elim (Contains-push_cases [] d c w) [ inl none ↦ absurd (nothing_in c none) | inr same ↦ ap Some same ]

  listed_in : (o : Option A) (c : A) → o ≡ Some c → Contains (listed o) c
  listed_in o c e = subst (λ p. Contains (listed p) c) (sym e) (Contains-push [] c)

  pub below_in : (of : ℕ → Option A) (n i : ℕ) (c : A) → i < n → of i ≡ Some c → Contains (listed_below of n) c
  unfolding listed_below
  below_in of zero i c below e = absurd (omega arith)
  below_in of (suc n) i c below e =
      elim (cases_eq i n) [
        | inl same ↦ Contains-append_right (listed_below of n) (listed (of n)) c (listed_in (of n) c (ap of (sym same) ∙ e))
        | inr other ↦ Contains-append_left (listed_below of n) (listed (of n)) c (below_in of n i c (omega arith) e)
      ]

  pub in_below : (of : ℕ → Option A) (n : ℕ) (c : A) → Contains (listed_below of n) c → (i : ℕ) × (i < n) × (of i ≡ Some c)
  unfolding listed_below
  in_below of zero c w = absurd (nothing_in c w)
  in_below of (suc n) c w =
      elim (Contains-append_cases (listed_below of n) (listed (of n)) c w) [
        | inl old ↦ let v = in_below of n c old in (v.0, (let below : v.0 < n = v.1 in omega arith), v.2)
        | inr now ↦ (n, omega arith, in_listed (of n) c now)
      ]

-- ---- what they say

module _ (h : Header) (S : Situation) (p : Picture) where
  -- each of the numbers below n says what is right
  abbrev EachRight : (ℕ → Option Claim) → ℕ → Type 0
  EachRight of n = (i : ℕ) (c : Claim) → i < n → of i ≡ Some c → holds h S p c.predicate ≡ c.value

  right_all : (of : ℕ → Option Claim) (n : ℕ) (old : List Claim) → AreRight h S p (old ++ listed_below of n) → AreRight h S p old × EachRight of n
  right_all of n old right = (
    λ c w. right c (Contains-append_left old (listed_below of n) c w),
    λ i c below e. right c (Contains-append_right old (listed_below of n) c (below_in of n i c below e)),
  )

  all_right : (of : ℕ → Option Claim) (n : ℕ) (old : List Claim) → AreRight h S p old → EachRight of n → AreRight h S p (old ++ listed_below of n)
  all_right of n old right each c w =
      elim (Contains-append_cases old (listed_below of n) c w) [
        | inl was ↦ right c was
        | inr now ↦ let v = in_below of n c now in each v.0 c v.1 v.2
      ]

-- ---- the names that are usable

abbrev pub usable_at : ℕ → Option Claim
usable_at i = Some (usable_claim i)

pub adds_usable : (h : Header) (n : ℕ) (old new : List Claim) → new ≡ old ++ listed_below usable_at n → Adds h old new (AreUsable n)
adds_usable h n old new is = λ S p. (
  λ right. let w = right_all h S p usable_at n old (subst (AreRight h S p) is right) in (w.0, λ i below. w.1 i (usable_claim i) below refl),
  λ both. subst (AreRight h S p) (sym is) (all_right h S p usable_at n old both.0 (λ i c below e.
      subst (λ (d : Claim). holds h S p d.predicate ≡ d.value) (same_Some (usable_claim i) c e) (both.1 i below))),
)

-- ---- the claims of a location

module _ (program : Program) (words : List ℕ) (m l first : ℕ) (speaker : Speaker) (known : Known) (first_is : first ≡ mark_number program.methods m l 0)
    (x : Point program.methods) (of_method : x.m ≡ m) (of_location : x.l ≡ l) where
  abbrev O : Outline
  O = outline program.header program.methods (has words)

  abbrev of : ℕ → Option Claim
  of = claim_at program.header program.methods m (has words) first speaker known

  called : slice_get program.methods m ≡ Some x.method
  called = ap (slice_get program.methods) (sym of_method) ∙ x.called

  same_table : (n : ℕ) → fact_at program.header program.methods m n ≡ slice_get (facts_of program.header x.method) n
  same_table n = ap (λ (o : Option Method). option_and_then (λ method. slice_get (facts_of program.header method) n) o) called

  same_mark : (n : ℕ) → first + n ≡ mark_number program.methods x.m x.l n
  same_mark n =
      let sum : first + n ≡ mark_number program.methods m l n = omega arith in
      sum ∙ ap (λ k. mark_number program.methods k l n) (sym of_method) ∙ ap (λ k. mark_number program.methods x.m k n) (sym of_location)

  room : (n : ℕ) (f : Fact) → IsNumbered program.header x.method n f → n < 64 * MARK_WORDS_PER_LOCATION
  room n f is =
      let within = number_within program.header x.method n f is in
      let few = facts_have_room program.header x.method (few_variables program.header program.methods program.methods_are_lawful m x.method called) (few_flags program.header program.header_is_lawful) (few_pointers program.header program.header_is_lawful) in
      omega arith

  -- a claim of the list is of a fact that is claimed
  record IsOf (c : Claim) : Type 0 where
    pub literal : Literal
    pub claimed : IsClaimed O x (Fact.Now literal)
    pub meant : passes known literal ≡ true
    pub is : c ≡ claim speaker literal

  of_claimed : (n : ℕ) (c : Claim) → of n ≡ Some c → IsOf c
  of_claimed n c e = by_mark (has words (first + n)) refl e
    where
      by_passes : (L : Literal) → has words (first + n) ≡ false → fact_at program.header program.methods m n ≡ Some (Fact.Now L) → (b : Bool) → passes known L ≡ b → (if b then Some (claim speaker L) else None) ≡ Some c → IsOf c
      by_passes L clear there true meant t = record {
        literal = L;
        claimed = record {
          mark = mark_number program.methods x.m x.l n;
          of_fact = record { number = n; fact = sym (same_table n) ∙ there; is = refl };
          is = ap (has words) (sym (same_mark n)) ∙ clear;
        };
        meant = meant;
        is = sym (same_Some (claim speaker L) c t);
      }
      by_passes L clear there false meant t = absurd (none-some c t)

      by_fact : has words (first + n) ≡ false → (o : Option Fact) → fact_at program.header program.methods m n ≡ o → claim_of_fact speaker known o ≡ Some c → IsOf c
      by_fact clear None there t = absurd (none-some c t)
      by_fact clear (Some (Fact.Past L)) there t = absurd (none-some c t)
      by_fact clear (Some (Fact.Now L)) there t = by_passes L clear there (passes known L) refl t

      by_mark : (b : Bool) → has words (first + n) ≡ b → (if b then None else claim_of_fact speaker known (fact_at program.header program.methods m n)) ≡ Some c → IsOf c
      by_mark true set t = absurd (none-some c t)
      by_mark false clear t = by_fact clear (fact_at program.header program.methods m n) refl t

  claimed_of : (L : Literal) (w : IsClaimed O x (Fact.Now L)) → passes known L ≡ true → of w.of_fact.number ≡ Some (claim speaker L)
  claimed_of L w meant =
      let n = w.of_fact.number in
      let clear : has words (first + n) ≡ false = ap (has words) (same_mark n ∙ sym w.of_fact.is) ∙ w.is in
      cond-false (has words (first + n)) None (claim_of_fact speaker known (fact_at program.header program.methods m n)) clear
      ∙ ap (claim_of_fact speaker known) (same_table n ∙ w.of_fact.fact)
      ∙ cond-true (passes known L) (Some (claim speaker L)) None meant

  pub adds_claims : (old new : List Claim) → new ≡ old ++ listed_below of (64 * MARK_WORDS_PER_LOCATION) → Adds program.header old new (AreTrue O x speaker known)
  adds_claims old new is = λ S p. (
    λ right.
        let w = right_all program.header S p of (64 * MARK_WORDS_PER_LOCATION) old (subst (AreRight program.header S p) is right) in
        (w.0, λ L claimed meant. w.1 claimed.of_fact.number (claim speaker L) (room claimed.of_fact.number (Fact.Now L) claimed.of_fact.fact) (claimed_of L claimed meant)),
    λ both. subst (AreRight program.header S p) (sym is) (all_right program.header S p of (64 * MARK_WORDS_PER_LOCATION) old both.0 (λ i c below e.
        let w = of_claimed i c e in
        subst (λ (d : Claim). holds program.header S p d.predicate ≡ d.value) (sym w.is) (both.1 w.literal w.claimed w.meant))),
  )
