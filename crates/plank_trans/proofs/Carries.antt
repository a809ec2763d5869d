-- Past facts that steps carry along, name by name and number by number.
use Rattle.std.specs.Prelude.{◌≡◌, ◌⊎◌, ◌↔◌, ℕ, zero, suc, ◌+◌, ◌<◌, ◌==◌, nat_lt, Bool, true, false, ◌&&◌, ◌||◌, length, Option, Some, None, unwrap_or}
use Rattle.std.proofs.Common.{refl, sym, ◌∙◌, ap, ap₂, subst, inl, inr, arith}
use Rattle.std.proofs.lemmas.Bool.{cases_eq, cond-true, lt-ltb, eqb-true, eq-eqb, or_cases, or_left, or_right, and_parts, and_from, false≢true}
use Rattle.std.proofs.lemmas.Option.{same_Some, none-some}
use Rattle.plank_prog.specs.declared.headers.Header.{Header}
use Rattle.plank_prog.specs.declared.blocks.Reference.{Reference}
use Rattle.plank_prog.specs.declared.methods.Method.{Method}
use Rattle.plank_pic.specs.declared.literals.Literal.{Literal}
use Rattle.plank_pic.specs.declared.literals.Exit.{Exit}
use Rattle.plank_pic.specs.Blocks.{source}
use Rattle.plank_fact.specs.declared.facts.Fact.{Fact}
use Rattle.plank_fact.specs.declared.kinds.FactKind.{FactKind}
use Rattle.plank_fact.specs.declared.layouts.Parts.{Parts}
use Rattle.plank_fact.specs.Literals.{past_name, said_of}
use Rattle.plank_fact.specs.Tables.{name_at, name_count, IsNumbered, IsFactOf}
use Rattle.plank_fact.specs.Places.{number_of, at, kind_of, parts_of, sizes_of, layout_of}
use Rattle.plank_fact.specs.Outlines.{Outline, Point, IsClaimed}
use Rattle.plank_fact.specs.OwnSteps.{own_call, turn_at}
use Rattle.plank_fact.specs.After.{named_before, IsCarried}
use Rattle.plank_fact.proofs.Numbered.{stands_in, stands_by_kind, stands_by_parts}
use Rattle.plank_trans.specs.Carried.{IsCarriedFrom, IsCarriedBelow}

-- ---- names and their numbers

pub name_again : (q : Reference) → name_at (number_of q) ≡ q
name_again Reference.Root = refl
name_again (Reference.Variable v) = refl

number_again : (i : ℕ) → number_of (name_at i) ≡ i
number_again zero = refl
number_again (suc v) = refl

-- the picture's name of a reference
call_name : (m : Method) (q : Reference) → number_of q < name_count m → (own_call m).name q ≡ number_of q
call_name m Reference.Root below = refl
call_name m (Reference.Variable v) below = ap (λ o. unwrap_or o 0) (cond-true (nat_lt v (length m.variables)) (Some (suc v)) None (lt-ltb v (length m.variables) (omega (arith, below))))

-- ---- what a past fact is said of

said_twice : (L : Literal) (q r : Reference) → past_name L ≡ Some q → said_of q (said_of r L) ≡ L
said_twice (Literal.Visited s) q r e = ap Literal.Visited (sym (same_Some s q e))
said_twice (Literal.Flag s f) q r e = ap (λ n. Literal.Flag n f) (sym (same_Some s q e))
said_twice (Literal.NoFlag s f) q r e = ap (λ n. Literal.NoFlag n f) (sym (same_Some s q e))
said_twice L q r e = absurd (none-some q e)

name_said : (L : Literal) (q r : Reference) → past_name L ≡ Some q → past_name (said_of r L) ≡ Some r
name_said (Literal.Visited s) q r e = refl
name_said (Literal.Flag s f) q r e = refl
name_said (Literal.NoFlag s f) q r e = refl
name_said L q r e = absurd (none-some q e)

-- said of no name, it is the same of any
nameless_said : (L : Literal) (r : Reference) → past_name L ≡ None → said_of r L ≡ L
nameless_said (Literal.Visited s) r e = absurd (none-some s (sym e))
nameless_said (Literal.Flag s f) r e = absurd (none-some s (sym e))
nameless_said (Literal.NoFlag s f) r e = absurd (none-some s (sym e))
nameless_said L r e = refl

name_cases : (L : Literal) → (past_name L ≡ None) ⊎ ((q : Reference) × (past_name L ≡ Some q))
name_cases L = by_name (past_name L) refl
  where
    by_name : (o : Option Reference) → past_name L ≡ o → (past_name L ≡ None) ⊎ ((q : Reference) × (past_name L ≡ Some q))
    by_name None e = inl e
    by_name (Some q) e = inr (q, e)

-- ---- a past fact of the table is said of a name of the method

module _ (h : Header) (m : Method) (n : ℕ) where
  first_within : (L : Literal) (q : Reference) (kind : FactKind) (i f : ℕ) → IsNumbered h m n (Fact.Past L) → kind_of (Fact.Past L) ≡ Some kind → parts_of (Fact.Past L) ≡ at i f 0
      → (layout_of (sizes_of h (name_count m)) kind).firsts ≡ name_count m → i < name_count m
  first_within L q kind i f is of_kind parts firsts =
      let w = stands_in h m n (Fact.Past L) is in
      let same_kind : w.kind ≡ kind = same_Some w.kind kind (sym (stands_by_kind h m n (Fact.Past L) w) ∙ of_kind) in
      let same_first : w.parts.first ≡ i = ap (λ (p : Parts). p.first) (sym (stands_by_parts h m n (Fact.Past L) w) ∙ parts) in
      let room : w.parts.first < (layout_of (sizes_of h (name_count m)) kind).firsts = subst (λ k. w.parts.first < (layout_of (sizes_of h (name_count m)) k).firsts) same_kind w.counted.first in
      subst (λ j. j < name_count m) same_first (subst (λ c. w.parts.first < c) firsts room)

  pub name_within : (L : Literal) (q : Reference) → IsNumbered h m n (Fact.Past L) → past_name L ≡ Some q → number_of q < name_count m
  name_within (Literal.Visited s) q is e = subst (λ r. number_of r < name_count m) (same_Some s q e) (first_within (Literal.Visited s) q FactKind.PastVisited (number_of s) 0 is refl refl refl)
  name_within (Literal.Flag s f) q is e = subst (λ r. number_of r < name_count m) (same_Some s q e) (first_within (Literal.Flag s f) q FactKind.PastFlag (number_of s) f is refl refl refl)
  name_within (Literal.NoFlag s f) q is e = subst (λ r. number_of r < name_count m) (same_Some s q e) (first_within (Literal.NoFlag s f) q FactKind.PastNoFlag (number_of s) f is refl refl refl)
  name_within L q is e = absurd (none-some q e)

-- ---- one past fact

module _ (O : Outline) (x : Point O.methods) (e : Exit) (L : Literal) (fact : IsFactOf O.header x.method (Fact.Past L)) where
  -- of a node
  from_name : (q : Reference) → past_name L ≡ Some q → (from : ℕ) → from < name_count x.method → IsCarriedFrom O x e L (number_of q) from → IsCarried O x e L
  from_name q names from below w = record {
    before = said_of (name_at from) L;
    claimed = w.0;
    to = q;
    is = sym (said_twice L q (name_at from) names);
    stays = λ r is p after step.
        let same : name_at from ≡ r = same_Some (name_at from) r (sym (name_said L q (name_at from) names) ∙ is) in
        let its : (own_call x.method).name r ≡ from = ap (own_call x.method).name (sym same) ∙ call_name x.method (name_at from) (subst (λ i. i < name_count x.method) (sym (number_again from)) below) ∙ number_again from in
        let to_name : (own_call x.method).name q ≡ number_of q = call_name x.method q (name_within O.header x.method fact.0 L q fact.1 names) in
        ap₂ (λ i j. named_before p (source (turn_at O x e) i) j) to_name its ∙ w.1 p after step;
  }

  to_name : (q : Reference) → past_name L ≡ Some q → IsCarried O x e L → IsCarriedBelow O x e L (number_of q) (name_count x.method)
  to_name q names w = elim (name_cases w.before) [
    | inl nameless ↦ absurd (none-some q (sym (ap past_name (w.is ∙ nameless_said w.before w.to nameless) ∙ nameless) ∙ names))
    | inr v ↦
        let r = v.0 in
        let number = w.claimed.of_fact in
        let below : number_of r < name_count x.method = name_within O.header x.method number.number w.before r number.fact v.1 in
        let same_to : w.to ≡ q = same_Some w.to q (sym (name_said w.before r w.to v.1) ∙ ap past_name (sym w.is) ∙ names) in
        let said : said_of (name_at (number_of r)) L ≡ w.before = ap₂ said_of (name_again r) w.is ∙ said_twice w.before r w.to v.1 in
        let from : (own_call x.method).name r ≡ number_of r = call_name x.method r below in
        let to : (own_call x.method).name w.to ≡ number_of q = ap (own_call x.method).name same_to ∙ call_name x.method q (name_within O.header x.method fact.0 L q fact.1 names) in (
          number_of r,
          below,
          (
            subst (λ K. IsClaimed O x (Fact.Past K)) (sym said) w.claimed,
            λ p after step. sym (ap₂ (λ i j. named_before p (source (turn_at O x e) i) j) to from) ∙ w.stays r v.1 p after step,
          ),
        )
  ]

  -- of the set
  from_claim : past_name L ≡ None → IsClaimed O x (Fact.Past L) → IsCarried O x e L
  from_claim nameless claimed = record {
    before = L;
    claimed = claimed;
    to = Reference.Root;
    is = sym (nameless_said L Reference.Root nameless);
    stays = λ q is. absurd (none-some q (sym nameless ∙ is));
  }

  to_claim : past_name L ≡ None → IsCarried O x e L → IsClaimed O x (Fact.Past L)
  to_claim nameless w = elim (name_cases w.before) [
    | inl none ↦ subst (λ K. IsClaimed O x (Fact.Past K)) (sym (w.is ∙ nameless_said w.before w.to none)) w.claimed
    | inr v ↦ absurd (none-some w.to (sym nameless ∙ ap past_name w.is ∙ name_said w.before v.0 w.to v.1))
  ]

  pub named_carried : (q : Reference) → past_name L ≡ Some q → IsCarriedBelow O x e L (number_of q) (name_count x.method) ↔ IsCarried O x e L
  named_carried q names = (λ w. from_name q names w.0 w.1 w.2, to_name q names)

  pub nameless_carried : past_name L ≡ None → IsClaimed O x (Fact.Past L) ↔ IsCarried O x e L
  nameless_carried nameless = (from_claim nameless, to_claim nameless)

-- ---- name after name

module _ (O : Outline) (x : Point O.methods) (e : Exit) (L : Literal) (to : ℕ) where
  pub none_below : IsCarriedBelow O x e L to 0 → ⊥
  none_below w = let below = w.1 in absurd (omega (arith, below))

  pub not_more : (count : ℕ) → (IsCarriedBelow O x e L to count → ⊥) → (IsCarriedFrom O x e L to count → ⊥) → IsCarriedBelow O x e L to (count + 1) → ⊥
  not_more count none none_here w = elim (cases_eq w.0 count) [
    | inl same ↦ none_here (subst (λ i. IsCarriedFrom O x e L to i) same w.2)
    | inr other ↦ none (w.0, (let below = w.1 in omega (arith, below, other)), w.2)
  ]

-- ---- number after number

module _ (O : Outline) (x : Point O.methods) (e : Exit) where
  -- of the facts of the first numbers
  abbrev pub AreCarriedWithin : ℕ → (ℕ → Bool) → Type 0
  AreCarriedWithin count set = (n : ℕ) (L : Literal) → IsNumbered O.header x.method n (Fact.Past L) → (set n ≡ true) ↔ ((n < count) × IsCarried O x e L)

  pub none_within : (set : ℕ → Bool) → ((k : ℕ) → set k ≡ false) → AreCarriedWithin 0 set
  none_within set none n L is = (λ s. absurd (false≢true (sym (none n) ∙ s)), λ w. let below = w.0 in absurd (omega (arith, below)))

  pub one_within : (count : ℕ) (set more : ℕ → Bool) (added : Bool) → AreCarriedWithin count set
      → ((L : Literal) → IsNumbered O.header x.method count (Fact.Past L) → (added ≡ true) ↔ IsCarried O x e L)
      → ((k : ℕ) → more k ≡ (set k || (added && (k == count)))) → AreCarriedWithin (count + 1) more
  one_within count set more added so adds is n L at = (
    λ s. elim (or_cases (set n) (added && (n == count)) (sym (is n) ∙ s)) [
      | inl old ↦ (let w = (so n L at).0 old in ((let below = w.0 in omega (arith, below)), w.1))
      | inr new_one ↦
          let both = and_parts added (n == count) new_one in
          let same = eqb-true n count both.1 in
          (omega (arith, same), (adds L (subst (λ k. IsNumbered O.header x.method k (Fact.Past L)) same at)).0 both.0)
    ],
    λ w. is n ∙ elim (cases_eq n count) [
      | inl same ↦ or_right (set n) (added && (n == count)) (and_from added (n == count) ((adds L (subst (λ k. IsNumbered O.header x.method k (Fact.Past L)) same at)).1 w.1) (eq-eqb n count same))
      | inr other ↦ or_left (set n) (added && (n == count)) ((so n L at).1 ((let below = w.0 in omega (arith, below, other)), w.1))
    ],
  )
