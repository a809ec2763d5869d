-- A number is of a fact of one kind.
use Rattle.std.specs.Prelude.{◌≡◌, ℕ, zero, suc, ◌*◌, ◌≤◌, ◌==◌, Bool, true, false, ◌&&◌, ◌||◌, List, slice_get, Option, Some, None, is_some, IsNone, IfSome, IfNone}
use Rattle.std.specs.Option.{option_and_then}
use Rattle.std.proofs.Common.{refl, sym, ◌∙◌, ap, inl, inr, arith, rules}
use Rattle.std.proofs.lemmas.Bool.{cases_eq, or_left, or_right, eqb-true, eq-eqb, and_parts, and_from, true≢false, false≢true}
use Rattle.std.proofs.lemmas.Option.{same_Some, none-some, slice_get_cases, slice_get_past}
use Rattle.plank_base.specs.declared.limits.TheConstants.{MARK_WORDS_PER_LOCATION}
use Rattle.plank_bits.specs.Words.{IsLeastFrom}
use Rattle.plank_prog.specs.declared.headers.Header.{Header}
use Rattle.plank_prog.specs.declared.methods.Method.{Method}
use Rattle.plank_prog.specs.declared.programs.Program.{Program}
use Rattle.plank_pic.specs.declared.literals.Literal.{Literal}
use Rattle.plank_pic.specs.Below.{some_below}
use Rattle.plank_pic.proofs.Below.{some_found, some_there}
use Rattle.plank_fact.specs.declared.facts.Fact.{Fact}
use Rattle.plank_fact.specs.Tables.{facts_of, IsNumbered, fact_at}
use Rattle.plank_shown.proofs.Exact.{same_table, room}
use Rattle.plank_follow.specs.Kinds.{is_of_kind, is_kind_at, kind_below, fact_of, AreOfKind}

-- ---- one number

abbrev literal_in : Fact → Literal
literal_in (Fact.Now L) = L
literal_in (Fact.Past L) = L

-- a number is not of a present fact and of a past one
pub not_both : (h : Header) (m : Method) (n : ℕ) (K L : Literal) → IsNumbered h m n (Fact.Now K) → IsNumbered h m n (Fact.Past L) → ⊥
not_both h m n K L now past =
    let same : Fact.Now K ≡ Fact.Past L = same_Some (Fact.Now K) (Fact.Past L) (sym now ∙ past) in
    true≢false (ap (λ f. is_of_kind false (Some f)) same)

pub one_past : (h : Header) (m : Method) (n : ℕ) (K L : Literal) → IsNumbered h m n (Fact.Past K) → IsNumbered h m n (Fact.Past L) → K ≡ L
one_past h m n K L a b = ap literal_in (same_Some (Fact.Past K) (Fact.Past L) (sym a ∙ b))

-- ---- all numbers of a kind

kind_so : (past : Bool) (L : Literal) → is_of_kind past (Some (fact_of past L)) ≡ true
kind_so true L = refl
kind_so false L = refl

so_kind : (past : Bool) (o : Option Fact) → is_of_kind past o ≡ true → (L : Literal) × (o ≡ Some (fact_of past L))
so_kind past None e = absurd (false≢true e)
so_kind true (Some (Fact.Now L)) e = absurd (false≢true e)
so_kind false (Some (Fact.Now L)) e = (L, refl)
so_kind true (Some (Fact.Past L)) e = (L, refl)
so_kind false (Some (Fact.Past L)) e = absurd (false≢true e)

module _ (p : Program) (m : ℕ) (past : Bool) (set : ℕ → Bool) (is : (k : ℕ) → set k ≡ kind_below p.header p.methods m past (64 * MARK_WORDS_PER_LOCATION) k)
    (method : Method) (called : slice_get p.methods m ≡ Some method) where
  abbrev test : ℕ → ℕ → Bool
  test = is_kind_at p.header p.methods m past

  pub are_of_kind : AreOfKind p.header method past set
  are_of_kind n = (
    λ e.
        let w = some_found (test n) (64 * MARK_WORDS_PER_LOCATION) (sym (is n) ∙ e) in
        let both = and_parts (is_of_kind past (fact_at p.header p.methods m w.0)) (n == w.0) w.2 in
        let v = so_kind past (fact_at p.header p.methods m w.0) both.0 in
        (v.0, ap (slice_get (facts_of p.header method)) (eqb-true n w.0 both.1) ∙ sym (same_table p m method called w.0) ∙ v.1),
    λ w. is n ∙ some_there (test n) (64 * MARK_WORDS_PER_LOCATION) n (room p m method called n (fact_of past w.0) w.1)
        (and_from (is_of_kind past (fact_at p.header p.methods m n)) (n == n) (ap (is_of_kind past) (same_table p m method called n ∙ w.1) ∙ kind_so past w.0) (eq-eqb n n refl)),
  )

-- ---- where the table has ended

list_ended : (fs : List Fact) (n i : ℕ) → slice_get fs n ≡ None → n ≤ i → slice_get fs i ≡ None
list_ended fs n i none from =
    elim (slice_get_cases fs n).1 [
      | inl w ↦ absurd (none-some w.0 (sym none ∙ w.2))
      | inr w ↦ let past = w.0 in slice_get_past fs i (omega (arith, past, from))
    ]

table_ended : (h : Header) (methods : List Method) (m n i : ℕ) → fact_at h methods m n ≡ None → n ≤ i → fact_at h methods m i ≡ None
table_ended h methods m n i none from = by_method (slice_get methods m) none
  where
    by_method : (o : Option Method) → option_and_then (λ method. slice_get (facts_of h method) n) o ≡ None → option_and_then (λ method. slice_get (facts_of h method) i) o ≡ None
    by_method None e = refl
    by_method (Some method) e = list_ended (facts_of h method) n i e from

or_false_so : (a b : Bool) → b ≡ false → a ≡ (a || b)
or_false_so true b e = refl
or_false_so false b e = sym e

none_after : (t : ℕ → Bool) (n most : ℕ) → n ≤ most → ((i : ℕ) → n ≤ i → t i ≡ false) → some_below t n ≡ some_below t most
unfolding some_below
none_after t n zero within none = ap (some_below t) (let same : n ≡ 0 = omega (arith, within) in same)
none_after t n (suc most) within none =
    elim (cases_eq n (suc most)) [
      | inl same ↦ ap (some_below t) same
      | inr other ↦ let less : n ≤ most = omega (arith, within, other) in none_after t n most less none ∙ or_false_so (some_below t most) (t most) (none most less)
    ]

none_so : (o : Option Fact) → is_some o ≡ false → o ≡ None
none_so None e = refl
none_so (Some f) e = absurd (true≢false e)

pub kind_ended : (h : Header) (methods : List Method) (m : ℕ) (past : Bool) (n most k : ℕ) → n ≤ most → is_some (fact_at h methods m n) ≡ false → kind_below h methods m past n k ≡ kind_below h methods m past most k
kind_ended h methods m past n most k within none =
    none_after (is_kind_at h methods m past k) n most within (λ i from. ap (λ (o : Option Fact). is_of_kind past o && (k == i)) (table_ended h methods m n i (none_so (fact_at h methods m n) none) from))

-- ---- the least member of a set, or none

module _ (set : ℕ → Bool) where
  pub member_some : (o : Option ℕ) → IfNone o ((k : ℕ) → 0 ≤ k → set k ≡ false) → (n : ℕ) → set n ≡ true → is_some o ≡ true
  member_some (Some i) none n e = refl
  member_some None none n e = absurd (false≢true (sym (none n (omega arith)) ∙ e))

  pub none_member : (o : Option ℕ) → IfNone o ((k : ℕ) → 0 ≤ k → set k ≡ false) → IsNone o → (n : ℕ) → set n ≡ true → ⊥
  none_member o all none n e = some_or_none o (member_some o all n e) none
    where
      some_or_none : (p : Option ℕ) → is_some p ≡ true → IsNone p → ⊥
      some_or_none (Some i) is no_one = search rules
      some_or_none None is no_one = false≢true is

  pub member_so : (o : Option ℕ) → IfSome o (IsLeastFrom set 0) → (So : ℕ → Type 0) → ((n : ℕ) → set n ≡ true → So n) → IfSome o So
  member_so (Some n) w So to = to n w.member
  member_so None w So to = w

-- ---- all facts are of one kind or the other

module _ (p : Program) (m : ℕ) (now past all : ℕ → Bool) (now_is : (k : ℕ) → now k ≡ kind_below p.header p.methods m false (64 * MARK_WORDS_PER_LOCATION) k)
    (past_is : (k : ℕ) → past k ≡ kind_below p.header p.methods m true (64 * MARK_WORDS_PER_LOCATION) k) (all_is : (k : ℕ) → all k ≡ (now k || past k))
    (method : Method) (called : slice_get p.methods m ≡ Some method) where
  pub in_all : (n : ℕ) (f : Fact) → IsNumbered p.header method n f → all n ≡ true
  in_all n (Fact.Now L) is = all_is n ∙ or_left (now n) (past n) ((are_of_kind p m false now now_is method called n).1 (L, is))
  in_all n (Fact.Past L) is = all_is n ∙ or_right (now n) (past n) ((are_of_kind p m true past past_is method called n).1 (L, is))
