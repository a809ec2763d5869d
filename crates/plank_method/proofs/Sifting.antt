-- What is left of the claimed facts of a location, one test after the other.
use Rattle.std.specs.Prelude.{◌≡◌, ℕ, Bool, true, false, not, ◌&&◌, List, slice_get, Some}
use Rattle.std.proofs.Common.{refl, sym, ◌∙◌, ap, subst}
use Rattle.std.proofs.lemmas.Bool.{true≢false, false≢true}
use Rattle.plank_bits.specs.Words.{has}
use Rattle.plank_prog.specs.declared.headers.Header.{Header}
use Rattle.plank_prog.specs.declared.methods.Method.{Method}
use Rattle.plank_prog.specs.declared.programs.Program.{Program}
use Rattle.plank_fact.specs.declared.facts.Fact.{Fact}
use Rattle.plank_fact.specs.Tables.{IsNumbered}
use Rattle.plank_fact.specs.Outlines.{Outline, Point}
use Rattle.plank_fact.specs.After.{IsAtEntry}
use Rattle.plank_unit.specs.Units.{IsRefutedBySteps, at_entry, IsHadBySteps, IsBrokenFact, IsKept}
use Rattle.plank_method.specs.Deciding.{outline_of, IsExact}
use Rattle.plank_method.specs.Runs.{IsSifted, IsHadAtEntry, IsHadFrom, IsSiftedAt}

-- ---- sets

both_true : (a b c : Bool) → c ≡ (a && b) → c ≡ true → (a ≡ true) × (b ≡ true)
both_true true true c e t = (refl, refl)
both_true true false c e t = absurd (false≢true (sym e ∙ t))
both_true false b c e t = absurd (false≢true (sym e ∙ t))

second_false : (a b c : Bool) → c ≡ (a && b) → a ≡ true → c ≡ false → b ≡ false
second_false true b c e t f = sym e ∙ f
second_false false b c e t f = absurd (false≢true t)

not_true : (b : Bool) → not b ≡ true → b ≡ true → ⊥
not_true true e t = false≢true e
not_true false e t = false≢true t

not_false : (b : Bool) → not b ≡ false → b ≡ true
not_false true e = refl
not_false false e = absurd (true≢false e)

module _ (h : Header) (m : Method) where
  -- all are left, where each holds
  pub all_left : (s : ℕ → Bool) (Holds IsGone : Fact → Type 0) → ((n : ℕ) (f : Fact) → IsNumbered h m n f → s n ≡ true → Holds f) → IsSifted h m s s Holds IsGone
  all_left s Holds IsGone each = record {
    within = λ n e. e;
    left = each;
    gone = λ n f is there away. absurd (true≢false (sym there ∙ away));
  }

  -- those that are known are left
  pub known_left : (before known after : ℕ → Bool) (Holds IsGone : Fact → Type 0) → ((k : ℕ) → after k ≡ (before k && known k))
      → ((n : ℕ) (f : Fact) → IsNumbered h m n f → before n ≡ true → known n ≡ true → Holds f)
      → ((n : ℕ) (f : Fact) → IsNumbered h m n f → before n ≡ true → known n ≡ false → IsGone f) → IsSifted h m before after Holds IsGone
  known_left before known after Holds IsGone meets holds gone = record {
    within = λ n e. (both_true (before n) (known n) (after n) (meets n) e).0;
    left = λ n f is e. let both = both_true (before n) (known n) (after n) (meets n) e in holds n f is both.0 both.1;
    gone = λ n f is there away. gone n f is there (second_false (before n) (known n) (after n) (meets n) there away);
  }

  -- those that are found go
  pub found_gone : (before found after : ℕ → Bool) (IsSo IsGone : Fact → Type 0) → ((k : ℕ) → after k ≡ (before k && not (found k))) → IsExact h m before found IsSo
      → ((n : ℕ) (f : Fact) → IsNumbered h m n f → IsSo f → IsGone f) → IsSifted h m before after (λ f. IsSo f → ⊥) IsGone
  found_gone before found after IsSo IsGone minus exact gone = record {
    within = λ n e. (both_true (before n) (not (found n)) (after n) (minus n) e).0;
    left = λ n f is e so. let both = both_true (before n) (not (found n)) (after n) (minus n) e in not_true (found n) both.1 ((exact n f is both.0).1 so);
    gone = λ n f is there away. gone n f is ((exact n f is there).0 (not_false (found n) (second_false (before n) (not (found n)) (after n) (minus n) there away)));
  }

  -- one test after the other
  pub both_left : (before mid after : ℕ → Bool) (First Then IsGone Holds : Fact → Type 0) → IsSifted h m before mid First IsGone → IsSifted h m mid after Then IsGone
      → ((f : Fact) → First f → Then f → Holds f) → IsSifted h m before after Holds IsGone
  both_left before mid after First Then IsGone Holds a b join = record {
    within = λ n e. a.within n (b.within n e);
    left = λ n f is e. join f (a.left n f is (b.within n e)) (b.left n f is e);
    gone = λ n f is there away. by_mid n f is there away (mid n) refl;
  }
    where
      by_mid : (n : ℕ) (f : Fact) → IsNumbered h m n f → before n ≡ true → after n ≡ false → (c : Bool) → mid n ≡ c → IsGone f
      by_mid n f is there away true e = b.gone n f is e away
      by_mid n f is there away false e = a.gone n f is there e

-- ---- where the method begins

pub entry_left : (p : Program) (marks : List ℕ) (m l : ℕ) (claimed known after : List ℕ) → l ≡ 0 → ((k : ℕ) → has after k ≡ (has claimed k && has known k))
    → ((method : Method) → slice_get p.methods m ≡ Some method → IsExact p.header method (has claimed) (has known) (IsAtEntry (outline_of p marks) method))
    → IsSiftedAt p marks m l claimed after (λ O x. IsHadAtEntry O x) (λ O x. IsRefutedBySteps O x)
entry_left p marks m l claimed known after begins meets exact = λ x of_method of_location.
    let called : slice_get p.methods m ≡ Some x.method = ap (slice_get p.methods) (sym of_method) ∙ x.called in
    known_left p.header x.method (has claimed) (has known) (has after) (IsHadAtEntry (outline_of p marks) x) (IsRefutedBySteps (outline_of p marks) x) meets
    (λ n f is c k first. (exact x.method called n f is c).0 k)
    (λ n f is c away. at_entry (of_location ∙ begins) (λ so. true≢false (sym ((exact x.method called n f is c).1 so) ∙ away)))

pub elsewhere_left : (p : Program) (marks : List ℕ) (m l : ℕ) (claimed : List ℕ) → (l ≡ 0 → ⊥) → IsSiftedAt p marks m l claimed claimed (λ O x. IsHadAtEntry O x) (λ O x. IsRefutedBySteps O x)
elsewhere_left p marks m l claimed goes = λ x of_method of_location.
    all_left p.header x.method (has claimed) (IsHadAtEntry (outline_of p marks) x) (IsRefutedBySteps (outline_of p marks) x) (λ n f is e first. absurd (goes (sym of_location ∙ first)))

-- ---- what other calls break

pub unbroken_left : (p : Program) (marks : List ℕ) (m l : ℕ) (claimed found after : List ℕ) → ((k : ℕ) → has after k ≡ (has claimed k && not (has found k)))
    → ((x : Point p.methods) → x.m ≡ m → x.l ≡ l → IsExact p.header x.method (has claimed) (has found) (IsBrokenFact (outline_of p marks) x))
    → IsSiftedAt p marks m l claimed after (λ O x. IsKept O x) (λ O x. IsBrokenFact O x)
unbroken_left p marks m l claimed found after minus exact = λ x of_method of_location.
    found_gone p.header x.method (has claimed) (has found) (has after) (IsBrokenFact (outline_of p marks) x) (IsBrokenFact (outline_of p marks) x) minus (exact x of_method of_location)
    (λ n f is so. so)

-- ---- one after the other

pub sifted_both : (p : Program) (marks : List ℕ) (m l : ℕ) (before mid after : List ℕ) (First Then Holds Refutes : (O : Outline) → Point O.methods → Fact → Type 0)
    → IsSiftedAt p marks m l before mid First Refutes → IsSiftedAt p marks m l mid after Then Refutes
    → ((x : Point p.methods) (f : Fact) → First (outline_of p marks) x f → Then (outline_of p marks) x f → Holds (outline_of p marks) x f) → IsSiftedAt p marks m l before after Holds Refutes
sifted_both p marks m l before mid after First Then Holds Refutes a b join = λ x of_method of_location.
    both_left p.header x.method (has before) (has mid) (has after) (First (outline_of p marks) x) (Then (outline_of p marks) x) (Refutes (outline_of p marks) x) (Holds (outline_of p marks) x)
    (a x of_method of_location) (b x of_method of_location) (join x)

pub sifted_none : (p : Program) (marks : List ℕ) (m l : ℕ) (claimed : List ℕ) (Holds Refutes : (O : Outline) → Point O.methods → Fact → Type 0) → ((O : Outline) (x : Point O.methods) (f : Fact) → Holds O x f)
    → IsSiftedAt p marks m l claimed claimed Holds Refutes
sifted_none p marks m l claimed Holds Refutes each = λ x of_method of_location.
    all_left p.header x.method (has claimed) (Holds (outline_of p marks) x) (Refutes (outline_of p marks) x) (λ n f is e. each (outline_of p marks) x f)
