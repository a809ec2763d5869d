-- The facts that are forced at a location, and their marks.
use Rattle.std.specs.Prelude.{◌≡◌, ◌↔◌, ◌⊎◌, ℕ, ◌+◌, ◌*◌, ◌<◌, ◌==◌, Bool, true, false, not, ◌&&◌, List, length, slice_get, is_some, Option, Some, None, IsTrue}
use Rattle.std.specs.Option.{option_and_then}
use Rattle.std.proofs.Common.{refl, sym, ◌∙◌, ap, subst, inl, inr, arith}
use Rattle.std.proofs.lemmas.Bool.{true≢false, false≢true, eqb-true, eq-eqb}
use Rattle.plank_base.specs.declared.limits.TheConstants.{MARK_WORDS_PER_LOCATION}
use Rattle.plank_bits.specs.Words.{has}
use Rattle.plank_prog.specs.declared.methods.Method.{Method}
use Rattle.plank_prog.specs.declared.programs.Program.{Program}
use Rattle.plank_prog.proofs.HeaderFacts.{few_flags, few_pointers}
use Rattle.plank_pic.specs.Below.{some_below}
use Rattle.plank_pic.proofs.Below.{some_found, some_there}
use Rattle.plank_fact.specs.declared.facts.Fact.{Fact}
use Rattle.plank_fact.specs.Tables.{facts_of, IsNumbered, fact_at}
use Rattle.plank_fact.specs.Outlines.{Outline, Point, location_number, mark_number, IsMarkOf}
use Rattle.plank_fact.proofs.Counts.{number_within, facts_have_room}
use Rattle.plank_fact.proofs.Limits.{few_variables}
use Rattle.plank_marks.proofs.Rooms.{IsThere}
use Rattle.plank_unit.specs.Units.{IsForcedThere}
use Rattle.plank_unit.proofs.Numbers.{same_method, same_location}
use Rattle.plank_method.specs.Deciding.{outline_of}
use Rattle.plank_method.specs.Marks.{facts_below, is_claimed, unmarked_below, is_put}
use Rattle.plank_method.specs.Runs.{IsSiftedAt, IsForcedAt, AreFound}

-- the facts of a method have room among the marks of a location
fact_has_room : (p : Program) (m : ℕ) (method : Method) (n : ℕ) (f : Fact) → slice_get p.methods m ≡ Some method → IsNumbered p.header method n f → n < 64 * MARK_WORDS_PER_LOCATION
fact_has_room p m method n f called is =
    let within = number_within p.header method n f is in
    let room = facts_have_room p.header method (few_variables p.header p.methods p.methods_are_lawful m method called) (few_flags p.header p.header_is_lawful) (few_pointers p.header p.header_is_lawful) in
    omega arith

both_of : (a b : Bool) → (a && b) ≡ true → (a ≡ true) × (b ≡ true)
both_of true b e = (refl, e)
both_of false b e = absurd (false≢true e)

and_not : (a b : Bool) → (a && not b) ≡ true → (a ≡ true) × (b ≡ false)
and_not true true e = absurd (false≢true e)
and_not true false e = (refl, refl)
and_not false b e = absurd (false≢true e)

not_gone : (b : Bool) → (true && not b) ≡ false → b ≡ true
not_gone true t = refl
not_gone false t = absurd (true≢false t)

-- ---- one number after the other

one_found : (test : ℕ → Bool) (n k : ℕ) → some_below (λ i. test i && (k == i)) n ≡ true → test k ≡ true
one_found test n k e =
    let w = some_found (λ i. test i && (k == i)) n e in
    let both = both_of (test w.0) (k == w.0) w.2 in
    subst (λ i. test i ≡ true) (sym (eqb-true k w.0 both.1)) both.0

one_there : (test : ℕ → Bool) (n k : ℕ) → k < n → test k ≡ true → some_below (λ i. test i && (k == i)) n ≡ true
one_there test n k below e = some_there (λ i. test i && (k == i)) n k below (ap (λ b. b && (k == k)) e ∙ eq-eqb k k refl)

is_there : (o : Option Fact) → is_some o ≡ true → (f : Fact) × (o ≡ Some f)
is_there (Some f) e = (f, refl)
is_there None e = absurd (false≢true e)

claimed_or : (a b : Bool) → (a && not b) ≡ false → a ≡ true → b ≡ true
claimed_or true true e t = refl
claimed_or true false e t = absurd (true≢false e)
claimed_or false b e t = absurd (false≢true t)

-- ---- the facts that are forced at a location

module _ (p : Program) (marks : List ℕ) (m l first : ℕ) (first_is : first ≡ mark_number p.methods m l 0)
    (facts claimed left forced : List ℕ)
    (facts_are : (k : ℕ) → has facts k ≡ facts_below p.header p.methods m (64 * MARK_WORDS_PER_LOCATION) k)
    (claimed_are : (k : ℕ) → has claimed k ≡ unmarked_below (has facts) (has marks) first (64 * MARK_WORDS_PER_LOCATION) k)
    (Holds Refutes : (O : Outline) → Point O.methods → Fact → Type 0) (left_are : IsSiftedAt p marks m l claimed left Holds Refutes)
    (forced_are : (k : ℕ) → has forced k ≡ (has facts k && not (has left k)))
    (not_both : (x : Point p.methods) (f : Fact) → Holds (outline_of p marks) x f → Refutes (outline_of p marks) x f → ⊥) where
  module _ (x : Point p.methods) (of_method : x.m ≡ m) (of_location : x.l ≡ l) where
    same_table : (n : ℕ) → fact_at p.header p.methods m n ≡ slice_get (facts_of p.header x.method) n
    same_table n = ap (λ (o : Option Method). option_and_then (λ method. slice_get (facts_of p.header method) n) o) (ap (slice_get p.methods) (sym of_method) ∙ x.called)

    -- the number of a fact
    fact_of_number : (n : ℕ) → has facts n ≡ true → (f : Fact) × IsNumbered p.header x.method n f
    fact_of_number n e =
        let some = one_found (λ i. is_some (fact_at p.header p.methods m i)) (64 * MARK_WORDS_PER_LOCATION) n (sym (facts_are n) ∙ e) in
        let w = is_there (fact_at p.header p.methods m n) some in
        (w.0, sym (same_table n) ∙ w.1)

    number_of_fact : (n : ℕ) (f : Fact) → IsNumbered p.header x.method n f → has facts n ≡ true
    number_of_fact n f is =
        facts_are n ∙ one_there (λ i. is_some (fact_at p.header p.methods m i)) (64 * MARK_WORDS_PER_LOCATION) n (fact_has_room p x.m x.method n f x.called is) (ap is_some (same_table n ∙ is))

    same_mark : (n : ℕ) → first + n ≡ mark_number p.methods x.m x.l n
    same_mark n =
        let one : mark_number p.methods m l n ≡ mark_number p.methods x.m x.l n = ap (λ k. mark_number p.methods k l n) (sym of_method) ∙ ap (λ k. mark_number p.methods x.m k n) (sym of_location) in
        let sum : first + n ≡ mark_number p.methods m l n = omega arith in
        sum ∙ one

    -- what is claimed is not marked, and what is not claimed is
    marked_so : (n : ℕ) (f : Fact) → IsNumbered p.header x.method n f → has claimed n ≡ false → has marks (mark_number p.methods x.m x.l n) ≡ true
    marked_so n f is e =
        by_test (is_claimed (has facts) (has marks) first n) refl
      where
        by_test : (b : Bool) → is_claimed (has facts) (has marks) first n ≡ b → has marks (mark_number p.methods x.m x.l n) ≡ true
        by_test true t =
            absurd (true≢false (sym (claimed_are n ∙ one_there (is_claimed (has facts) (has marks) first) (64 * MARK_WORDS_PER_LOCATION) n (fact_has_room p x.m x.method n f x.called is) t) ∙ e))
        by_test false t = subst (λ k. has marks k ≡ true) (same_mark n) (claimed_or (has facts n) (has marks (first + n)) t (number_of_fact n f is))

    unmarked_claim : (n : ℕ) → has claimed n ≡ true → has marks (mark_number p.methods x.m x.l n) ≡ false
    unmarked_claim n e =
        let t = one_found (is_claimed (has facts) (has marks) first) (64 * MARK_WORDS_PER_LOCATION) n (sym (claimed_are n) ∙ e) in
        subst (λ k. has marks k ≡ false) (same_mark n) (and_not (has facts n) (has marks (first + n)) t).1

    -- what is not left is forced
    gone_is_forced : (n : ℕ) (f : Fact) → IsNumbered p.header x.method n f → has left n ≡ false
        → (has marks (mark_number p.methods x.m x.l n) ≡ true) ⊎ Refutes (outline_of p marks) x f
    gone_is_forced n f is away = by_claim (has claimed n) refl
      where
        by_claim : (a : Bool) → has claimed n ≡ a → (has marks (mark_number p.methods x.m x.l n) ≡ true) ⊎ Refutes (outline_of p marks) x f
        by_claim false e = inl (marked_so n f is e)
        by_claim true e = inr ((left_are x of_method of_location).gone n f is e away)

    forced_so : (n : ℕ) → has forced n ≡ true → IsForcedAt Refutes (outline_of p marks) x n
    forced_so n e =
        let both = and_not (has facts n) (has left n) (sym (forced_are n) ∙ e) in
        let w = fact_of_number n both.0 in
        record { fact = w.0; numbered = w.1; forced = gone_is_forced n w.0 w.1 both.1 }

    -- what is left is neither marked nor refuted
    so_forced : (n : ℕ) → IsForcedAt Refutes (outline_of p marks) x n → has forced n ≡ true
    so_forced n w = by_left (has left n) refl
      where
        by_left : (b : Bool) → has left n ≡ b → has forced n ≡ true
        by_left false e = forced_are n ∙ ap (λ b. has facts n && not b) e ∙ ap (λ b. b && true) (number_of_fact n w.fact w.numbered)
        by_left true e =
            absurd (elim w.forced [
              | inl set ↦ true≢false (sym set ∙ unmarked_claim n ((left_are x of_method of_location).within n e))
              | inr refuted ↦ not_both x w.fact ((left_are x of_method of_location).left n w.fact w.numbered e) refuted
            ])

    others_hold : (n : ℕ) (f : Fact) → IsNumbered p.header x.method n f → has forced n ≡ false → Holds (outline_of p marks) x f
    others_hold n f is e =
        (left_are x of_method of_location).left n f is (not_gone (has left n) (sym (ap (λ b. b && not (has left n)) (number_of_fact n f is)) ∙ sym (forced_are n) ∙ e))

  -- ---- their marks

  module _ (here : IsThere p.methods m l) (found : List ℕ) (same : length found ≡ length marks)
      (found_are : (k : ℕ) → has found k ≡ some_below (is_put (has forced) first k) (64 * MARK_WORDS_PER_LOCATION)) where
    of_m : (x : Point p.methods) → location_number p.methods x.m x.l ≡ location_number p.methods m l → x.m ≡ m
    of_m x is = same_method p.methods x here.point (is ∙ sym (ap (λ i. location_number p.methods i here.point.l) here.of_method ∙ ap (location_number p.methods m) here.of_location)) ∙ here.of_method

    of_l : (x : Point p.methods) → location_number p.methods x.m x.l ≡ location_number p.methods m l → x.l ≡ l
    of_l x is = same_location p.methods x here.point (is ∙ sym (ap (λ i. location_number p.methods i here.point.l) here.of_method ∙ ap (location_number p.methods m) here.of_location)) ∙ here.of_location

    found_so : (k : ℕ) → has found k ≡ true → IsForcedThere p.header p.methods Refutes (location_number p.methods m l) (has marks) k
    found_so k e =
        let w = some_found (is_put (has forced) first k) (64 * MARK_WORDS_PER_LOCATION) (sym (found_are k) ∙ e) in
        let both = both_of (has forced w.0) (k == (first + w.0)) w.2 in
        let x = here.point in
        let of = forced_so x here.of_method here.of_location w.0 both.0 in
        let is : k ≡ mark_number p.methods x.m x.l w.0 = eqb-true k (first + w.0) both.1 ∙ same_mark x here.of_method here.of_location w.0 in
        record {
          at = x;
          of_number = ap (λ i. location_number p.methods i x.l) here.of_method ∙ ap (location_number p.methods m) here.of_location;
          fact = of.fact;
          is = record { number = w.0; fact = of.numbered; is = is };
          forced = elim of.forced [
            | inl set ↦ inl (subst (λ i. has marks i ≡ true) (sym is) set)
            | inr refuted ↦ inr refuted
          ];
        }

    put_there : (x : Point p.methods) → x.m ≡ m → x.l ≡ l → (n k : ℕ) (f : Fact) → IsNumbered p.header x.method n f → k ≡ mark_number p.methods x.m x.l n → has forced n ≡ true → has found k ≡ true
    put_there x of_method of_location n k f numbered is e =
        let room = fact_has_room p x.m x.method n f x.called numbered in
        found_are k ∙ some_there (is_put (has forced) first k) (64 * MARK_WORDS_PER_LOCATION) n room
        (ap (λ b. b && (k == (first + n))) e ∙ eq-eqb k (first + n) (is ∙ sym (same_mark x of_method of_location n)))

    so_found : (k : ℕ) → IsForcedThere p.header p.methods Refutes (location_number p.methods m l) (has marks) k → has found k ≡ true
    so_found k w =
        put_there w.at (of_m w.at w.of_number) (of_l w.at w.of_number) w.is.number k w.fact w.is.fact w.is.is
        (so_forced w.at (of_m w.at w.of_number) (of_l w.at w.of_number) w.is.number (record {
          fact = w.fact;
          numbered = w.is.fact;
          forced = elim w.forced [
            | inl set ↦ inl (subst (λ i. has marks i ≡ true) w.is.is set)
            | inr refuted ↦ inr refuted
          ];
        }))

    not_found : (x : Point p.methods) → x.m ≡ m → x.l ≡ l → (f : Fact) (k : ℕ) (is : IsMarkOf p.header x f k) → has found k ≡ false → has forced is.number ≡ false
    not_found x of_method of_location f k is none = by_forced (has forced is.number) refl
      where
        by_forced : (b : Bool) → has forced is.number ≡ b → has forced is.number ≡ false
        by_forced false e = e
        by_forced true e = absurd (true≢false (sym (put_there x of_method of_location is.number k f is.fact is.is e) ∙ none))

    pub found_there : AreFound p marks (location_number p.methods m l) found Holds Refutes
    found_there = record {
      same_length = same;
      forced = λ k. (found_so k, so_found k);
      others = λ x is f k of none. others_hold x (of_m x is) (of_l x is) of.number f of.fact (not_found x (of_m x is) (of_l x is) f k of none);
    }
