-- On the way to all that follows: what is known follows, and all is known that follows by one use from what is done.
use Rattle.std.specs.Prelude.{◌≡◌, ◌⊎◌, ℕ, ◌*◌, ◌-◌, ◌<◌, ◌==◌, Bool, true, false, ◌||◌, List}
use Rattle.std.proofs.Common.{refl, sym, ◌∙◌, subst, inl, inr, arith}
use Rattle.std.proofs.lemmas.Bool.{or_cases, or_left, or_right, eqb-true, eq-eqb, true≢false}
use Rattle.plank_base.specs.declared.limits.TheConstants.{MARK_WORDS_PER_LOCATION}
use Rattle.plank_bits.specs.Words.{IsWithin, count_below}
use Rattle.plank_bits.proofs.SetLemmas.{count_below-le}
use Rattle.plank_bits.proofs.RoundLemmas.{count_below-grows}
use Rattle.plank_prog.specs.declared.methods.Method.{Method}
use Rattle.plank_pic.specs.declared.literals.Literal.{Literal}
use Rattle.plank_fact.specs.declared.facts.Fact.{Fact}
use Rattle.plank_fact.specs.Tables.{IsNumbered, IsFactOf}
use Rattle.plank_fact.specs.Outlines.{Outline}
use Rattle.plank_fact.proofs.Numbered.{numbers_agree}
use Rattle.plank_follow.specs.Following.{IsFollowingFrom, Follows, begins, goes_on, AddsPast, AreFollowing}
use Rattle.plank_follow.specs.Together.{AreSmall, AreUsed}
use Rattle.plank_follow.proofs.Sorts.{one_past}

module _ (O : Outline) (m : Method) (lasting presents : List Literal) (start : ℕ → Bool) where
  pub record IsOnTheWay (known done : ℕ → Bool) : Type 0 where
    pub kept : (k : ℕ) → start k ≡ true → known k ≡ true
    pub only : (k : ℕ) → known k ≡ true → (start k ≡ true) ⊎ ((C : Literal) × IsNumbered O.header m k (Fact.Past C) × Follows O m lasting presents start C)
    pub within : (k : ℕ) → done k ≡ true → known k ≡ true
    pub used : (k j : ℕ) (C : Literal) → done k ≡ true → IsNumbered O.header m j (Fact.Past C) → IsFollowingFrom O m lasting presents k C → known j ≡ true

  pub way_begins : (done : ℕ → Bool) → IsWithin done start → AreUsed O m lasting presents done start → IsOnTheWay start done
  way_begins done within used = record { kept = λ k s. s; only = λ k s. inl s; within = within; used = used }

  -- all that is wanted is there at first
  pub start_suffices : (wanted : ℕ → Bool) → IsWithin wanted start → AreFollowing O m lasting presents start wanted start
  start_suffices wanted all = record { kept = λ k s. s; only = λ k s. inl s; all = λ k C wants is f. all k wants }

  follows_of : (known done : ℕ → Bool) → IsOnTheWay known done → (k : ℕ) (P : Literal) → IsNumbered O.header m k (Fact.Past P) → known k ≡ true → Follows O m lasting presents start P
  follows_of known done way k P is e = elim (way.only k e) [
    | inl s ↦ begins k is s
    | inr w ↦ subst (λ C. Follows O m lasting presents start C) (one_past O.header m k w.0 P w.1 is) w.2
  ]

  -- the past fact of one more number is used
  pub way_goes_on : (known done more next : ℕ → Bool) (n : ℕ) → known n ≡ true → IsOnTheWay known done → AddsPast O.header m (IsFollowingFrom O m lasting presents n) known more
      → ((k : ℕ) → next k ≡ (done k || (k == n))) → IsOnTheWay more next
  way_goes_on known done more next n is_known way adds is = record {
    kept = λ k s. adds.kept k (way.kept k s);
    only = λ k e. elim (adds.only k e) [
      | inl o ↦ way.only k o
      | inr w ↦ inr (w.0, w.1, goes_on (k, w.1) w.2.0 (follows_of known done way n w.2.0 w.2.1 is_known) w.2.2)
    ];
    within = λ k e. adds.kept k (elim (or_cases (done k) (k == n) (sym (is k) ∙ e)) [
      | inl d ↦ way.within k d
      | inr same ↦ subst (λ i. known i ≡ true) (sym (eqb-true k n same)) is_known
    ]);
    used = λ k j C e at w. elim (or_cases (done k) (k == n) (sym (is k) ∙ e)) [
      | inl d ↦ adds.kept j (way.used k j C d at w)
      | inr same ↦ adds.added j C at (subst (λ i. IsFollowingFrom O m lasting presents i C) (eqb-true k n same) w)
    ];
  }

  -- each past fact that is known is done: then all that follows is known
  module _ (known done : ℕ → Bool) (way : IsOnTheWay known done) (all_done : (k : ℕ) (C : Literal) → IsNumbered O.header m k (Fact.Past C) → known k ≡ true → done k ≡ true) where
    number_of : (C : Literal) → Follows O m lasting presents start C → IsFactOf O.header m (Fact.Past C)
    number_of C (begins n is s) = (n, is)
    number_of C (goes_on is past f w) = is

    follows_known : (C : Literal) → Follows O m lasting presents start C → (k : ℕ) → IsNumbered O.header m k (Fact.Past C) → known k ≡ true
    follows_known C (begins n is s) k at = way.kept k (subst (λ i. start i ≡ true) (numbers_agree O.header m n k (Fact.Past C) is at) s)
    follows_known C (goes_on is past f w) k at =
        let v = number_of past f in
        let reached = follows_known past f v.0 v.1 in
        way.used v.0 k C (all_done v.0 past v.1 reached) at (past, v.1, w)

    pub way_ends : (wanted : ℕ → Bool) → AreFollowing O m lasting presents start wanted known
    way_ends wanted = record { kept = way.kept; only = way.only; all = λ k C wants is f. follows_known C f k is }

  -- all that is wanted is known
  pub way_suffices : (known done wanted : ℕ → Bool) → IsOnTheWay known done → IsWithin wanted known → AreFollowing O m lasting presents start wanted known
  way_suffices known done wanted way all = record { kept = way.kept; only = way.only; all = λ k C wants is f. all k wants }

-- ---- each step does one more

module _ (done next : ℕ → Bool) (n : ℕ) (is : (k : ℕ) → next k ≡ (done k || (k == n))) where
  pub still_small : AreSmall done → n < 64 * MARK_WORDS_PER_LOCATION → AreSmall next
  still_small small below k e = elim (or_cases (done k) (k == n) (sym (is k) ∙ e)) [
    | inl d ↦ small k d
    | inr same ↦ subst (λ i. i < 64 * MARK_WORDS_PER_LOCATION) (sym (eqb-true k n same)) below
  ]

  pub more_done : done n ≡ false → AreSmall next → 64 * MARK_WORDS_PER_LOCATION - count_below next (64 * MARK_WORDS_PER_LOCATION) < 64 * MARK_WORDS_PER_LOCATION - count_below done (64 * MARK_WORDS_PER_LOCATION)
  more_done left small =
      let grown : count_below done (64 * MARK_WORDS_PER_LOCATION) < count_below next (64 * MARK_WORDS_PER_LOCATION) =
      count_below-grows done next (64 * MARK_WORDS_PER_LOCATION) (λ k d. is k ∙ or_left (done k) (k == n) d) small
      (λ back. true≢false (sym (back n (is n ∙ or_right (done n) (n == n) (eq-eqb n n refl))) ∙ left)) in
      let few = count_below-le next (64 * MARK_WORDS_PER_LOCATION) in
      omega (arith, grown, few)
