-- What follows from all that each picture shows, and from what is carried, is what a call knows.
use Rattle.std.specs.Prelude.{◌≡◌, ◌⊎◌, ◌↔◌, ℕ, Bool, true, false, not, ◌&&◌, ◌||◌, List, Option, Some, None, Contains}
use Rattle.std.proofs.Common.{refl, sym, ◌∙◌, ap, subst, inl, inr}
use Rattle.std.proofs.lemmas.Bool.{and_parts, and_from, or_cases, or_left, or_right, cases_Bool, true≢false}
use Rattle.std.proofs.lemmas.Option.{same_Some, none-some}
use Rattle.plank_bits.specs.Words.{has}
use Rattle.plank_prog.specs.declared.methods.Method.{Method}
use Rattle.plank_prog.specs.declared.programs.Program.{Program}
use Rattle.plank_pic.specs.declared.literals.Literal.{Literal}
use Rattle.plank_pic.specs.Pictures.{Picture}
use Rattle.plank_fact.specs.declared.facts.Fact.{Fact}
use Rattle.plank_fact.specs.Literals.{is_lasting}
use Rattle.plank_fact.specs.Tables.{IsNumbered}
use Rattle.plank_fact.specs.Outlines.{Outline}
use Rattle.plank_fact.specs.Hindsight.{IsHindsight}
use Rattle.plank_fact.specs.After.{IsAlways, IsAlwaysLasting, IfGiven, IsOncePast, seen, carried, hindsight, IsKnown}
use Rattle.plank_fact.proofs.Monotone.{hindsight_less}
use Rattle.plank_method.specs.Deciding.{outline_of, IsExact}
use Rattle.plank_shown.specs.Shown.{IsShown}
use Rattle.plank_follow.specs.Kinds.{AreOfKind}
use Rattle.plank_follow.specs.Following.{IsGiven, Follows, begins, goes_on, AreFollowing}
use Rattle.plank_follow.specs.Known.{IsPastIn}
use Rattle.plank_follow.proofs.Sorts.{not_both, one_past}
use Rattle.plank_follow.proofs.Lists.{IsNowIn}

module _ (p : Program) (marks : List ℕ) (m : Method) (Those : Picture → Type 0) where
  abbrev pub O : Outline
  O = outline_of p marks

  -- ---- where all facts are asked

  module _ (past all shown carries start : ℕ → Bool) (past_is : AreOfKind p.header m true past)
      (all_facts : (n : ℕ) (f : Fact) → IsNumbered p.header m n f → all n ≡ true) (exact : IsExact p.header m all shown (IsShown m Those))
      (start_is : (k : ℕ) → start k ≡ (shown k || (carries k && past k)))
      (lasting presents : List Literal) (lasting_are : (L : Literal) → Contains lasting L ↔ ((is_lasting L ≡ true) × IsNowIn p.header m shown L))
      (presents_are : (L : Literal) → Contains presents L ↔ IsNowIn p.header m shown L) where
    always_in : (L : Literal) → IsAlways p.header m Those L → IsNowIn p.header m shown L
    always_in L w = (w.fact.0, w.fact.1, (exact w.fact.0 (Fact.Now L) w.fact.1 (all_facts w.fact.0 (Fact.Now L) w.fact.1)).1 w.holds)

    in_always : (L : Literal) → IsNowIn p.header m shown L → IsAlways p.header m Those L
    in_always L w = record { fact = (w.0, w.1); holds = (exact w.0 (Fact.Now L) w.1 (all_facts w.0 (Fact.Now L) w.1)).0 w.2 }

    lasting_to : (L : Literal) → Contains lasting L → IsAlwaysLasting p.header m Those L
    lasting_to L c = let w = (lasting_are L).0 c in (w.0, in_always L w.1)

    to_lasting : (L : Literal) → IsAlwaysLasting p.header m Those L → Contains lasting L
    to_lasting L w = (lasting_are L).1 (w.0, always_in L w.1)

    rule_to : (P : Literal) (now : Option Literal) (C : Literal) → IsGiven O m lasting P now C → IsHindsight O m (IsAlwaysLasting p.header m Those) P now C
    rule_to P now C = hindsight_less p.header p.methods (has marks) (has marks) (λ i e. e) m (IsAlwaysLasting p.header m Those) (λ L. Contains lasting L) P now C lasting_to

    to_rule : (P : Literal) (now : Option Literal) (C : Literal) → IsHindsight O m (IsAlwaysLasting p.header m Those) P now C → IsGiven O m lasting P now C
    to_rule P now C = hindsight_less p.header p.methods (has marks) (has marks) (λ i e. e) m (λ L. Contains lasting L) (IsAlwaysLasting p.header m Those) P now C to_lasting

    begins_past : (n : ℕ) (C : Literal) → IsNumbered p.header m n (Fact.Past C) → start n ≡ true → IsOncePast O m Those (IsPastIn p.header m carries) C
    begins_past n C is s = elim (or_cases (shown n) (carries n && past n) (sym (start_is n) ∙ s)) [
      | inl e ↦ seen (n, is) ((exact n (Fact.Past C) is (all_facts n (Fact.Past C) is)).0 e)
      | inr e ↦ carried (n, is) (n, is, (and_parts (carries n) (past n) e).0)
    ]

    given_none : IfGiven (IsAlways p.header m Those) None
    given_none L e = absurd (none-some L e)

    given_one : (b : Literal) → IsAlways p.header m Those b → IfGiven (IsAlways p.header m Those) (Some b)
    given_one b w L e = subst (λ c. IsAlways p.header m Those c) (same_Some b L e) w

    follows_past : (C : Literal) → Follows O m lasting presents start C → IsOncePast O m Those (IsPastIn p.header m carries) C
    follows_past C (begins n is s) = begins_past n C is s
    follows_past C (goes_on is P f (inl w)) = hindsight is P (follows_past P f) None given_none (rule_to P None C w)
    follows_past C (goes_on is P f (inr w)) = hindsight is P (follows_past P f) (Some w.0) (given_one w.0 (in_always w.0 ((presents_are w.0).0 w.1))) (rule_to P (Some w.0) C w.2)

    start_from : (n : ℕ) (C : Literal) → IsNumbered p.header m n (Fact.Past C) → (shown n ≡ true) ⊎ (carries n ≡ true) → start n ≡ true
    start_from n C is (inl e) = start_is n ∙ or_left (shown n) (carries n && past n) e
    start_from n C is (inr e) = start_is n ∙ or_right (shown n) (carries n && past n) (and_from (carries n) (past n) e ((past_is n).1 (C, is)))

    past_follows : (C : Literal) → IsOncePast O m Those (IsPastIn p.header m carries) C → Follows O m lasting presents start C
    past_follows C (seen is all_witness) = begins is.0 is.1 (start_from is.0 C is.1 (inl ((exact is.0 (Fact.Past C) is.1 (all_facts is.0 (Fact.Past C) is.1)).1 all_witness)))
    past_follows C (carried is w) = begins w.0 w.1 (start_from w.0 C w.1 (inr w.2))
    past_follows C (hindsight is P o None given w) = goes_on is P (past_follows P o) (inl (to_rule P None C w))
    past_follows C (hindsight is P o (Some b) given w) = goes_on is P (past_follows P o) (inr (b, (presents_are b).1 (always_in b (given b refl)), to_rule P (Some b) C w))

    module _ (wanted asked found : ℕ → Bool) (asked_is : (k : ℕ) → asked k ≡ (wanted k && past k)) (follows : AreFollowing O m lasting presents start asked found) where
      now_found : (n : ℕ) (L : Literal) → IsNumbered p.header m n (Fact.Now L) → found n ≡ true → shown n ≡ true
      now_found n L is e = elim (follows.only n e) [
        | inl s ↦ elim (or_cases (shown n) (carries n && past n) (sym (start_is n) ∙ s)) [
          | inl t ↦ t
          | inr t ↦ (let w = (past_is n).0 (and_parts (carries n) (past n) t).1 in absurd (not_both p.header m n L w.0 is w.1))
        ]
        | inr w ↦ absurd (not_both p.header m n L w.0 is w.1)
      ]

      past_found : (n : ℕ) (C : Literal) → IsNumbered p.header m n (Fact.Past C) → found n ≡ true → Follows O m lasting presents start C
      past_found n C is e = elim (follows.only n e) [
        | inl s ↦ begins n is s
        | inr w ↦ subst (λ D. Follows O m lasting presents start D) (one_past p.header m n w.0 C w.1 is) w.2
      ]

      pub followed_exact : IsExact p.header m wanted found (IsKnown O m Those (IsPastIn p.header m carries))
      followed_exact n (Fact.Now L) is wants = (
        λ e. in_always L (n, is, now_found n L is e),
        λ w. follows.kept n (start_is n ∙ or_left (shown n) (carries n && past n) ((exact n (Fact.Now L) is (all_facts n (Fact.Now L) is)).1 w.holds)),
      )
      followed_exact n (Fact.Past C) is wants = (
        λ e. follows_past C (past_found n C is e),
        λ w. follows.all n C (asked_is n ∙ and_from (wanted n) (past n) wants ((past_is n).1 (C, is))) is (past_follows C w),
      )

  -- ---- where each wanted past fact is carried

  module _ (past carries had wanted left shown found : ℕ → Bool) (past_is : AreOfKind p.header m true past) (had_is : (k : ℕ) → had k ≡ (carries k && past k))
      (left_is : (k : ℕ) → left k ≡ (wanted k && not (had k))) (none : (n : ℕ) (L : Literal) → IsNumbered p.header m n (Fact.Past L) → left n ≡ true → ⊥)
      (exact : IsExact p.header m left shown (IsShown m Those)) (found_is : (k : ℕ) → found k ≡ (shown k || had k)) where
    now_open : (n : ℕ) (L : Literal) → IsNumbered p.header m n (Fact.Now L) → had n ≡ false
    now_open n L is = elim (cases_Bool (had n)) [
      | inl e ↦ (let w = (past_is n).0 (and_parts (carries n) (past n) (sym (had_is n) ∙ e)).1 in absurd (not_both p.header m n L w.0 is w.1))
      | inr e ↦ e
    ]

    past_had : (n : ℕ) (C : Literal) → IsNumbered p.header m n (Fact.Past C) → wanted n ≡ true → had n ≡ true
    past_had n C is wants = elim (cases_Bool (had n)) [
      | inl e ↦ e
      | inr e ↦ absurd (none n C is (left_is n ∙ and_from (wanted n) (not (had n)) wants (ap not e)))
    ]

    shown_so : (n : ℕ) → had n ≡ false → found n ≡ true → shown n ≡ true
    shown_so n off e = elim (or_cases (shown n) (had n) (sym (found_is n) ∙ e)) [
      | inl t ↦ t
      | inr t ↦ absurd (true≢false (sym t ∙ off))
    ]

    pub had_exact : IsExact p.header m wanted found (IsKnown O m Those (IsPastIn p.header m carries))
    had_exact n (Fact.Now L) is wants =
        let off = now_open n L is in
        let opened = left_is n ∙ and_from (wanted n) (not (had n)) wants (ap not off) in (
          λ e. record { fact = (n, is); holds = (exact n (Fact.Now L) is opened).0 (shown_so n off e) },
          λ w. found_is n ∙ or_left (shown n) (had n) ((exact n (Fact.Now L) is opened).1 w.holds),
        )
    had_exact n (Fact.Past C) is wants =
        let on = past_had n C is wants in (
          λ e. carried (n, is) (n, is, (and_parts (carries n) (past n) (sym (had_is n) ∙ on)).0),
          λ w. found_is n ∙ or_right (shown n) (had n) on,
        )
