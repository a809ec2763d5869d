-- The rule holds exactly where it fits and nothing refutes it.
use Rattle.std.proofs.Common.{◌≡◌, ℕ, ◌<◌, Bool, true, false, not, length, sym, ◌∙◌, ap, inl, inr}
use Rattle.std.specs.Prelude.{◌↔◌, ◌&&◌, nat_lt, slice_get, Some}
use Rattle.std.proofs.lemmas.Bool.{cases_Bool, and_parts, and_from, lt-ltb, ltb-true, not-true, true≢false, false≢true}
use Rattle.std.proofs.lemmas.Option.{slice_get_within}
use Rattle.plank_prog.specs.declared.methods.Method.{Method}
use Rattle.plank_pic.specs.declared.literals.Literal.{Literal}
use Rattle.plank_fact.specs.Outlines.{Outline, Point}
use Rattle.plank_fact.specs.OwnSteps.{own_call}
use Rattle.plank_fact.specs.Hindsight.{is_witnessed, may_be_now, IsHindsight}
use Rattle.plank_past.specs.declared.hinds.Hinds.{Hinds}
use Rattle.plank_past.specs.Refuting.{lasting, IsRefuted, Grows}

point_below : (O : Outline) (x : Point O.methods) → x.m < length O.methods
point_below O x = slice_get_within O.methods x.m x.method x.called

module _ (O : Outline) (m : Method) (u : Hinds) (C : Literal) where
  abbrev Rule : Type 0
  Rule = IsHindsight O m (lasting u) u.past u.present C

  pub not_refuted : may_be_now u.past u.present ≡ true → (IsRefuted O m u C → ⊥) → Rule
  not_refuted fits none = record {
    fits = fits;
    already = λ p lawful lasting_true witnessed given. elim (cases_Bool (is_witnessed p (own_call m) C)) [
      | inl yes_true ↦ yes_true
      | inr no_true ↦ absurd (none (inl (record { picture = p; lawful = lawful; lasting_true = lasting_true; witnessed = witnessed; given = given; is_not = no_true })))
    ];
    later = λ b is site before after effect lasting_true shared not_yet then_true. elim (cases_Bool (is_witnessed after (own_call m) C)) [
      | inl yes_true ↦ yes_true
      | inr no_true ↦ absurd (none (inr (
        b,
        is,
        record {
          site = site;
          there = point_below O site;
          by = record { before = before; after = after; effect = effect; lasting_true = lasting_true; shared = shared; not_yet = not_yet; then_true = then_true; is_not = no_true };
        },
      )))
    ];
  }

  pub refuted_not : IsRefuted O m u C → Rule → ⊥
  refuted_not (inl w) rule = true≢false (sym (rule.already w.picture w.lawful w.lasting_true w.witnessed w.given) ∙ w.is_not)
  refuted_not (inr w) rule =
      let by = w.2.by in
      true≢false (sym (rule.later w.0 w.1 w.2.site by.before by.after by.effect by.lasting_true by.shared by.not_yet by.then_true) ∙ by.is_not)

-- what is left of the conclusions
module _ (O : Outline) (m : Method) (u : Hinds) (found refuted : ℕ → Bool) (is : (k : ℕ) → found k ≡ (nat_lt k (length u.conclusions.now) && not (refuted k)))
    (g : Grows u.conclusions.now (IsRefuted O m u) (λ k. false) refuted) (fits : may_be_now u.past u.present ≡ true) where
  pub left_exact : (k : ℕ) (C : Literal) → slice_get u.conclusions.now k ≡ Some C → (found k ≡ true) ↔ IsHindsight O m (lasting u) u.past u.present C
  left_exact k C at = (
    λ f. not_refuted O m u C fits (λ r. true≢false (sym (g.added k C at r) ∙ not-true _ (and_parts (nat_lt k (length u.conclusions.now)) _ (sym (is k) ∙ f)).1)),
    λ rule. is k ∙ and_from _ _ (lt-ltb k (length u.conclusions.now) (slice_get_within u.conclusions.now k C at)) (elim (cases_Bool (refuted k)) [
      | inl r ↦ elim (g.only k C at r) [ inl none ↦ absurd (false≢true none) | inr w ↦ absurd (refuted_not O m u C w rule) ]
      | inr r ↦ ap not r
    ]),
  )

  pub left_within : (k : ℕ) → found k ≡ true → k < length u.conclusions.now
  left_within k f = ltb-true k _ (and_parts (nat_lt k (length u.conclusions.now)) (not (refuted k)) (sym (is k) ∙ f)).0
