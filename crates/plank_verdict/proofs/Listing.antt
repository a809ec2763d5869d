-- Lists of effects: one more, and all of a method.
use Rattle.std.specs.Prelude.{◌≡◌, ℕ, ◌+◌, List, [], ◌∷◌, ◌++◌}
use Rattle.std.proofs.Common.{sym, ◌∙◌, ap, subst}
use Rattle.plank_prog.specs.declared.programs.Program.{Program}
use Rattle.plank_fact.specs.declared.facts.Fact.{Fact}
use Rattle.plank_judge.specs.Verdicts.{outline_of}
use Rattle.plank_judge.specs.declared.effects.Effect.{Effect}
use Rattle.plank_verdict.specs.Effects.{IsEffectAt, AreEffectsBefore, effect, no_effect}
use Rattle.plank_verdict.specs.Kept.{AreKept}

module _ (p : Program) (words : List ℕ) (m l : ℕ) (old new : List Effect) (before : AreEffectsBefore (outline_of p words) m l old) where
  pub one_more : (facts : List Fact) → IsEffectAt (outline_of p words) m l → AreKept p words m l facts
      → new ≡ old ++ record { method = m; location = l; facts = facts } ∷ [] → AreEffectsBefore (outline_of p words) m (l + 1) new
  one_more facts is kept added =
      let same : facts ≡ is.facts = kept is.at is.of_method is.of_location is.effect.block is.effect.here ∙ sym is.effect.are in
      let told : List Fact → List Effect = λ fs. old ++ record { method = m; location = l; facts = fs } ∷ [] in
      subst (λ es. AreEffectsBefore (outline_of p words) m (l + 1) es) (sym (added ∙ ap told same)) (effect before is)

  pub none_more : (IsEffectAt (outline_of p words) m l → ⊥) → new ≡ old → AreEffectsBefore (outline_of p words) m (l + 1) new
  none_more is_none same = subst (λ es. AreEffectsBefore (outline_of p words) m (l + 1) es) (sym same) (no_effect before is_none)
