-- The effects of a program at marks, as a list in the order of the text.
use Rattle.std.specs.Prelude.{◌≡◌, ℕ, ◌+◌, List, [], ◌∷◌, ◌++◌, slice_get, length}
use Rattle.std.specs.Option.{option_map_or}
use Rattle.plank_prog.specs.Methods.{location_count}
use Rattle.plank_pic.specs.Pictures.{Picture}
use Rattle.plank_fact.specs.declared.facts.Fact.{Fact}
use Rattle.plank_fact.specs.Outlines.{Outline, Point}
use Rattle.plank_fact.specs.OwnSteps.{IsOwnPicture}
use Rattle.plank_fact.specs.ReportedEffects.{IsEffectOf}
use Rattle.plank_judge.specs.declared.effects.Effect.{Effect}

-- the l-th location of the m-th method is an effect
pub record IsEffectAt (O : Outline) (m l : ℕ) : Type 0 where
  pub at : Point O.methods
  pub of_method : at.m ≡ m
  pub of_location : at.l ≡ l
  pub facts : List Fact
  pub effect : IsEffectOf O at facts

-- these are the effects of the methods before the m-th and of its locations before the l-th, in their order
pub data AreEffectsBefore (O : Outline) : ℕ → ℕ → List Effect → Type 0 where
  none : AreEffectsBefore O 0 0 []
  effect : {m l : ℕ} {es : List Effect} → AreEffectsBefore O m l es → (is : IsEffectAt O m l)
      → AreEffectsBefore O m (l + 1) (es ++ record { method = m; location = l; facts = is.facts } ∷ [])
  no_effect : {m l : ℕ} {es : List Effect} → AreEffectsBefore O m l es → (IsEffectAt O m l → ⊥) → AreEffectsBefore O m (l + 1) es
  next_method : {m : ℕ} {es : List Effect} → AreEffectsBefore O m (option_map_or location_count (slice_get O.methods m) 0) es → AreEffectsBefore O (m + 1) 0 es

-- the effects of all methods
abbrev pub AreEffects : Outline → List Effect → Type 0
AreEffects O es = AreEffectsBefore O (length O.methods) 0 es

-- ---- as they are found

-- a call may come to the location
abbrev pub IsReached : (O : Outline) → Point O.methods → Type 0
IsReached O x = (p : Picture) × IsOwnPicture O x p
