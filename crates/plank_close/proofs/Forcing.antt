-- What is known of a part, and what a put of what follows does.
use Rattle.std.proofs.Common.{◌≡◌, ℕ, Bool, true, false, List, refl, sym, ◌∙◌, ap, arith}
use Rattle.std.specs.Prelude.{not, ◌&&◌, Option, Some, None}
use Rattle.std.specs.Bool.{beq}
use Rattle.std.proofs.lemmas.Bool.{true≢false}
use Rattle.plank_pic.specs.declared.parts.Part.{Part}
use Rattle.plank_pic.specs.Lawful.{part_fits}
use Rattle.plank_search.specs.Assignments.{value_at, IsOpen, with_value, Agrees, Narrows}
use Rattle.plank_search.specs.Answers.{Propagates}
use Rattle.plank_search.proofs.Narrowing.{with_value-narrows}
use Rattle.plank_parts.specs.declared.sides.Side.{Side}
use Rattle.plank_parts.specs.Numbers.{Numbers, number, picture_of}
use Rattle.plank_close.specs.declared.saying.Said.{Said}
use Rattle.plank_close.specs.Clauses.{Shows, Knows, IsSaid, IsDenied, Follows, Implies, IsClause, said}

pub same_narrows : (m : (ℕ → Bool) → Type 0) (values : List (Option Bool)) → Narrows m values values
same_narrows m values = record { keeps = λ full meets agrees. agrees; within = λ full agrees. agrees; not_wider = omega arith; same_length = refl }

differ : (a b : Bool) → a ≡ not b → a ≡ b → ⊥
differ true true e h = cc
differ true false e h = cc
differ false true e h = cc
differ false false e h = cc

module _ (N : Numbers) (side : Side) (values : List (Option Bool)) where
  -- a part that the frame does not have
  absent : (part : Part) → part_fits N.frame part ≡ false → (full : ℕ → Bool) → picture_of N side full part ≡ false
  absent part h full = ap (λ (b : Bool). b && full (number N.table side part)) h

  there : (part : Part) → part_fits N.frame part ≡ true → (full : ℕ → Bool) → picture_of N side full part ≡ full (number N.table side part)
  there part h full = ap (λ (b : Bool). b && full (number N.table side part)) h

  pub knows_absent : (part : Part) → part_fits N.frame part ≡ false → Knows N side values part (Some false)
  knows_absent part h = λ full agrees. absent part h full

  pub knows_value : (part : Part) (v : Option Bool) → part_fits N.frame part ≡ true → v ≡ value_at values (number N.table side part) → Knows N side values part v
  knows_value part (Some v) h e = λ full agrees. there part h full ∙ agrees.decided (number N.table side part) v (sym e)
  knows_value part None h e = tt

  -- ---- a put of what follows

  pub forced_absent : (s : Said) → part_fits N.frame s.part ≡ false → Follows N side values s → Propagates (Shows N side) values values (not s.value)
  forced_absent s h follows = by_value s.value refl
    where
      by_value : (v : Bool) → s.value ≡ v → Propagates (Shows N side) values values (not v)
      by_value true e = record { contradicts = λ full shows agrees. true≢false (sym e ∙ sym (follows full shows agrees) ∙ absent s.part h full) }
      by_value false e = same_narrows (Shows N side) values

  pub forced_known : (s : Said) (known : Bool) → part_fits N.frame s.part ≡ true → value_at values (number N.table side s.part) ≡ Some known →
      Follows N side values s → Propagates (Shows N side) values values (beq known s.value)
  forced_known s known h read follows = by_values known s.value refl refl
    where
      told : (full : ℕ → Bool) → Shows N side full → Agrees values full → known ≡ s.value
      told full shows agrees = sym (agrees.decided (number N.table side s.part) known read) ∙ sym (there s.part h full) ∙ follows full shows agrees

      by_values : (k v : Bool) → known ≡ k → s.value ≡ v → Propagates (Shows N side) values values (beq k v)
      by_values true true ek ev = same_narrows (Shows N side) values
      by_values false false ek ev = same_narrows (Shows N side) values
      by_values true false ek ev = record { contradicts = λ full shows agrees. true≢false (sym ek ∙ told full shows agrees ∙ ev) }
      by_values false true ek ev = record { contradicts = λ full shows agrees. true≢false (sym ev ∙ sym (told full shows agrees) ∙ ek) }

  pub forced_open : (s : Said) → part_fits N.frame s.part ≡ true → IsOpen values (number N.table side s.part) →
      Follows N side values s → Narrows (Shows N side) values (with_value values (number N.table side s.part) s.value)
  forced_open s h open_part follows =
      with_value-narrows values (number N.table side s.part) s.value open_part
      (λ full shows agrees. sym (there s.part h full) ∙ follows full shows agrees)

  -- ---- what follows from an implication and from a clause

  pub then_second : (a b : Said) → Implies N.frame a b → IsSaid N side values a → Follows N side values b
  then_second a b law is = λ full shows agrees. law (picture_of N side full) shows (is full agrees)

  pub then_not_first : (a b : Said) → Implies N.frame a b → IsDenied N side values b → Follows N side values (said a.part (not a.value))
  then_not_first a b law denied = λ full shows agrees.
      opposite (picture_of N side full a.part) a.value (λ e. differ (picture_of N side full b.part) b.value (denied full agrees) (law (picture_of N side full) shows e))
    where
      opposite : (x v : Bool) → (x ≡ v → ⊥) → x ≡ not v
      opposite true true h = absurd (h refl)
      opposite true false h = refl
      opposite false true h = refl
      opposite false false h = absurd (h refl)

  pub then_third : (a b c : Said) → IsClause N.frame a b c → IsDenied N side values a → IsDenied N side values b → Follows N side values c
  then_third a b c law da db = λ full shows agrees. law (picture_of N side full) shows (da full agrees) (db full agrees)

  same_or : (x v : Bool) → (x ≡ not v → ⊥) → x ≡ v
  same_or true true h = refl
  same_or true false h = absurd (h refl)
  same_or false true h = absurd (h refl)
  same_or false false h = refl

  pub then_middle : (a b c : Said) → IsClause N.frame a b c → IsDenied N side values a → IsDenied N side values c → Follows N side values b
  then_middle a b c law da dc = λ full shows agrees.
      same_or (picture_of N side full b.part) b.value (λ e. differ (picture_of N side full c.part) c.value (dc full agrees) (law (picture_of N side full) shows (da full agrees) e))

  pub then_first : (a b c : Said) → IsClause N.frame a b c → IsDenied N side values b → IsDenied N side values c → Follows N side values a
  then_first a b c law db dc = λ full shows agrees.
      same_or (picture_of N side full a.part) a.value (λ e. differ (picture_of N side full c.part) c.value (dc full agrees) (law (picture_of N side full) shows e (db full agrees)))
