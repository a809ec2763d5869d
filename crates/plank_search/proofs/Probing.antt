-- The two-value look: what a probe that failed rules out.
use Rattle.std.proofs.Common.{◌≡◌, ◌<◌, ℕ, Bool, true, false, refl, arith}
use Rattle.std.specs.Prelude.{List, Option, not}
use Rattle.plank_search.specs.Assignments.{IsOpen, open_count, with_value, Narrows}
use Rattle.plank_search.specs.Answers.{Tells, Probes}
use Rattle.plank_search.specs.declared.rules.Look.{Look}
use Rattle.plank_search.specs.declared.rules.Look.TheVariants.{Fails, Holds, Needs}
use Rattle.plank_search.proofs.Assigning.{with_value-fewer}
use Rattle.plank_search.proofs.Narrowing.{with_value-agrees, with_value-narrows}

-- a look at the values with one put is a probe
pub probed : (m : (ℕ → Bool) → Type 0) (values : List (Option Bool)) (part : ℕ) (value : Bool) (look : Look) →
    Tells m (with_value values part value) look → Probes m values part value look
probed m values part value Fails none = λ full meets agrees given. none.contradicts full meets (with_value-agrees values part value full agrees given)
probed m values part value Holds all = tt
probed m values part value (Needs other) open_part = tt

opposite : (given value : Bool) → (given ≡ value → ⊥) → given ≡ not value
opposite true true h = absurd (h refl)
opposite true false h = refl
opposite false true h = refl
opposite false false h = absurd (h refl)

-- the opposite of a value whose probe failed follows
pub ruled_out : {m : (ℕ → Bool) → Type 0} (values : List (Option Bool)) (part : ℕ) (value : Bool) → IsOpen values part →
    Probes m values part value Fails → Narrows m values (with_value values part (not value)) × (open_count (with_value values part (not value)) < open_count values)
ruled_out values part value open_part fails = (
  with_value-narrows values part (not value) open_part (λ full meets agrees. opposite (full part) value (fails full meets agrees)),
  omega (arith, with_value-fewer values part (not value) open_part),
)
