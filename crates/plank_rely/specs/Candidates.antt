-- The facts that a question asks for, as numbers and goals, and what its answers say of the numbers.
use Rattle.std.specs.Prelude.{ℕ, ◌*◌, Bool, true, false, ◌&&◌, ◌==◌, nat_lt, List, slice_index_or, Option, Some, None, if◌then◌else◌}
use Rattle.plank_prog.specs.declared.headers.Header.{Header}
use Rattle.plank_prog.specs.declared.methods.Method.{Method}
use Rattle.plank_base.specs.declared.limits.TheConstants.{MARK_WORDS_PER_LOCATION}
use Rattle.plank_fact.specs.declared.facts.Fact.{Fact}
use Rattle.plank_fact.specs.Tables.{fact_at}
use Rattle.plank_query.specs.declared.goals.Goal.{Goal}
use Rattle.plank_query.specs.declared.goals.Moment.{Moment}
use Rattle.plank_query.specs.declared.predicates.Speaker.{Speaker}
use Rattle.plank_query.specs.declared.predicates.Predicate.{Predicate}

-- a fact may be broken where it says what is true now
abbrev pub is_now : Option Fact → Bool
is_now None = false
is_now (Some (Fact.Now L)) = true
is_now (Some (Fact.Past L)) = false

-- the fact of number n is wanted and says what is true now
abbrev pub is_candidate : Header → List Method → ℕ → (ℕ → Bool) → ℕ → Bool
is_candidate h methods m wanted n = wanted n && is_now (fact_at h methods m n)

abbrev pub candidate : Header → List Method → ℕ → (ℕ → Bool) → ℕ → Option ℕ
candidate h methods m wanted n = if is_candidate h methods m wanted n then Some n else None

-- the goal of a fact: it is false after the step
abbrev pub goal_of : Option Fact → Goal
goal_of None = Goal.Anything
goal_of (Some (Fact.Now L)) = Goal.Fails Moment.After (Predicate.IsTrue Speaker.Own L)
goal_of (Some (Fact.Past L)) = Goal.Anything

abbrev pub goal_at : Header → List Method → ℕ → ℕ → Goal
goal_at h methods m n = goal_of (fact_at h methods m n)

-- the i-th number is k, and its goal is reached
abbrev pub is_reached : List ℕ → List Bool → ℕ → ℕ → Bool
is_reached numbers answers k i =
    slice_index_or answers i false && (nat_lt (slice_index_or numbers i 0) (64 * MARK_WORDS_PER_LOCATION)) && (k == slice_index_or numbers i 0)
