-- What a clause of literals and a whole system of rules mean at a full assignment.
use Rattle.std.specs.Prelude.{◌≡◌, ◌<◌, ℕ, Bool, true, not, if◌then◌else◌, List, map, [], length, slice_index_or}
use Rattle.std.specs.List.{list_any, list_all}
use Rattle.plank_search.specs.declared.clauses.Literal.{Literal}

-- the literal's part has the literal's value
abbrev pub literal_holds : (ℕ → Bool) → Literal → Bool
literal_holds full literal = (if literal.value then full literal.part else not (full literal.part))

-- one of the literals holds
abbrev pub clause_holds : (ℕ → Bool) → List Literal → Bool
clause_holds full clause = list_any (literal_holds full) clause

-- each constraint of the rules is true
pub record MeetsRules (meaning : ℕ → (ℕ → Bool) → Bool) (constraints : ℕ) (full : ℕ → Bool) : Type 0 where
  pub each : (constraint : ℕ) → constraint < constraints → meaning constraint full ≡ true

-- each clause holds
pub record MeetsClauses (clauses : List (List Literal)) (full : ℕ → Bool) : Type 0 where
  pub each : (clause : ℕ) → clause < length clauses → clause_holds full (slice_index_or clauses clause []) ≡ true

-- each constraint is true and each clause holds
pub record Meets (meaning : ℕ → (ℕ → Bool) → Bool) (constraints : ℕ) (clauses : List (List Literal)) (full : ℕ → Bool) : Type 0 where
  pub by_rules : MeetsRules meaning constraints full
  pub by_clauses : MeetsClauses clauses full

-- at least one of the goals is yes
abbrev pub some_goal : List ℕ → (ℕ → Bool) → Bool
some_goal goals full = list_any full goals

-- the clause that at least one of the goals is yes
abbrev pub goal_clause : List ℕ → List Literal
goal_clause goals = map (λ goal. record { part = goal; value = true }) goals

-- each of the claims holds
abbrev pub claims_hold : (ℕ → Bool) → List Literal → Bool
claims_hold full claims = list_all (literal_holds full) claims
