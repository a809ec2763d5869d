-- Goals as one more clause: at least one of them is yes.
use Rattle.std.proofs.Common.{◌≡◌, ◌∙◌, ◌<◌, ℕ, zero, suc, Bool, true, List, [], ◌∷◌, ◌++◌, ◌||◌, length, refl, sym, ap, arith, length-append}
use Rattle.std.specs.Prelude.{Option, Some, None, Result, Ok, Err, IfOk, IfSome, IfNone, slice_index_or}
use Rattle.std.proofs.lemmas.List.{get_or_append_left}
use Rattle.std.proofs.Math.Seq.{get_or-append_seam}
use Rattle.plank_search.specs.Assignments.{NoneAgrees}
use Rattle.plank_search.specs.Meanings.{Meets, clause_holds, some_goal, goal_clause}
use Rattle.plank_search.specs.Answers.{IsSolution, MeetsClaims, MeetsWithGoal}
use Rattle.plank_search.specs.declared.clauses.Literal.{Literal}

-- the clause of the goals holds where one of them is yes
goal_clause-holds : (goals : List ℕ) (full : ℕ → Bool) → clause_holds full (goal_clause goals) ≡ some_goal goals full
goal_clause-holds [] full = refl
goal_clause-holds (goal ∷ goals) full = ap (λ (rest : Bool). full goal || rest) (goal_clause-holds goals full)

-- what holds of each item and of one more
each-append : (P : List Literal → Type 0) (xs : List (List Literal)) (y : List Literal) → ((i : ℕ) → i < length xs → P (slice_index_or xs i [])) → P y →
    (i : ℕ) → i < length (xs ++ y ∷ []) → P (slice_index_or (xs ++ y ∷ []) i [])
each-append P [] y each last zero below = last
each-append P [] y each last (suc i) below = absurd (omega arith)
each-append P (x ∷ xs) y each last zero below = each 0 (omega arith)
each-append P (x ∷ xs) y each last (suc i) below = each-append P xs y (λ j h. each (suc j) (omega arith)) last i (omega arith)

-- an answer of one kind is one of another
pub solution-for : (m n : (ℕ → Bool) → Type 0) (given : List (Option Bool)) → ((full : ℕ → Bool) → m full → n full) → (found : List Bool) → IsSolution m given found → IsSolution n given found
solution-for m n given follows found solution = record { meets_all = follows _ solution.meets_all; agrees = solution.agrees; every_part = solution.every_part }

pub none-for : (m n : (ℕ → Bool) → Type 0) (given : List (Option Bool)) → ((full : ℕ → Bool) → n full → m full) → NoneAgrees m given → NoneAgrees n given
none-for m n given follows none = record { contradicts = λ full meets agrees. none.contradicts full (follows full meets) agrees }

-- a question without claims
pub no-claims : (m : (ℕ → Bool) → Type 0) (full : ℕ → Bool) → MeetsClaims m [] full → m full
no-claims m full meets = meets.system

pub with_no-claims : (m : (ℕ → Bool) → Type 0) (full : ℕ → Bool) → m full → MeetsClaims m [] full
with_no-claims m full meets = record { system = meets; claimed = refl }

-- what follows of a found answer, and of none
pub if_some : {T : Type 0} (P Q : T → Type 0) (answer : Option T) → ((found : T) → P found → Q found) → IfSome answer P → IfSome answer Q
if_some P Q None follows h = tt
if_some P Q (Some found) follows h = follows found h

pub if_none : {T : Type 0} (P Q : Type 0) (answer : Option T) → (P → Q) → IfNone answer P → IfNone answer Q
if_none P Q None follows h = follows h
if_none P Q (Some found) follows h = tt

pub of_found : {T E : Type 0} (P Q : T → Type 0) (answer : Result (Option T) E) → ((found : T) → P found → Q found) → IfOk answer (λ found. IfSome found P) → IfOk answer (λ found. IfSome found Q)
of_found P Q (Ok found) follows h = if_some P Q found follows h
of_found P Q (Err e) follows h = tt

pub of_none : {T E : Type 0} (P Q : Type 0) (answer : Result (Option T) E) → (P → Q) → IfOk answer (λ found. IfNone found P) → IfOk answer (λ found. IfNone found Q)
of_none P Q (Ok found) follows h = if_none P Q found follows h
of_none P Q (Err e) follows h = tt

module _ (meaning : ℕ → (ℕ → Bool) → Bool) (constraints : ℕ) (clauses : List (List Literal)) (claims : List Literal) (goals : List ℕ) where
  -- who meets the system with the goals' clause meets the system and a goal
  pub with_goal : (full : ℕ → Bool) → MeetsClaims (Meets meaning constraints (clauses ++ goal_clause goals ∷ [])) claims full →
      MeetsWithGoal (MeetsClaims (Meets meaning constraints clauses) claims) goals full
  with_goal full meets = record {
    system = record {
      system = record {
        by_rules = meets.system.by_rules;
        by_clauses = record {
          each = λ i below.
              ap (clause_holds full) (sym (get_or_append_left clauses (goal_clause goals ∷ []) [] i below))
              ∙ meets.system.by_clauses.each i (omega (arith, length-append clauses (goal_clause goals ∷ [])));
        };
      };
      claimed = meets.claimed;
    };
    goal = sym (goal_clause-holds goals full)
        ∙ ap (clause_holds full) (sym (get_or-append_seam clauses (goal_clause goals) [] []))
        ∙ meets.system.by_clauses.each (length clauses) (omega (arith, length-append clauses (goal_clause goals ∷ [])));
  }

  pub without_goal : (full : ℕ → Bool) → MeetsWithGoal (MeetsClaims (Meets meaning constraints clauses) claims) goals full →
      MeetsClaims (Meets meaning constraints (clauses ++ goal_clause goals ∷ [])) claims full
  without_goal full meets = record {
    system = record {
      by_rules = meets.system.system.by_rules;
      by_clauses = record {
        each = each-append (λ clause. clause_holds full clause ≡ true) clauses (goal_clause goals)
            meets.system.system.by_clauses.each (goal_clause-holds goals full ∙ meets.goal);
      };
    };
    claimed = meets.system.claimed;
  }
