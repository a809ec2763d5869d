-- A question of a session: what its answer says of all that agrees with what was given.
use Rattle.std.proofs.Common.{◌≡◌, ◌∙◌, ℕ, Bool, true, false, List, [], ◌++◌, sym, ap, arith, length-append}
use Rattle.std.specs.Prelude.{Option}
use Rattle.std.proofs.lemmas.List.{get_or_append_left}
use Rattle.plank_search.specs.Assignments.{NoneAgrees, filled}
use Rattle.plank_search.specs.Meanings.{Meets, clause_holds}
use Rattle.plank_search.specs.Answers.{Propagates, Searches, IsSolution, MeetsClaims}
use Rattle.plank_search.proofs.Deciding.{solved}
use Rattle.plank_search.specs.declared.clauses.Literal.{Literal}

module _ (meaning : ℕ → (ℕ → Bool) → Bool) (constraints : ℕ) (clauses question : List (List Literal)) (claims : List Literal) (given prepared : List (Option Bool)) where
  -- a question has the clauses of the system
  without_question : (full : ℕ → Bool) → Meets meaning constraints (clauses ++ question) full → Meets meaning constraints clauses full
  without_question full meets = record {
    by_rules = meets.by_rules;
    by_clauses = record {
      each = λ i below.
          ap (clause_holds full) (sym (get_or_append_left clauses question [] i below))
          ∙ meets.by_clauses.each i (omega (arith, length-append clauses question));
    };
  }

  -- where nothing meets the system, no question has an answer
  pub none_prepared : (possible : Bool) → Propagates (Meets meaning constraints clauses) given prepared possible → possible ≡ false →
      NoneAgrees (MeetsClaims (Meets meaning constraints (clauses ++ question)) claims) given
  none_prepared true kept h = cc
  none_prepared false none h = record { contradicts = λ full meets agrees. none.contradicts full (without_question full meets.system) agrees }

  -- no answer from what follows from the system is no answer at all
  pub none_asked : (possible : Bool) (start after : List (Option Bool)) → Propagates (Meets meaning constraints clauses) given prepared possible → possible ≡ true →
      start ≡ prepared → Searches (MeetsClaims (Meets meaning constraints (clauses ++ question)) claims) start after false →
      NoneAgrees (MeetsClaims (Meets meaning constraints (clauses ++ question)) claims) given
  none_asked false start after kept h start_is none = cc
  none_asked true start after kept h start_is none = record {
    contradicts = λ full meets agrees. (rw start_is at none).contradicts full meets (kept.keeps full (without_question full meets.system) agrees);
  }

  -- an answer from there is an answer
  pub found_asked : (possible : Bool) (start after : List (Option Bool)) (found : List Bool) → Propagates (Meets meaning constraints clauses) given prepared possible → possible ≡ true →
      start ≡ prepared → Searches (MeetsClaims (Meets meaning constraints (clauses ++ question)) claims) start after true → found ≡ filled after →
      IsSolution (MeetsClaims (Meets meaning constraints (clauses ++ question)) claims) given found
  found_asked false start after found kept h start_is settled found_is = cc
  found_asked true start after found kept h start_is settled found_is =
      let settled_there = rw start_is at settled in
      solved _ given after found
      (record { every = settled_there.every; within = λ full agrees. kept.within full (settled_there.within full agrees); same_length = settled_there.same_length ∙ kept.same_length })
      found_is
