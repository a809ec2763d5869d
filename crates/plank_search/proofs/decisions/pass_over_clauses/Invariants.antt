-- The need so far is open; where there is none, the clauses so far hold.
use Rattle.std.proofs.Common.{◌≡◌, ◌<◌, ℕ, Bool, true, [], get_or}
use Rattle.std.specs.Prelude.{None}
use Rattle.plank_search.specs.Assignments.{Agrees}
use Rattle.plank_search.specs.Meanings.{clause_holds}
use Rattle.plank_search.specs.Answers.{IsOpenIfSome}
use Rattle.plank_search.proofs.decisions.pass_over_clauses.Given as goal

abbrev pub invariant-loop-clause : goal.invariant-loop-clause
invariant-loop-clause l = record {
  needed : IsOpenIfSome l.values l.need;
  held : l.need ≡ None → (c : ℕ) → c < l.clause → (full : ℕ → Bool) → Agrees l.values full → clause_holds full (get_or l.clauses c []) ≡ true;
}
