-- The need so far is open; where there is none, the constraints so far are true.
use Rattle.std.proofs.Common.{◌≡◌, ◌<◌, ℕ, Bool, true}
use Rattle.std.specs.Prelude.{None}
use Rattle.plank_search.specs.Assignments.{Agrees}
use Rattle.plank_search.specs.Answers.{IsOpenIfSome}
use Rattle.plank_search.proofs.decisions.pass_over_constraints.Given as goal

abbrev pub invariant-loop-constraint : goal.invariant-loop-constraint
invariant-loop-constraint g l = record {
  needed : IsOpenIfSome l.values l.need;
  held : l.need ≡ None → (c : ℕ) → c < l.constraint → (full : ℕ → Bool) → Agrees l.values full → g.R.Rules.meaning l.rules c full ≡ true;
}
