-- Of the literals so far each is false of all that agree, except the open one.
use Rattle.std.proofs.Common.{◌≡◌, ℕ, Bool, take}
use Rattle.plank_search.specs.Assignments.{Agrees}
use Rattle.plank_search.specs.Meanings.{clause_holds}
use Rattle.plank_search.proofs.Standings.{open_holds, IsOpenLiteral}
use Rattle.plank_search.proofs.steps.examine.Given as goal

abbrev pub invariant-loop-literal : goal.invariant-loop-literal
invariant-loop-literal l = record {
  one_open : IsOpenLiteral l.values l.open;
  others : (full : ℕ → Bool) → Agrees l.values full → clause_holds full (take l.literal-index l.clause) ≡ open_holds full l.open;
}
