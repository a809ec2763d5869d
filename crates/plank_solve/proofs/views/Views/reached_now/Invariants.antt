use Rattle.std.proofs.Common.{◌≡◌, ℕ, Bool}
use Rattle.plank_search.specs.Assignments.{Agrees}
use Rattle.plank_lawful.specs.Lists.{joined}
use Rattle.plank_solve.specs.Rulings.{reached_now}
use Rattle.plank_solve.proofs.views.Views.reached_now.Given as goal

-- of the goals so far
abbrev pub invariant-loop-number : goal.invariant-loop-number
invariant-loop-number l = (full : ℕ → Bool) → Agrees l.self.values.now full →
    l.now.items ≡ joined (reached_now l.self.numbering.now l.situation full l.goals l.reached) l.number
