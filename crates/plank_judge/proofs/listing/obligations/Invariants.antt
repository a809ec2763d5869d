use Rattle.std.specs.Prelude.{◌≡◌, ◌++◌, drop}
use Rattle.plank_fact.specs.ObligationList.{of_methods, obligations}
use Rattle.plank_judge.proofs.listing.obligations.Given as goal

abbrev pub invariant-loop-number : goal.invariant-loop-number
invariant-loop-number l = l.list.items ++ of_methods l.number (drop l.number l.fn.program.methods) ≡ obligations l.fn.program.methods
