-- The best so far is open.
use Rattle.plank_search.specs.Answers.{IsOpenIfSome}
use Rattle.plank_search.proofs.decisions.most_blamed_waiting.Given as goal

abbrev pub invariant-loop : goal.invariant-loop
invariant-loop l = IsOpenIfSome l.values l.best
