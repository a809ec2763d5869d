-- The values so far follow from those at the start.
use Rattle.plank_search.specs.Assignments.{Narrows}
use Rattle.plank_close.specs.Clauses.{Shows}
use Rattle.plank_close.proofs.saying.Sayer.all_bare.Given as goal

abbrev pub invariant-loop-number : goal.invariant-loop-number
invariant-loop-number l = Narrows (Shows l.self.numbering.now l.self.side) l.initial.values l.values
