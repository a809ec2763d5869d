-- The values so far follow from those at the start.
use Rattle.plank_search.specs.Assignments.{Narrows}
use Rattle.plank_close.specs.Clauses.{Shows}
use Rattle.plank_close.proofs.saying.Sayer.not_led.Given as goal

abbrev pub invariant-loop-to : goal.invariant-loop-to
invariant-loop-to l = Narrows (Shows l.self.numbering.now l.self.side) l.initial.values l.values
