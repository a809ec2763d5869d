-- None of the facts so far is marked.
use Rattle.plank_demand.specs.Places.{AtPoint}
use Rattle.plank_demand.proofs.Marked.{NoneMarked}
use Rattle.plank_demand.proofs.here.Here.lacks.Given as goal

abbrev pub invariant-loop-fact : goal.invariant-loop-fact
invariant-loop-fact g l = AtPoint l.self.program.now l.self.marks.now l.self.at (λ O x. NoneMarked O x l.fact-items l.fact-index)
