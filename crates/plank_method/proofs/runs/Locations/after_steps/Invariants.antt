-- What is left after the steps of the locations so far.
use Rattle.plank_unit.specs.Units.{IsRefutedBySteps}
use Rattle.plank_method.specs.Runs.{IsSiftedAt, IsHadFrom}
use Rattle.plank_method.proofs.runs.Locations.after_steps.Given as goal

abbrev pub invariant-loop-from : goal.invariant-loop-from
invariant-loop-from g l =
    IsSiftedAt (g.D.Deciding.program l.self.deciding.now) l.self.marks.now l.self.method l.location l.claimed l.left (λ O x. IsHadFrom l.from O x) (λ O x. IsRefutedBySteps O x)
