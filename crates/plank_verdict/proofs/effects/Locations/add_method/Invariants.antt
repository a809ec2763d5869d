-- The effects at the locations so far are listed.
use Rattle.plank_judge.specs.Verdicts.{outline_of}
use Rattle.plank_verdict.specs.Effects.{AreEffectsBefore}
use Rattle.plank_verdict.proofs.effects.Locations.add_method.Given as goal

abbrev pub invariant-loop-location : goal.invariant-loop-location
invariant-loop-location g l = AreEffectsBefore (outline_of l.self.program.now l.self.marks.now) l.method l.location l.effects.items
