-- The effects of the methods so far are listed.
use Rattle.plank_judge.specs.Verdicts.{outline_of}
use Rattle.plank_verdict.specs.Effects.{AreEffectsBefore}
use Rattle.plank_verdict.proofs.effects.list_effects.Given as goal

abbrev pub invariant-loop-method : goal.invariant-loop-method
invariant-loop-method g l = AreEffectsBefore (outline_of l.program l.marks) l.method 0 l.effects.items
