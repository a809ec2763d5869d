use Rattle.std.proofs.Common.{subst, sym}
use Rattle.plank_judge.specs.Verdicts.{outline_of}
use Rattle.plank_verdict.specs.Effects.{AreEffectsBefore}
use Rattle.plank_verdict.proofs.effects.list_effects.Goals as goal

pub loop-method-init : goal.loop-method-init
loop-method-init g c = subst (λ es. AreEffectsBefore (outline_of c.args.program.now c.args.marks.now) 0 0 es) (sym c.new-effects.ensures.items) AreEffectsBefore.none
