use Rattle.std.proofs.Common.{subst}
use Rattle.plank_prog.specs.declared.programs.Program.{Program}
use Rattle.plank_bits.specs.Words.{has}
use Rattle.plank_judge.specs.Verdicts.{outline_of}
use Rattle.plank_verdict.specs.Effects.{AreEffects}
use Rattle.plank_verdict.proofs.judging.judge_at.Goals as goal

pub returns : goal.returns
returns g c = record {
  marks = has c.args.marks.now;
  least = c.requires.least;
  valid = c.requires.valid;
  verdict = c.in_ok-verdict.ensures;
  effects = subst (λ (p : Program). AreEffects (outline_of p c.args.marks.now) c.in_ok-effects.effects) c.program.ensures c.in_ok-effects.ensures;
}
