-- What is said of a program that was judged.
use Rattle.std.specs.Prelude.{ℕ, Bool}
use Rattle.plank_prog.specs.declared.programs.Program.{Program}
use Rattle.plank_fact.specs.Forced.{outline, AreLeastMarks, IsValid}
use Rattle.plank_judge.specs.Verdicts.{IsVerdict}
use Rattle.plank_verdict.specs.declared.judging.Judged.{Judged}
use Rattle.plank_verdict.specs.Effects.{AreEffects}

-- the program was judged at its least marks: each claim is justified there, the verdict is that of the obligations, and
-- the effects are those there
pub record IsJudged (p : Program) (judged : Judged) : Type 0 where
  pub marks : ℕ → Bool
  pub least : AreLeastMarks p.header p.methods marks
  pub valid : IsValid (outline p.header p.methods marks)
  pub verdict : IsVerdict (outline p.header p.methods marks) judged.verdict
  pub effects : AreEffects (outline p.header p.methods marks) judged.effects
