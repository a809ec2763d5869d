-- What was judged of a program, put together; and that where it is accepted all obligations hold.
use Rattle.std.specs.Prelude.{◌≡◌}
use Rattle.std.proofs.Common.{subst}
use Rattle.plank_fact.specs.Outlines.{Outline}
use Rattle.plank_fact.specs.Obligations.{AllHold}
use Rattle.plank_judge.specs.declared.verdicts.Verdict.{Verdict}
use Rattle.plank_judge.specs.Verdicts.{IsVerdict}

pub holding : (O : Outline) (verdict : Verdict) → IsVerdict O verdict → verdict ≡ Verdict.Accepted → AllHold O
holding O verdict is same = subst (λ v. IsVerdict O v) same is
