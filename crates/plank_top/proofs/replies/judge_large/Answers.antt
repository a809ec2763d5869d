use Rattle.std.proofs.Common.{ℕ, List, ◌∙◌, subst}
use Rattle.std.specs.Prelude.{IfOk}
use Rattle.plank_top.specs.declared.replies.Telling.TheVariants.{Summary}
use Rattle.plank_top.specs.Answers.{IsJudgingAnswer}
use Rattle.plank_top.specs.Replies.{answer_in}
use Rattle.plank_top.proofs.replies.judge_large.Goals as goal

pub returns : goal.returns
returns g c =
    subst (λ (text : List ℕ). IfOk c.judge_bytes.result (λ r. IsJudgingAnswer (Summary c.args.methods) text (answer_in r)))
    (c.deref.ensures.value ∙ c.in_ok-text.ensures.text) c.judge_bytes.ensures
