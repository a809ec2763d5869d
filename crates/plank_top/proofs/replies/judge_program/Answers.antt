use Rattle.std.proofs.lemmas.Result.{IfOk-weaker}
use Rattle.plank_top.specs.Answers.{judged}
use Rattle.plank_top.proofs.replies.judge_program.Goals as goal

pub returns : goal.returns
returns g c =
    IfOk-weaker c.tell-reply.result _ _ (λ r h t typed. judged c.args.program.now typed c.in_ok-said.said c.in_ok-said.ensures h) c.tell-reply.ensures
