use Rattle.std.proofs.lemmas.Result.{IfOk-weaker}
use Rattle.plank_top.specs.Trees.{IsTextOf}
use Rattle.plank_top.specs.Traced.{unreadable, readable}
use Rattle.plank_top.proofs.traced.run_bytes.Goals as goal

pub returns-in-Text : goal.returns-in-Text
returns-in-Text c =
    let read : IsTextOf c.args.bytes.now c.in-Text.text = rw c.in-Text.is at c.in_ok-text.ensures in
    IfOk-weaker c.run_text-reply.result _ _ (λ r h. readable c.requires.within c.in-Text.text read h) c.run_text-reply.ensures

pub returns-in-Refused : goal.returns-in-Refused
returns-in-Refused c =
    let refused = rw c.in-Refused.is at c.in_ok-text.ensures in
    IfOk-weaker c.refuse.result _ _ (λ r h. unreadable c.requires.within c.in-Refused.status refused h) c.refuse.ensures
