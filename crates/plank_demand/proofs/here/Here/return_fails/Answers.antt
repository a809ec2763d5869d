use Rattle.std.proofs.Common.{◌∙◌}
use Rattle.std.proofs.lemmas.Bool.{false≢true}
use Rattle.plank_judge.specs.Verdicts.{outline_of}
use Rattle.plank_demand.proofs.Marked.{answer_from, answer_to, no_block, no_copy, no_new}
use Rattle.plank_demand.proofs.here.Here.return_fails.Goals as goal

pub returns-in-Return : goal.returns-in-Return
returns-in-Return g c = λ x xm xl kind here.
    let O = outline_of c.args.self.now.program.now c.args.self.now.marks.now in
    let so = c.lacks.ensures x xm xl in (
      (λ e. answer_from O x c.args.op c.in-Return.answer kind (here ∙ c.in-Return.is) (so.0 e)),
      (λ w. so.1 (answer_to O x c.args.op c.in-Return.answer kind (here ∙ c.in-Return.is) w)),
    )

pub returns-in-Block : goal.returns-in-Block
returns-in-Block g c = λ x xm xl kind here. ((λ e. absurd (false≢true e)), (λ w. absurd (no_block (outline_of c.args.self.now.program.now c.args.self.now.marks.now) x _ (here ∙ c.in-Block.is) w)))

pub returns-in-Copy : goal.returns-in-Copy
returns-in-Copy g c = λ x xm xl kind here. ((λ e. absurd (false≢true e)), (λ w. absurd (no_copy (outline_of c.args.self.now.program.now c.args.self.now.marks.now) x _ _ _ (here ∙ c.in-Copy.is) w)))

pub returns-in-New : goal.returns-in-New
returns-in-New g c = λ x xm xl kind here. ((λ e. absurd (false≢true e)), (λ w. absurd (no_new (outline_of c.args.self.now.program.now c.args.self.now.marks.now) x _ _ (here ∙ c.in-New.is) w)))
