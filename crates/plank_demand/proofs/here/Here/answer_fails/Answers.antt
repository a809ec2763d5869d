use Rattle.std.proofs.Common.{sym, ◌∙◌}
use Rattle.std.proofs.lemmas.Bool.{false≢true}
use Rattle.plank_judge.specs.Verdicts.{outline_of}
use Rattle.plank_demand.proofs.Marked.{no_upkeep}
use Rattle.plank_demand.proofs.here.Here.answer_fails.Goals as goal

pub returns-in-Set : goal.returns-in-Set
returns-in-Set g c = λ x xm xl at. c.return_fails.ensures x xm xl (c.kind.ensures x xm xl ∙ c.in-Set.is) (sym at.action)

pub returns-in-Upkeep : goal.returns-in-Upkeep
returns-in-Upkeep g c = λ x xm xl at.
    ((λ e. absurd (false≢true e)), (λ w. absurd (no_upkeep (outline_of c.args.self.now.program.now c.args.self.now.marks.now) x (c.kind.ensures x xm xl ∙ c.in-Upkeep.is) w)))
