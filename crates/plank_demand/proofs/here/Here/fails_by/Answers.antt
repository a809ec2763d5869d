use Rattle.std.proofs.Common.{subst}
use Rattle.std.proofs.lemmas.Bool.{false≢true}
use Rattle.plank_fact.specs.Obligations.{FailsThere}
use Rattle.plank_fact.proofs.Publishing.{publish_cannot_fail}
use Rattle.plank_judge.specs.Verdicts.{outline_of}
use Rattle.plank_demand.proofs.here.Here.fails_by.Goals as goal

pub returns-in-Publish : goal.returns-in-Publish
returns-in-Publish g c = λ x xm xl at.
    let O = outline_of c.args.self.now.program.now c.args.self.now.marks.now in
    ((λ e. absurd (false≢true e)), (λ w. absurd (publish_cannot_fail O x (subst (λ k. FailsThere k O x) c.in-Publish.is w))))
