use Rattle.std.proofs.Common.{refl}
use Rattle.std.proofs.lemmas.Bool.{false≢true}
use Rattle.plank_judge.specs.Verdicts.{outline_of}
use Rattle.plank_demand.proofs.Marked.{marked_so, none_so}
use Rattle.plank_demand.proofs.here.Here.is_marked.Goals as goal

pub returns-in-Some : goal.returns-in-Some
returns-in-Some g c = λ x xm xl.
    let O = outline_of c.args.self.now.program.now c.args.self.now.marks.now in
    marked_so O x c.args.self.now.at.method xm c.args.fact.now c.in-Some.field-0 c.in-Some.ensures.found c.is_claimed.result (c.is_claimed.ensures x xm xl)

pub returns-in-None : goal.returns-in-None
returns-in-None g c = λ x xm xl.
    let O = outline_of c.args.self.now.program.now c.args.self.now.marks.now in
    ((λ e. absurd (false≢true e)), (λ w. absurd (none_so O x c.args.self.now.at.method xm c.args.fact.now (c.in-None.ensures.none refl) w)))
