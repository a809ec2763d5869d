use Rattle.std.specs.Prelude.{◌≡◌, ◌↔◌, true}
use Rattle.std.proofs.Common.{sym, subst}
use Rattle.std.proofs.lemmas.Result.{IfOk-weaker}
use Rattle.plank_fact.specs.Obligations.{FailsAs}
use Rattle.plank_judge.specs.Verdicts.{outline_of}
use Rattle.plank_demand.proofs.AtItsPoint.{of_location}
use Rattle.plank_demand.proofs.demanded.AskingDemands.fails.Goals as goal

pub returns-in-Start : goal.returns-in-Start
returns-in-Start g c =
    let O = outline_of c.args.self.now.program.now c.args.marks.now in
    IfOk-weaker c.start_fails.result _ _ (λ b so. subst (λ k. (b ≡ true) ↔ FailsAs k O c.args.obligation.now) (sym c.in-Start.is) so) c.start_fails.ensures

pub returns-in-Edges : goal.returns-in-Edges
returns-in-Edges g c =
    let O = outline_of c.args.self.now.program.now c.args.marks.now in
    IfOk-weaker c.edges_fail.result _ _ (λ b so. subst (λ k. (b ≡ true) ↔ FailsAs k O c.args.obligation.now) (sym c.in-Edges.is) so) c.edges_fail.ensures

pub returns-in_default : goal.returns-in_default
returns-in_default g c =
    let O = outline_of c.args.self.now.program.now c.args.marks.now in
    IfOk-weaker c.fails_there.result _ _ (λ b so. of_location O c.args.obligation.now c.args.obligation.now.kind c.in_default.not-Start c.in_default.not-Edges b so) c.fails_there.ensures
