use Rattle.std.specs.Prelude.{Bool, List, length}
use Rattle.std.proofs.Common.{sym, ap, subst, ◌∙◌}
use Rattle.plank_claim.specs.Asked.{AreReached}
use Rattle.plank_demand.proofs.Replies.{one_reached}
use Rattle.plank_demand.proofs.reached.one_is_reached.Goals as goal

pub returns : goal.returns
returns g c =
    let h = c.args.program.now.header in
    one_reached h c.args.situation c.args.claims.now c.args.goals.now c.as_slice.result.now (ap length c.as_slice.ensures.value ∙ c.in_ok-answers.ensures.count)
    (subst (λ (bs : List Bool). AreReached h c.args.situation c.args.claims.now c.args.goals.now bs) (sym c.as_slice.ensures.value) c.in_ok-answers.ensures.exact)
    c.one_is_true.result c.one_is_true.ensures
