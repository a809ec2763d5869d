use Rattle.std.specs.Prelude.{◌≡◌, Bool, List, length}
use Rattle.std.proofs.Common.{sym, ap, subst, ◌∙◌, rules}
use Rattle.plank_claim.specs.Asked.{AreReached}
use Rattle.plank_demand.proofs.Replies.{both_reached}
use Rattle.plank_demand.proofs.reached.both_are_reached.Goals as goal

pub returns : goal.returns
returns g c =
    let h = c.args.program.now.header in
    let two : length c.args.goals.now ≡ 2 = search rules in
    both_reached h c.args.situation c.args.claims.now c.args.goals.now c.as_slice.result.now (ap length c.as_slice.ensures.value ∙ c.in_ok-answers.ensures.count)
    (subst (λ (bs : List Bool). AreReached h c.args.situation c.args.claims.now c.args.goals.now bs) (sym c.as_slice.ensures.value) c.in_ok-answers.ensures.exact)
    two c.both_are_true.result c.both_are_true.ensures
