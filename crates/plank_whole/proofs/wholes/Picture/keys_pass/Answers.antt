-- An order by ranks is one.
use Rattle.std.proofs.Common.{◌≡◌, true, sym, ◌∙◌, subst}
use Rattle.std.specs.List.{list_all}
use Rattle.plank_lawful.specs.declared.families.Family.{Family}
use Rattle.plank_whole.specs.Wholes.{frame_of}
use Rattle.plank_whole.specs.Judging.{meets}
use Rattle.plank_lawful.specs.Lists.{rules_of}
use Rattle.plank_whole.proofs.Ordered.{order_passes, total_passes}
use Rattle.plank_whole.proofs.wholes.Picture.keys_pass.Goals as goal

pub returns-in-Total : goal.returns-in-Total
returns-in-Total c = λ e.
    let w = c.args.self.now in
    subst (λ rule. list_all (meets w) (rules_of (frame_of w) (Family.Keys rule)) ≡ true) (sym c.in-Total.is)
    (total_passes w c.ranks.result (sym c.order_is_ranked.ensures ∙ e))

pub returns-in-InOrder : goal.returns-in-InOrder
returns-in-InOrder c = λ e.
    let w = c.args.self.now in
    subst (λ rule. list_all (meets w) (rules_of (frame_of w) (Family.Keys rule)) ≡ true) (sym c.in-InOrder.is)
    (order_passes w c.ranks-in-InOrder.result (sym c.order_is_ranked-in-InOrder.ensures ∙ e))
