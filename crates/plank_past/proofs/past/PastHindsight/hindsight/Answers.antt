use Rattle.std.proofs.Common.{refl, sym, ◌∙◌}
use Rattle.plank_past.proofs.past.PastHindsight.hindsight.Goals as goal

pub returns : goal.returns
returns g c = λ method called.
    let exact = c.in_ok-found.ensures.exact method called 0 c.args.hind.now.conclusion refl in
    (λ is. exact.0 (sym c.has.ensures.value ∙ is), λ rule. c.has.ensures.value ∙ exact.1 rule)
