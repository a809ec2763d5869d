use Rattle.std.proofs.Common.{◌≡◌, true, [], subst}
use Rattle.plank_query.specs.declared.predicates.Predicate.{Predicate}
use Rattle.plank_query.specs.Predicates.{holds}
use Rattle.plank_claim.specs.Claims.{Adds}
use Rattle.plank_past.specs.Adding.{AreTrueOfOwn, IsTrueIfGiven}
use Rattle.plank_past.proofs.Claims.{adds_two}
use Rattle.plank_past.proofs.past.claims_at_once.Goals as goal

pub returns : goal.returns
returns c = λ h.
    let u = c.args.hinds.now in
    let first = subst (λ old. Adds h old c.add_true.new.claims.items (AreTrueOfOwn u.lasting.now)) c.new-claims.ensures.items (c.in_ok-add_true.ensures h) in
    adds_two h (λ S p. AreTrueOfOwn u.lasting.now S p × (holds h S p (Predicate.IsWitnessed u.past) ≡ true)) (IsTrueIfGiven u.present) [] c.add.new.claims.items c.add_given.new.claims.items
    (adds_two h (AreTrueOfOwn u.lasting.now) (λ S p. holds h S p (Predicate.IsWitnessed u.past) ≡ true) [] c.add_true.new.claims.items c.add.new.claims.items first (c.in_ok-add.ensures h))
    (c.in_ok-add_given.ensures h)
