use Rattle.std.proofs.Common.{◌≡◌, true, false, [], subst}
use Rattle.plank_bits.specs.Words.{has}
use Rattle.plank_fact.specs.Forced.{outline}
use Rattle.plank_query.specs.declared.predicates.Predicate.{Predicate}
use Rattle.plank_query.specs.declared.predicates.Speaker.{Speaker}
use Rattle.plank_query.specs.Predicates.{holds}
use Rattle.plank_claim.specs.Claims.{Adds}
use Rattle.plank_past.specs.Refuting.{AreKnown}
use Rattle.plank_past.specs.Adding.{AreTrueOfOwn, AddsOne}
use Rattle.plank_past.proofs.Claims.{adds_two}
use Rattle.plank_past.proofs.past.Asked.claims_before.Goals as goal

pub returns : goal.returns
returns g c = λ x of_method of_location.
    let h = c.args.self.now.program.now.header in
    let u = c.args.self.now.hinds.now in
    let b = c.args.present in
    let O = outline c.args.self.now.program.now.header c.args.self.now.program.now.methods (has c.args.self.now.marks.now) in
    let known = AreKnown O x c.args.block.now in
    let lasts = AreTrueOfOwn u.lasting.now in
    let first = subst (λ old. Adds h old c.add_claims.new.claims.items known) c.new-claims.ensures.items (c.in_ok-add_claims.ensures x of_method of_location) in
    let last = subst (λ P. AddsOne c.add.new.claims.items c.add-2.new.claims.items P false) c.own.ensures c.in_ok-add-2.ensures in
    adds_two h (λ S p. (known S p × lasts S p) × (holds h S p (Predicate.IsNodeShared u.past) ≡ true)) (λ S p. holds h S p (Predicate.IsTrue Speaker.Own b) ≡ false) [] c.add.new.claims.items c.add-2.new.claims.items
    (adds_two h (λ S p. known S p × lasts S p) (λ S p. holds h S p (Predicate.IsNodeShared u.past) ≡ true) [] c.add_true.new.claims.items c.add.new.claims.items
    (adds_two h known lasts [] c.add_claims.new.claims.items c.add_true.new.claims.items first (c.in_ok-add_true.ensures h)) (c.in_ok-add.ensures h))
    (last h)
