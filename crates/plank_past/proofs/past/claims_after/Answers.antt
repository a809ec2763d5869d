use Rattle.std.proofs.Common.{true, subst}
use Rattle.plank_query.specs.declared.predicates.Predicate.{Predicate}
use Rattle.plank_query.specs.declared.predicates.Speaker.{Speaker}
use Rattle.plank_past.specs.Adding.{AddsOne}
use Rattle.plank_past.proofs.past.claims_after.Goals as goal

pub returns : goal.returns
returns c =
    let said = subst (λ P. AddsOne c.new-claims.result.items c.add.new.claims.items P true) c.own.ensures c.in_ok-add.ensures in
    subst (λ old. AddsOne old c.add.new.claims.items (Predicate.IsTrue Speaker.Own c.args.present) true) c.new-claims.ensures.items said
