use Rattle.std.proofs.Common.{List, sym, subst}
use Rattle.plank_query.specs.declared.predicates.Claim.{Claim}
use Rattle.plank_trans.specs.Entry.{AreOfEntry}
use Rattle.plank_trans.proofs.entering.entry.Goals as goal

pub invariant_of-entering-clause-claims_are : goal.invariant_of-entering-clause-claims_are
invariant_of-entering-clause-claims_are g c = subst (λ (cs : List Claim). AreOfEntry c.in-Some.variables cs) (sym c.as_slice.ensures.value) c.in_ok-claims.ensures
