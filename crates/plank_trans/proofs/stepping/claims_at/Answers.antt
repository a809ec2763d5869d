use Rattle.std.proofs.Common.{List, subst}
use Rattle.plank_query.specs.declared.predicates.Claim.{Claim}
use Rattle.plank_query.specs.declared.predicates.Speaker.{Speaker}
use Rattle.plank_claim.specs.declared.known.Known.{Known}
use Rattle.plank_claim.specs.Claims.{AddsClaims}
use Rattle.plank_trans.proofs.stepping.claims_at.Goals as goal

pub returns : goal.returns
returns c =
    subst (λ (old : List Claim). AddsClaims c.args.program.now c.args.marks.now c.args.at.method c.args.at.location Speaker.Own Known.All old c.add_claims.new.claims.items) c.new-claims.ensures.items c.in_ok-add_claims.ensures
