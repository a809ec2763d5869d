use Rattle.plank_search.proofs.Claims.{more-claims}
use Rattle.plank_search.proofs.steps.put_claims.Goals as goal

pub loop-claim-preserved : goal.loop-claim-preserved
loop-claim-preserved c =
    let more = more-claims c.args.claims.now c.args.values.now c.loop-claim.values c.put_claim.new.values c.loop-claim.claim-index _ c.loop-claim-test.true
    c.loop-claim.invariant.follow c.loop-claim.invariant.put c.if-not-put_claim.ensures in
    record { follow = more.0; put = more.1 }
