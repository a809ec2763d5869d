-- The values so far follow from those at the start, and leave no choice of the claims so far.
use Rattle.std.proofs.Common.{◌≡◌, true, take}
use Rattle.plank_search.specs.Assignments.{AllAgree, Narrows}
use Rattle.plank_search.specs.Meanings.{claims_hold}
use Rattle.plank_search.proofs.steps.put_claims.Given as goal

abbrev pub invariant-loop-claim : goal.invariant-loop-claim
invariant-loop-claim l = record {
  follow : Narrows (λ full. claims_hold full l.claims ≡ true) l.initial.values l.values;
  put : AllAgree (λ full. claims_hold full (take l.claim-index l.claims) ≡ true) l.values;
}
