use Rattle.std.proofs.Common.{arith}
use Rattle.plank_sem.proofs.CallMoments.{pending_has_age, newest_moment, moment_is_world, younger}
use Rattle.plank_sem.proofs.laws.call_moments_law.Goals as goal

pub returns : goal.returns
returns c = record {
  begun = λ h methods choices told g ghosts run thread call at.
      let has = pending_has_age run thread call at in (has.age, has.begun, younger thread choices has.age has.begun);
  newest = λ h methods choices told g ghosts run thread call at. newest_moment thread choices g ghosts (pending_has_age run thread call at);
  worlds = λ thread choices ghosts n age g begun at.
      let found = moment_is_world thread choices ghosts n g age begun at in let below = found.0 in (omega arith, found.1);
}
