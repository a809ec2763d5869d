use Rattle.std.proofs.Common.{◌≡◌, take, drop}
use Rattle.std.specs.Prelude.{map}
use Rattle.plank_hist.specs.Objects.{legal_from}
use Rattle.plank_hist.specs.Sets.{set_of_keys, finished, holds_after, is_legal_of_set}
use Rattle.plank_hist.proofs.calls.is_legal.Given as goal

abbrev pub invariant-loop-place : goal.invariant-loop-place
invariant-loop-place l =
    legal_from set_of_keys (holds_after (take l.place l.calls)) (map finished (drop l.place l.calls)) ≡ is_legal_of_set l.calls
