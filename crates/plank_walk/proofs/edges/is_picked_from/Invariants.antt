use Rattle.std.proofs.Common.{◌≡◌, ℕ, Bool, false, None}
use Rattle.plank_pic.specs.Below.{some_below, least_below}
use Rattle.plank_pic.specs.Pictures.{picks_from}
use Rattle.plank_walk.specs.Settles.{Agrees}
use Rattle.plank_walk.proofs.edges.is_picked_from.Given as goal

-- none so far
abbrev pub invariant-loop-to : goal.invariant-loop-to
invariant-loop-to g l = (full : ℕ → Bool) → Agrees (g.S.Reader.known l.source) full → some_below (picks_from (g.S.Reader.picture l.source full) l.key l.slot l.from) l.to ≡ false
