use Rattle.std.proofs.Common.{◌≡◌, ℕ, Bool, false, None}
use Rattle.plank_pic.specs.Below.{some_below, least_below}
use Rattle.plank_pic.specs.Pictures.{is_picked_from}
use Rattle.plank_walk.specs.Settles.{Agrees}
use Rattle.plank_walk.proofs.edges.is_picked.Given as goal

-- none so far
abbrev pub invariant-loop-from : goal.invariant-loop-from
invariant-loop-from g l = (full : ℕ → Bool) → Agrees (g.S.Reader.known l.source) full → some_below (is_picked_from (g.S.Reader.frame l.source) (g.S.Reader.picture l.source full) l.key l.slot) l.from ≡ false
