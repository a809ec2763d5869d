use Rattle.std.proofs.Common.{◌≡◌, ℕ, Bool, None}
use Rattle.plank_pic.specs.Below.{least_below}
use Rattle.plank_pic.specs.Outcomes.{is_same}
use Rattle.plank_walk.specs.Settles.{Agrees}
use Rattle.plank_walk.proofs.walks.first_name.Given as goal

-- none so far
abbrev pub invariant-loop-other : goal.invariant-loop-other
invariant-loop-other g l = (full : ℕ → Bool) → Agrees (g.S.Reader.known l.source) full → least_below (is_same (g.S.Reader.picture l.source full) l.name) l.other ≡ None
