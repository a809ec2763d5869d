use Rattle.std.proofs.Common.{◌≡◌, ℕ, Bool, false, None}
use Rattle.plank_pic.specs.Below.{some_below, least_below}
use Rattle.plank_pic.specs.Pictures.{goes}
use Rattle.plank_walk.specs.Settles.{Agrees}
use Rattle.plank_walk.proofs.edges.edge.Given as goal

-- none so far
abbrev pub invariant-loop-pointer : goal.invariant-loop-pointer
invariant-loop-pointer g l = (full : ℕ → Bool) → Agrees (g.S.Reader.known l.source) full → least_below (goes (g.S.Reader.frame l.source).header (g.S.Reader.picture l.source full) l.key l.name) l.pointer ≡ None
