use Rattle.std.proofs.Common.{◌≡◌, ℕ, Bool, false, None}
use Rattle.plank_pic.specs.Below.{some_below, least_below}
use Rattle.plank_pic.specs.Pictures.{leads_to}
use Rattle.plank_walk.specs.Settles.{Agrees}
use Rattle.plank_walk.proofs.edges.first_led.Given as goal

-- none so far
abbrev pub invariant-loop-to : goal.invariant-loop-to
invariant-loop-to g l = (full : ℕ → Bool) → Agrees (g.S.Reader.known l.source) full → least_below (leads_to (g.S.Reader.picture l.source full) l.at) l.to ≡ None
