use Rattle.std.proofs.Common.{◌≡◌, ℕ, Bool, false}
use Rattle.plank_pic.specs.Below.{some_below}
use Rattle.plank_pic.specs.Pictures.{leads_to}
use Rattle.plank_walk.specs.Settles.{Agrees}
use Rattle.plank_walk.proofs.naming.leads_to_some.Given as goal

-- none so far
abbrev pub invariant-loop-to : goal.invariant-loop-to
invariant-loop-to g l = (full : ℕ → Bool) → Agrees (g.S.Reader.known l.source) full → some_below (leads_to (g.S.Reader.picture l.source full) l.at) l.to ≡ false
