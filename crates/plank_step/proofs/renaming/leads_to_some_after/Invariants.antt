use Rattle.std.proofs.Common.{◌≡◌, ℕ, Bool, false}
use Rattle.plank_pic.specs.Below.{some_below}
use Rattle.plank_pic.specs.Steps.{leads_after}
use Rattle.plank_walk.specs.Settles.{Agrees}
use Rattle.plank_step.specs.Sources.{sources}
use Rattle.plank_step.proofs.renaming.leads_to_some_after.Given as goal

-- none so far
abbrev pub invariant-loop-to : goal.invariant-loop-to
invariant-loop-to g l = (full : ℕ → Bool) → Agrees (g.S.Reader.known l.between) full →
    some_below (leads_after (g.S.Reader.frame l.between) (sources (g.T.TakesTurn.turn l.turn) l.kept) (g.S.Reader.picture l.between full) l.at) l.to ≡ false
