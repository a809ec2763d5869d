use Rattle.std.proofs.Common.{◌≡◌, ℕ, Bool, false}
use Rattle.plank_pic.specs.Below.{some_below}
use Rattle.plank_walk.specs.Settles.{Agrees}
use Rattle.plank_step.specs.Sources.{both_lead}
use Rattle.plank_step.proofs.renaming.lead_to_one.Given as goal

-- none so far
abbrev pub invariant-loop-to : goal.invariant-loop-to
invariant-loop-to g l = (full : ℕ → Bool) → Agrees (g.S.Reader.known l.between) full → some_below (both_lead (g.S.Reader.picture l.between full) l.left l.right) l.to ≡ false
