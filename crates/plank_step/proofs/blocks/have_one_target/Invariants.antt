use Rattle.std.proofs.Common.{◌≡◌, ℕ, Bool, false}
use Rattle.plank_pic.specs.Below.{some_below}
use Rattle.plank_pic.specs.Blocks.{pointed}
use Rattle.plank_walk.specs.Settles.{Agrees}
use Rattle.plank_step.specs.Turns.{both_are}
use Rattle.plank_step.proofs.blocks.have_one_target.Given as goal

-- none so far
abbrev pub invariant-loop-to : goal.invariant-loop-to
invariant-loop-to g l = (full : ℕ → Bool) → Agrees (g.S.Reader.known l.source) full →
    some_below (both_are (pointed (g.T.TakesTurn.turn l.turn) (g.S.Reader.picture l.source full) l.left) (pointed (g.T.TakesTurn.turn l.turn) (g.S.Reader.picture l.source full) l.right)) l.to ≡ false
