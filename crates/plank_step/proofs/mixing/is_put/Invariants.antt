use Rattle.std.proofs.Common.{◌≡◌, ℕ, Bool, false}
use Rattle.plank_pic.specs.Below.{some_below}
use Rattle.plank_walk.specs.Settles.{Agrees}
use Rattle.plank_step.specs.Turns.{change_over, puts}
use Rattle.plank_step.proofs.mixing.is_put.Given as goal

-- none so far
abbrev pub invariant-loop-pointer : goal.invariant-loop-pointer
invariant-loop-pointer g l = (full : ℕ → Bool) → Agrees (g.S.Reader.known l.before) full →
    some_below (puts (g.S.Reader.picture l.before full) (change_over (g.T.TakesTurn.turn l.turn) l.writes) l.name) l.pointer ≡ false
