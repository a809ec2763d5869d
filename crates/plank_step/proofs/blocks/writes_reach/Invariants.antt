use Rattle.std.proofs.Common.{◌≡◌, ℕ, Bool, drop}
use Rattle.std.specs.List.{list_all}
use Rattle.plank_step.specs.Turns.{write_reaches}
use Rattle.plank_walk.specs.Settles.{Agrees}
use Rattle.plank_step.proofs.blocks.writes_reach.Given as goal

-- what is left decides as the whole does
abbrev pub invariant-loop-write : goal.invariant-loop-write
invariant-loop-write g l = (full : ℕ → Bool) → Agrees (g.S.Reader.known l.source) full →
    list_all (write_reaches (g.T.TakesTurn.turn l.turn) (g.S.Reader.picture l.source full)) (drop l.write-index l.writes)
    ≡ list_all (write_reaches (g.T.TakesTurn.turn l.turn) (g.S.Reader.picture l.source full)) l.writes
