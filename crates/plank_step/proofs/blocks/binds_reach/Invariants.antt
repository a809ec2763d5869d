use Rattle.std.proofs.Common.{◌≡◌, ℕ, Bool, drop}
use Rattle.std.specs.List.{list_all}
use Rattle.plank_step.specs.Turns.{bind_reaches}
use Rattle.plank_walk.specs.Settles.{Agrees}
use Rattle.plank_step.proofs.blocks.binds_reach.Given as goal

-- what is left decides as the whole does
abbrev pub invariant-loop-bind : goal.invariant-loop-bind
invariant-loop-bind g l = (full : ℕ → Bool) → Agrees (g.S.Reader.known l.source) full →
    list_all (bind_reaches (g.T.TakesTurn.turn l.turn) (g.S.Reader.picture l.source full)) (drop l.bind-index l.binds)
    ≡ list_all (bind_reaches (g.T.TakesTurn.turn l.turn) (g.S.Reader.picture l.source full)) l.binds
