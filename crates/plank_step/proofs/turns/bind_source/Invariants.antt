use Rattle.std.proofs.Common.{◌≡◌, drop}
use Rattle.plank_pic.specs.Blocks.{bind_source}
use Rattle.plank_step.proofs.turns.bind_source.Given as goal

-- what is left decides as the whole does
abbrev pub invariant-loop-bind : goal.invariant-loop-bind
invariant-loop-bind g l = bind_source (g.T.TakesTurn.turn l.turn) l.name (drop l.bind-index l.binds) ≡ bind_source (g.T.TakesTurn.turn l.turn) l.name l.binds
