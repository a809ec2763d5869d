use Rattle.std.proofs.Common.{◌≡◌, ℕ, Bool, drop}
use Rattle.plank_pic.specs.Blocks.{one_fails}
use Rattle.plank_walk.specs.Settles.{Agrees}
use Rattle.plank_step.proofs.blocks.one_fails.Given as goal

-- what is left decides as the whole does
abbrev pub invariant-loop-test : goal.invariant-loop-test
invariant-loop-test g l = (full : ℕ → Bool) → Agrees (g.S.Reader.known l.source) full →
    one_fails (g.S.Reader.frame l.source) (g.T.TakesTurn.turn l.turn) (g.S.Reader.picture l.source full) (drop l.test-index l.tests)
    ≡ one_fails (g.S.Reader.frame l.source) (g.T.TakesTurn.turn l.turn) (g.S.Reader.picture l.source full) l.tests
