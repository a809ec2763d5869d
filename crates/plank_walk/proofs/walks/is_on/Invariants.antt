use Rattle.std.proofs.Common.{◌≡◌, ℕ, Bool, drop}
use Rattle.plank_walk.specs.Settles.{Agrees}
use Rattle.plank_walk.specs.Walks.{is_on}
use Rattle.plank_walk.proofs.walks.is_on.Given as goal

-- what is left decides as the whole does
abbrev pub invariant-loop-passed : goal.invariant-loop-passed
invariant-loop-passed g l = (full : ℕ → Bool) → Agrees (g.S.Reader.known l.source) full →
    is_on (g.S.Reader.picture l.source full) (drop l.passed-index l.path) l.name ≡ is_on (g.S.Reader.picture l.source full) l.path l.name
